pub mod Pairwise
pub mod Carries
pub mod Extends
pub mod Isotone
pub mod Stop
pub mod Stage
pub mod Points
pub mod Regular
