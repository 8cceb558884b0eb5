pub mod Query
pub mod Cases
pub mod Guarantee
