pub mod Numbers
pub mod Stored
pub mod Finite
pub mod Pose
pub mod Cases
pub mod Operands
