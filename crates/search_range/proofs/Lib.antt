pub mod Examined
pub mod Assertions
pub mod Built
pub mod Double
pub mod Newton
pub mod Midpoints
pub mod Rotation
pub mod Far
mod Cases
