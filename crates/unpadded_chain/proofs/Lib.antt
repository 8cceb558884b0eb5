pub mod Unpadded
pub mod Thirteen
