pub mod Kept
pub mod Files
pub mod Interpolate
pub mod Asked
