pub mod Opposite
pub mod DotProduct
