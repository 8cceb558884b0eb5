pub mod Place
pub mod Blocks
