pub mod Least
pub mod Halving
pub mod Floor
pub mod Values
pub mod Range
