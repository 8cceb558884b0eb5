pub mod Polar
pub mod Decompose
pub mod means
