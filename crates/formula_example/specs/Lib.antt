pub mod Normalize
