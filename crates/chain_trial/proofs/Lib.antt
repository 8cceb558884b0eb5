pub mod Beside
pub mod Blocks
pub mod Try
pub mod Kept
