pub mod Cases
mod Covers
pub mod Guarantee
