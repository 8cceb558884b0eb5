pub mod Acos
pub mod Search
