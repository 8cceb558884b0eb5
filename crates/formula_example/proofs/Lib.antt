pub mod Encloses
mod Cases
