pub mod GivenRotation
mod Steps
