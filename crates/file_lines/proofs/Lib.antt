pub mod Spaces
pub mod Names
pub mod Words
pub mod Values
pub mod ReadUpTo
