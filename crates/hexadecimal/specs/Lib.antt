pub mod Digit
pub mod Word
