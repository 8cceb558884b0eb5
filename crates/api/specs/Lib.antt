pub mod Answers
pub mod Examined
pub mod Kept
pub mod Chains
pub mod Files
pub mod Words
