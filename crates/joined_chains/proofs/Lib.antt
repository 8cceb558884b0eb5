pub mod Union
pub mod Built
pub mod Answers
