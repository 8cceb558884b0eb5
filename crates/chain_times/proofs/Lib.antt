-- Laws of a list of times asked of a kept chain.
pub mod Ends
pub mod Stretches
pub mod Answers
pub mod Numbers
pub mod Points
