pub mod Loop
pub mod Choice
pub mod Neighbours
