pub mod Put
pub mod Pieces
