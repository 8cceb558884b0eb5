pub mod Piece
pub mod Join
pub mod Union
pub mod Pieces
pub mod Test
mod Cases
