pub mod Joined
pub mod Moves
pub use Rattle.chain_rows.proofs as chain_rows
pub use Rattle.motion_fronts.proofs as motion_fronts
