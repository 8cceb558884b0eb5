pub mod Kept
pub mod Union
pub mod Slices
pub mod Same
pub use Rattle.chain_rows.proofs as chain_rows
