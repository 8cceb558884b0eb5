pub mod Same
pub use Rattle.lent_arrays.proofs.rounding
