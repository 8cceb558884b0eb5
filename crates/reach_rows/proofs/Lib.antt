pub mod Some
pub mod Named
pub use Rattle.bounds3.proofs as bounds3
pub use Rattle.bounds_overlap.proofs as bounds_overlap
pub use Rattle.bounds3.proofs.rounding
pub use Rattle.lent_arrays.proofs.transform
