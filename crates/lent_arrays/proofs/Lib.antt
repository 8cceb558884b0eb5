pub use Rattle.bounds3.proofs.rounding
pub use Rattle.transform.proofs as transform
