pub mod Joined
pub use Rattle.bounds3.proofs as bounds3
pub use Rattle.bounds_overlap.proofs as bounds_overlap
pub use Rattle.refusal.proofs as refusal
pub use Rattle.transform.proofs as transform
