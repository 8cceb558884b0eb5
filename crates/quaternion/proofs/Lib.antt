-- Cases of quaternions.
pub mod Cases
pub use Rattle.arc_cosine.proofs as arc_cosine
