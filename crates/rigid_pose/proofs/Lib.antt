-- Laws and cases of a rigid pose.
pub mod Numbers
pub mod Cases
pub use Rattle.transform.proofs as transform
