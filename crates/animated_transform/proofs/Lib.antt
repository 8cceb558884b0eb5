pub mod Numbers
pub mod Built
pub mod Cases
pub mod Kept
pub use Rattle.pose_pair.proofs as pose_pair
pub use Rattle.refusal.proofs as refusal
