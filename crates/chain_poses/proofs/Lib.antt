pub mod Loops
pub use Rattle.motion_chain.proofs.animated_transform
pub use Rattle.motion_chain.proofs.bounds_answers
pub use Rattle.motion_chain.proofs as motion_chain
pub use Rattle.motion_chain.proofs.motion_cover
pub use Rattle.refusal.proofs as refusal_below
pub use Rattle.pose_pair.proofs.transform
