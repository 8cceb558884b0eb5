-- Laws of chains.
pub mod Built
pub mod Cover
pub mod MoveAt
pub mod TwoPoses
pub mod Times
pub mod Numbers
pub mod Stretches
pub mod Cases
pub use Rattle.bounds_answers.proofs.animated_transform
pub use Rattle.bounds_answers.proofs.bounds3
pub use Rattle.bounds_answers.proofs as bounds_answers
pub use Rattle.bounds_answers.proofs.bounds_query
pub use Rattle.bounds_answers.proofs.control_flow
pub use Rattle.bounds_answers.proofs.cover_depth
pub use Rattle.bounds_answers.proofs.motion_cover
pub use Rattle.bounds_answers.proofs.motion_pad
pub use Rattle.bounds_answers.proofs.motion_point
pub use Rattle.bounds_answers.proofs.pose_steps
pub use Rattle.bounds_answers.proofs.transform
