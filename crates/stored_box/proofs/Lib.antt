-- Laws and cases of a stored transform over a box.
pub mod Row
pub mod Corners
pub mod StoredBox
mod Cases
pub use Rattle.pose_steps.proofs.arc_cosine
pub use Rattle.bounds_query.proofs.bounds3
pub use Rattle.bounds_query.proofs as bounds_query
pub use Rattle.bounds_query.proofs.control_flow
pub use Rattle.bounds_query.proofs.float32
pub use Rattle.pose_steps.proofs as pose_steps
pub use Rattle.pose_steps.proofs.refusal
pub use Rattle.bounds_query.proofs.rounding
pub use Rattle.bounds_query.proofs.transform
pub use Rattle.pose_steps.proofs.unit_interval
