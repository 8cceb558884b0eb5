pub mod NonZero
pub mod Contains
pub mod Times
pub mod Number
pub mod Proper
pub mod Stored
pub mod Slices
mod Values
pub mod Zeros
pub use Rattle.motion_point.proofs.animated_transform
pub use Rattle.stored_box.proofs.arc_cosine
pub use Rattle.stored_box.proofs.bounds3
pub use Rattle.stored_box.proofs.bounds_query
pub use Rattle.stored_box.proofs.control_flow
pub use Rattle.stored_box.proofs.float32
pub use Rattle.motion_pad.proofs as motion_pad
pub use Rattle.motion_point.proofs as motion_point
pub use Rattle.stored_box.proofs.pose_steps
pub use Rattle.stored_box.proofs.refusal
pub use Rattle.stored_box.proofs.rounding
pub use Rattle.stored_box.proofs.transform
pub use Rattle.stored_box.proofs.unit_interval
