pub mod UnionAll
pub use Rattle.cover_depth.proofs.animated_transform
pub use Rattle.cover_depth.proofs.bounds3
pub use Rattle.cover_depth.proofs.bounds_query
pub use Rattle.cover_depth.proofs.control_flow
pub use Rattle.cover_depth.proofs as cover_depth
pub use Rattle.cover_depth.proofs.float32
pub use Rattle.cover_depth.proofs.motion_cover
pub use Rattle.cover_depth.proofs.motion_pad
pub use Rattle.cover_depth.proofs.motion_point
pub use Rattle.cover_depth.proofs.pose_steps
pub use Rattle.cover_depth.proofs.refusal
pub use Rattle.cover_depth.proofs.rounding
pub use Rattle.cover_depth.proofs.transform
pub use Rattle.cover_depth.proofs.unit_interval
