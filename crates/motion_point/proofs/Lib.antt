pub mod Built
pub mod Query
pub mod NonZero
pub mod PadAt
pub use Rattle.animated_transform.proofs as animated_transform
pub use Rattle.pose_steps.proofs as pose_steps
pub use Rattle.unit_interval.proofs as unit_interval
