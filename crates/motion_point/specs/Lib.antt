pub mod TransformPoint
pub mod PadAt
pub mod Answer
pub mod means
pub use Rattle.animated_transform.specs as animated_transform
pub use Rattle.pose_steps.specs.arc_cosine
pub use Rattle.animated_transform.specs.decomposition
pub use Rattle.animated_transform.specs.pose_pair
pub use Rattle.pose_steps.specs as pose_steps
pub use Rattle.pose_steps.specs.quaternion
pub use Rattle.animated_transform.specs.rotation_arc
pub use Rattle.unit_interval.specs as unit_interval
