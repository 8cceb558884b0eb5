pub mod EnclosePoints
pub use Rattle.pose_steps.specs.arc_cosine
pub use Rattle.bounds_query.specs.bounds3
pub use Rattle.bounds_query.specs as bounds_query
pub use Rattle.bounds_query.specs.float32
pub use Rattle.pose_steps.specs.formula
pub use Rattle.pose_steps.specs.interval
pub use Rattle.bounds_query.specs.matrix4x4
pub use Rattle.pose_steps.specs as pose_steps
pub use Rattle.pose_steps.specs.quaternion
pub use Rattle.pose_steps.specs.refusal
pub use Rattle.bounds_query.specs.rounding
pub use Rattle.pose_steps.specs.sine_table
pub use Rattle.bounds_query.specs.transform
pub use Rattle.pose_steps.specs.trig
pub use Rattle.pose_steps.specs.unit_interval
