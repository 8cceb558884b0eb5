pub mod Cover
pub mod Theorem
pub mod Times
pub mod Answer
pub mod means
pub use Rattle.motion_point.specs.animated_transform
pub use Rattle.stored_box.specs.arc_cosine
pub use Rattle.stored_box.specs.bounds3
pub use Rattle.stored_box.specs.bounds_query
pub use Rattle.motion_point.specs.decomposition
pub use Rattle.stored_box.specs.float32
pub use Rattle.stored_box.specs.formula
pub use Rattle.stored_box.specs.interval
pub use Rattle.stored_box.specs.matrix4x4
pub use Rattle.motion_pad.specs as motion_pad
pub use Rattle.motion_point.specs as motion_point
pub use Rattle.motion_point.specs.pose_pair
pub use Rattle.stored_box.specs.pose_steps
pub use Rattle.stored_box.specs.quaternion
pub use Rattle.stored_box.specs.refusal
pub use Rattle.motion_point.specs.rotation_arc
pub use Rattle.stored_box.specs.rounding
pub use Rattle.stored_box.specs.sine_table
pub use Rattle.stored_box.specs as stored_box
pub use Rattle.stored_box.specs.transform
pub use Rattle.stored_box.specs.trig
pub use Rattle.stored_box.specs.unit_interval
