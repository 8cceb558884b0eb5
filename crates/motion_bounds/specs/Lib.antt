-- Definitions of motion boxes.
pub mod MotionBounds
pub mod Examined
pub mod Answer
pub mod means
pub use Rattle.animated_transform.specs as animated_transform
pub use Rattle.axis_derivative.specs as axis_derivative
pub use Rattle.bounds3.specs as bounds3
pub use Rattle.bounds_query.specs as bounds_query
pub use Rattle.transform.specs.control_flow
pub use Rattle.float32.specs as float32
pub use Rattle.zero_list.specs.float_bits
pub use Rattle.transform.specs.matrix4x4
pub use Rattle.motion_point.specs as motion_point
pub use Rattle.animated_transform.specs.pose_pair
pub use Rattle.pose_steps.specs as pose_steps
pub use Rattle.axis_derivative.specs.quaternion
pub use Rattle.float32.specs.rounding
pub use Rattle.transform.specs as transform
pub use Rattle.transform.specs.vector3
pub use Rattle.zero_list.specs as zero_list
pub use Rattle.zero_search.specs as zero_search
