pub mod Answer
pub mod Book
pub use Rattle.motion_bounds.specs.animated_transform
pub use Rattle.motion_bounds.specs.axis_derivative
pub use Rattle.motion_bounds.specs as motion_bounds
pub use Rattle.motion_bounds.specs.motion_point
pub use Rattle.motion_bounds.specs.pose_pair
pub use Rattle.motion_bounds.specs.pose_steps
