pub mod means
pub use Rattle.motion_pad.specs.bounds_query
pub use Rattle.motion_cover.specs as motion_cover
pub use Rattle.motion_pad.specs as motion_pad
pub use Rattle.pose_steps.specs as pose_steps
