pub mod means
pub use Rattle.lanes.specs as lanes
pub use Rattle.lanes_slerp.specs.pose_lean
pub use Rattle.lanes_slerp.specs.pose_steps
