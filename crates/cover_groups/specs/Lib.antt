pub mod means
pub use Rattle.lanes.specs as lanes
pub use Rattle.lanes_box.specs as lanes_box
pub use Rattle.lanes_rotation.specs as lanes_rotation
pub use Rattle.lanes_rotation.specs.pose_lean
