pub mod means
pub use Rattle.lanes_rotation.specs.lanes
pub use Rattle.lanes_box.specs as lanes_box
pub use Rattle.lanes_rotation.specs as lanes_rotation
