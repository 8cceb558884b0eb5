pub mod means
pub use Rattle.lanes_pose.specs as lanes_pose
