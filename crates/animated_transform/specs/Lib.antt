pub mod New
pub mod Numbers
pub mod AtTime
pub mod Built
pub mod means
pub use Rattle.coefficients.specs as coefficients
pub use Rattle.decomposition.specs as decomposition
pub use Rattle.pose_pair.specs as pose_pair
pub use Rattle.refusal.specs as refusal
pub use Rattle.rotation_arc.specs as rotation_arc
