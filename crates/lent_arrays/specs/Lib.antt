pub mod Arrays
pub use Rattle.bounds3.specs as bounds3
pub use Rattle.bounds3.specs.float32
pub use Rattle.matrix4x4.specs as matrix4x4
pub use Rattle.pose_pair.specs as pose_pair
pub use Rattle.bounds3.specs.rounding
pub use Rattle.transform.specs as transform
