pub mod Bits
pub use Rattle.lent_arrays.specs.bounds3
pub use Rattle.lent_arrays.specs.float32
pub use Rattle.lent_arrays.specs.matrix4x4
pub use Rattle.lent_arrays.specs.pose_pair
pub use Rattle.lent_arrays.specs.rounding
pub use Rattle.lent_arrays.specs.transform
