-- Definitions of points and boxes.
pub mod Point3f
pub mod Bounds3f
pub mod List
pub mod Finite
pub mod Inside
pub mod means
pub use Rattle.float32.specs as float32
pub use Rattle.float32.specs.rounding
