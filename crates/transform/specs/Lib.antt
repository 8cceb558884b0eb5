-- Definitions of transforms.
pub mod Transform
pub mod Answer
pub mod TransformPoint
pub mod TransformVector
pub mod TransformBounds
pub mod HasScale
pub mod means
pub use Rattle.bounds3.specs as bounds3
pub use Rattle.matrix_inverse.specs.control_flow
pub use Rattle.matrix4x4.specs as matrix4x4
pub use Rattle.matrix_inverse.specs as matrix_inverse
pub use Rattle.vector3.specs as vector3
