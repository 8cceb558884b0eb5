-- Definitions of the rotation of a quaternion.
pub mod FromQuaternion
pub mod means
pub use Rattle.transform.specs.bounds3
pub use Rattle.transform.specs.control_flow
pub use Rattle.transform.specs as transform
