-- Definitions of quaternions.
pub mod Quaternion
pub mod IsFinite
pub mod Slerp
pub mod means
pub use Rattle.arc_cosine.specs as arc_cosine
pub use Rattle.float32.specs as float32
