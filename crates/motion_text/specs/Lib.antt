pub mod Answer
pub use Rattle.motion_file.specs.bounds3
pub use Rattle.hexadecimal.specs as hexadecimal
pub use Rattle.motion_file.specs.matrix4x4
pub use Rattle.motion_file.specs as motion_file
