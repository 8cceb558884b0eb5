pub use Rattle.motion_file.specs.bounds3
pub use Rattle.motion_file.specs.matrix4x4
pub use Rattle.motion_file.specs as motion_file
