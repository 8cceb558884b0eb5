pub use Rattle.motion_chain.specs.matrix4x4
pub use Rattle.motion_chain.specs as motion_chain
pub use Rattle.motion_chain.specs.transform
