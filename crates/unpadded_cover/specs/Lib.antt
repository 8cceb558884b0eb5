pub mod Unpadded
pub use Rattle.motion_cover.specs.animated_transform
pub use Rattle.motion_cover.specs.bounds3
pub use Rattle.motion_cover.specs.float32
pub use Rattle.motion_cover.specs.matrix4x4
pub use Rattle.motion_cover.specs as motion_cover
pub use Rattle.motion_cover.specs.motion_pad
pub use Rattle.motion_cover.specs.motion_point
pub use Rattle.motion_cover.specs.pose_pair
pub use Rattle.motion_cover.specs.transform
