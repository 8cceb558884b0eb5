pub mod Poses
pub use Rattle.motion_chain.specs.animated_transform
pub use Rattle.pose_pair.specs.bounds3
pub use Rattle.motion_chain.specs.bounds_answers
pub use Rattle.motion_chain.specs.bounds_query
pub use Rattle.motion_chain.specs.decomposition
pub use Rattle.lent_arrays.specs as lent_arrays
pub use Rattle.pose_pair.specs.matrix4x4
pub use Rattle.motion_chain.specs as motion_chain
pub use Rattle.motion_chain.specs.motion_cover
pub use Rattle.motion_chain.specs.motion_point
pub use Rattle.pose_pair.specs as pose_pair
pub use Rattle.motion_chain.specs.quaternion
pub use Rattle.refusal.specs as refusal_below
pub use Rattle.motion_chain.specs.rotation_arc
pub use Rattle.pose_pair.specs.transform
