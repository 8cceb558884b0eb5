pub mod Kept
pub mod Theorem
pub mod Finer
pub use Rattle.motion_rows.specs.animated_transform
pub use Rattle.motion_chain.specs.bounds_answers
pub use Rattle.motion_chain.specs.cover_depth
pub use Rattle.motion_rows.specs.lent_arrays
pub use Rattle.transform.specs.matrix4x4
pub use Rattle.motion_chain.specs as motion_chain
pub use Rattle.motion_chain.specs.motion_cover
pub use Rattle.motion_rows.specs as motion_rows
pub use Rattle.pad_query.specs as pad_query
pub use Rattle.motion_rows.specs.pose_pair
