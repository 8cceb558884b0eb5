pub mod Cover
pub mod Theorem
pub use Rattle.motion_chain.specs.animated_transform
pub use Rattle.motion_chain.specs.bounds_answers
pub use Rattle.motion_chain.specs.bounds_query
pub use Rattle.motion_chain.specs.cover_depth
pub use Rattle.dt_share.specs as dt_share
pub use Rattle.motion_chain.specs as motion_chain
pub use Rattle.motion_chain.specs.motion_cover
pub use Rattle.motion_chain.specs.motion_pad
pub use Rattle.motion_chain.specs.pose_pair
pub use Rattle.window_times.specs as window_times
