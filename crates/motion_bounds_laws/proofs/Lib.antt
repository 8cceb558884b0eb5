pub mod Ends
pub mod Numbers
pub mod StartTime
pub mod Book
mod Cases
pub use Rattle.motion_bounds.proofs.animated_transform
pub use Rattle.motion_bounds.proofs.motion_point
pub use Rattle.motion_bounds.proofs.pose_pair
