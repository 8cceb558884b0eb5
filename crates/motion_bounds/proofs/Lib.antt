-- Laws of motion boxes that their code rests on.
pub mod Unused
pub mod Searched
mod Counts
pub use Rattle.animated_transform.proofs as animated_transform
pub use Rattle.bounds3.proofs as bounds3
pub use Rattle.bounds_query.proofs as bounds_query
pub use Rattle.transform.proofs.control_flow
pub use Rattle.float32.proofs as float32
pub use Rattle.zero_list.proofs.float_bits
pub use Rattle.transform.proofs.matrix4x4
pub use Rattle.motion_point.proofs as motion_point
pub use Rattle.animated_transform.proofs.pose_pair
pub use Rattle.float32.proofs.rounding
pub use Rattle.transform.proofs as transform
