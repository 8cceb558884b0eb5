pub mod Loops
pub use Rattle.motion_chain.proofs.control_flow
pub use Rattle.motion_chain.proofs as motion_chain
pub use Rattle.motion_chain.proofs.motion_point
