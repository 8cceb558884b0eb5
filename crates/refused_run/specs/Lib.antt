pub mod Run
pub mod Theorem
pub mod means
pub use Rattle.chain_number.specs.chain_poses
pub use Rattle.chain_number.specs.motion_chain
pub use Rattle.chain_number.specs.motion_cover
