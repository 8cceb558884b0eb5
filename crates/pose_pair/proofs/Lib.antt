pub mod Kind
pub use Rattle.rigid_pose.proofs.transform
