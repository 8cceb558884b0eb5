-- A case of rotations.
pub mod Cases
pub use Rattle.transform.proofs.bounds3
pub use Rattle.transform.proofs.control_flow
pub use Rattle.transform.proofs as transform
