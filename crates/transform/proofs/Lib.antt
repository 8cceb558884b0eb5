-- Laws and cases of transforms.
pub mod Answer
pub mod FromMatrix
pub mod Wp
pub mod Judged
pub mod Cases
pub use Rattle.bounds3.proofs as bounds3
pub use Rattle.matrix_inverse.proofs.control_flow
pub use Rattle.matrix4x4.proofs as matrix4x4
pub use Rattle.bounds3.proofs.rounding
