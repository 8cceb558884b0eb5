-- Laws of queries about a box.
pub mod Accepted
pub mod Numbers
pub mod Union
pub mod Zeros
pub use Rattle.bounds3.proofs as bounds3
pub use Rattle.transform.proofs.control_flow
pub use Rattle.bounds3.proofs.float32
pub use Rattle.bounds3.proofs.rounding
pub use Rattle.transform.proofs as transform
