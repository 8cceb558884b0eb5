-- Laws and cases of points and boxes.
pub mod Finite
pub mod Union
pub mod Cases
pub use Rattle.float32.proofs as float32
pub use Rattle.float32.proofs.rounding
