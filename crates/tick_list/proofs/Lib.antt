pub mod Loops
pub use Rattle.control_flow.proofs as control_flow
