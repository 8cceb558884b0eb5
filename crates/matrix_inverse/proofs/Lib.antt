pub mod InRange
pub mod Rounds
pub mod Refusal
pub mod Cases
pub use Rattle.control_flow.proofs as control_flow
