pub mod Ordered
pub mod Finite
pub mod Positive
pub mod Points
pub mod Unjudged
pub mod Trace
pub use Rattle.formula.proofs as formula
pub use Rattle.interval.proofs as interval
pub use Rattle.interval.proofs.refusal
pub use Rattle.square_root.proofs as square_root
pub use Rattle.interval.proofs.trig
