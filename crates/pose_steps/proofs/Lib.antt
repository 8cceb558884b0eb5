pub mod Angle
mod Valid
pub mod Zero
pub mod Stands
pub mod Rows
pub mod Finite
pub mod Extends
pub mod Isotone
pub mod Number
pub mod Box
pub mod Composition
mod Cases
pub use Rattle.quaternion.proofs.arc_cosine
pub use Rattle.rotation.proofs.bounds3
pub use Rattle.rotation.proofs.control_flow
pub use Rattle.formula.proofs as formula
pub use Rattle.interval.proofs as interval
pub use Rattle.interval.proofs.refusal
pub use Rattle.unit_interval.proofs as unit_interval
