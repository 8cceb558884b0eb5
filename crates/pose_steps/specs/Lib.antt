pub mod Stages
pub mod Pose
pub mod Judged
pub mod Enclose
pub mod Promise
pub mod Composition
pub mod means
pub use Rattle.quaternion.specs.arc_cosine
pub use Rattle.rotation.specs.bounds3
pub use Rattle.rotation.specs.control_flow
pub use Rattle.formula.specs as formula
pub use Rattle.interval.specs as interval
pub use Rattle.matrix4x4.specs as matrix4x4
pub use Rattle.quaternion.specs as quaternion
pub use Rattle.interval.specs.refusal
pub use Rattle.interval.specs.sine_table
pub use Rattle.rotation.specs.transform
pub use Rattle.interval.specs.trig
pub use Rattle.unit_interval.specs as unit_interval
