pub mod means
pub use Rattle.formula_lean.specs.alike
pub use Rattle.pose_slerp.specs.bounds3
pub use Rattle.pose_slerp.specs.control_flow
pub use Rattle.formula_lean.specs as formula_lean
pub use Rattle.formula_lean.specs.interval_unjudged
pub use Rattle.pose_slerp.specs.matrix4x4
pub use Rattle.pose_slerp.specs.pose_steps
pub use Rattle.pose_slerp.specs.quaternion
pub use Rattle.pose_slerp.specs.transform
pub use Rattle.pose_slerp.specs.vector3
