pub mod Meeting
pub use Rattle.bounds3.specs as bounds3
pub use Rattle.bounds_overlap.specs as bounds_overlap
pub use Rattle.bounds3.specs.float32
pub use Rattle.transform.specs.matrix4x4
pub use Rattle.refusal.specs as refusal
pub use Rattle.bounds3.specs.rounding
pub use Rattle.transform.specs as transform
