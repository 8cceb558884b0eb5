pub mod Day
pub mod Theorem
pub use Rattle.bounds_overlap.specs.bounds3
pub use Rattle.bounds_query.specs as bounds_query
pub use Rattle.bounds_overlap.specs.float32
pub use Rattle.bounds_query.specs.matrix4x4
pub use Rattle.bounds_query.specs.transform
