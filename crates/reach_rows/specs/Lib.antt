pub mod Named
pub mod means
pub use Rattle.bounds3.specs as bounds3
pub use Rattle.bounds_overlap.specs as bounds_overlap
pub use Rattle.bounds3.specs.rounding
pub use Rattle.lent_arrays.specs.transform
