pub mod Kept
pub mod Theorem
pub mod Finer
pub mod means
pub use Rattle.box_set.specs as box_set
