pub mod Set
pub mod Theorem
pub use Rattle.motion_chain.specs.bounds_answers
pub use Rattle.motion_chain.specs.bounds_query
pub use Rattle.motion_chain.specs as motion_chain
