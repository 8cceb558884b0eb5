pub mod Answer
pub mod Theorem
pub mod TwoPoses
pub use Rattle.motion_text.specs.motion_file
