pub mod Length
pub mod Built
pub mod Posed
pub mod Contains
pub mod TwoPoses
pub mod Cases
pub use Rattle.motion_text.proofs.motion_file
