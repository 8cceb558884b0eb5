pub mod Printed
pub mod Same
pub mod Length
pub use Rattle.chain_text.proofs.file_text
pub use Rattle.motion_answer.proofs as motion_answer
pub use Rattle.motion_text.proofs.motion_file
