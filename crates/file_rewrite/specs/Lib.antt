pub mod Rewrite
pub mod Theorem
pub use Rattle.chain_text.specs as chain_text
pub use Rattle.chain_text.specs.file_text
pub use Rattle.motion_answer.specs as motion_answer
pub use Rattle.motion_text.specs.motion_file
pub use Rattle.motion_text.specs as motion_text
