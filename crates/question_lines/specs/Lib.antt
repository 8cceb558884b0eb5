pub mod Words
pub use Rattle.hexadecimal.specs as hexadecimal
pub use Rattle.motion_text.specs.motion_file
