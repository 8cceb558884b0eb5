pub mod Pastes
pub mod Written
pub mod Cases
pub use Rattle.hexadecimal.proofs as hexadecimal
pub use Rattle.motion_file.proofs as motion_file
