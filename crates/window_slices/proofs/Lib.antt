pub mod Join
pub mod Same
pub mod Groups
