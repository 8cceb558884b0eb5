pub mod Front
pub mod Moved
pub mod Sliced
pub mod Places
pub mod Zeros
