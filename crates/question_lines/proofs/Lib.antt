pub mod Found
pub mod Kept
pub mod Decimals
pub mod HeldNumbers
pub mod Floats
pub mod Positions
