pub mod Entries
pub mod QuarterSine
