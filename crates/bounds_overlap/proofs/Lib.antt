-- Laws of boxes that meet.
pub mod Overlap
pub mod Wider
