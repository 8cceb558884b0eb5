pub mod Numbers
pub mod Chain
pub mod Files
