mod NonZero
mod Building
mod File
mod Pad
pub mod Numbers
pub mod Chain
pub mod KeptChain
mod Trial
pub mod EveryChain
pub mod Files
pub mod Interpolate
