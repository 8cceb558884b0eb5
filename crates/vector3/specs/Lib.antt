pub mod Vector
pub use Rattle.float32.specs as float32
