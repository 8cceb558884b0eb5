pub mod Coefficients
pub mod IsFinite
pub mod means
pub use Rattle.axis_derivative.specs as axis_derivative
