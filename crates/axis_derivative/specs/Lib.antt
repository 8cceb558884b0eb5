pub mod AxisDerivative
pub mod IsFinite
pub use Rattle.derivative_x.specs as derivative_x
pub use Rattle.derivative_y.specs as derivative_y
pub use Rattle.derivative_z.specs as derivative_z
pub use Rattle.quaternion.specs as quaternion
