pub mod Derivative
