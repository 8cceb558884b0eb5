-- Definitions of the quaternion of a rotation's matrix.
pub mod FromMatrix
pub mod means
