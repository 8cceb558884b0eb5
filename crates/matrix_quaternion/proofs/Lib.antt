-- Cases of quaternions of matrices.
pub mod Cases
