pub mod RoundTrip
pub mod NonZero
pub use Rattle.motion_point.proofs as motion_point
