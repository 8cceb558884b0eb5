pub mod Text
pub mod RoundTrip
pub mod Theorem
