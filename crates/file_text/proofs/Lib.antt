pub mod Line
pub mod RoundTrip
pub mod Length
pub mod Written
pub mod Same
pub mod Cases
pub mod ReadCases
