pub mod ShorterArc
pub mod ArcCoefficients
pub mod means
