pub mod PolarRound
