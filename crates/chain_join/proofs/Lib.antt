pub mod Same
pub mod Blocks
pub mod Rise
pub mod Clauses
pub mod Numbers
