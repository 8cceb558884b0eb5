pub mod Clauses
pub mod OverTable
