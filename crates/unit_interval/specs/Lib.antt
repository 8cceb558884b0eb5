pub mod Unit
pub mod means
