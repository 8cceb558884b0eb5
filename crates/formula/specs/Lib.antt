pub mod Program
pub mod Eval
pub mod Enclose
pub mod Promise
pub mod Stop
pub mod Stage
pub mod Regular
pub mod means
