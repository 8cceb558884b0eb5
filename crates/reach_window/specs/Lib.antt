pub mod Named
pub mod means
pub use Rattle.reach_laws.specs as reach_laws
pub use Rattle.reach_rows.specs as reach_rows
