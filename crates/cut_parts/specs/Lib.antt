pub use Rattle.cut_laws.specs as cut_laws
