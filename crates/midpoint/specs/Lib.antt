pub use Rattle.own_rounding.specs as own_rounding
