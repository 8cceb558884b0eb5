-- What the code of a list of rows gives: the named places in front, 0 behind them.
use Rattle.std.specs.Prelude.{ℕ, ◌-◌, ◌≡◌, List, ◌++◌, length, replicate}
use Rattle.reached_rows.specs.Rows.{max_rows}

pub record Named-Holds (ks places : List ℕ) (count : ℕ) : Type 0 where
  pub front : places ≡ ks ++ replicate (max_rows - length ks) 0
  pub counted : count ≡ length ks
