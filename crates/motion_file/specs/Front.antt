-- A lent array after a call that puts items into its front places: `front`. Definitions only.
use Rattle.std.specs.Prelude.{List, ◌++◌, length, drop}

-- the items at the front places, and behind them what stood there
abbrev pub front : {A : Type 0} → List A → List A → List A
front items old = items ++ drop (length items) old
