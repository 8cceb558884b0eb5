-- Document 01's H: the sine over a quarter turn, in a straight line from each entry of the table to the next. `quarter_sine_over` is H over any entries,
-- `quarter_sine` over the table's own; `entry` gives the entries of a list.
use Rattle.std.specs.Prelude.{List, ℕ, ◌+◌, ◌-◌, ◌*◌, ◌/◌, ◌%◌, get_or}
use Rattle.sine_table.specs.Table.{quarter_turn, taylor_sum, sine_entry}

-- The exact straight line from a to b, r of Q parts along it, rounded down.
abbrev pub line : ℕ → ℕ → ℕ → ℕ
line a b r = (a * (quarter_turn - r) + b * r) / quarter_turn

-- H(v) over the entries T: neighbours stand Q / 2048 units apart, so v is v * 2048 % Q parts of Q past the entry v * 2048 / Q.
unfoldable pub quarter_sine_over : (ℕ → ℕ) → ℕ → ℕ
quarter_sine_over T v = let i = v * 2048 / quarter_turn in line (T i) (T (i + 1)) (v * 2048 % quarter_turn)

-- H(v).
unfoldable pub quarter_sine : ℕ → ℕ
quarter_sine v = quarter_sine_over sine_entry v

-- The entry i of the list t. Over those of `sine_table` H is `quarter_sine` (`quarter_sine_over-table`).
abbrev pub entry : List ℕ → ℕ → ℕ
entry t i = get_or t i 0

-- What has to unfold for H of a given angle to compute, as one group: a case says `unfolding computing`.
unfoldable pub computing : Unit {0}
unfolding taylor_sum sine_entry quarter_sine_over quarter_sine
computing = tt
