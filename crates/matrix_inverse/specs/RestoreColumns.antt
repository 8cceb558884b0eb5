-- After the last round, columns change places as rows did, from the last round's to the first's. Definitions only.
use Rattle.std.specs.Prelude.{ℕ, ◌-◌, cond, List, eqb, get_or, set}
use Rattle.matrix4x4.specs.Rows.{Row, Rows, row, col, tabulate}
use Rattle.control_flow.specs.Loop.{loop}

-- pbrt's `minv.m[k].swap(a, b)`
abbrev pub swap_entries : Row → ℕ → ℕ → Row
swap_entries r a b = set (set r a (col r b)) b (col r a)

unfoldable pub swap_columns : Rows → ℕ → ℕ → Rows
swap_columns m a b = tabulate (λ k. swap_entries (row m k) a b)

-- `let j = 3 - i;` and a swap `if indxr[j] != indxc[j]`
unfoldable pub restore_at : List ℕ → List ℕ → ℕ → Rows → Rows
restore_at indxr indxc i m =
    let a = get_or indxr (3 - i) 0 in
    let b = get_or indxc (3 - i) 0 in
    cond (eqb a b) m (swap_columns m a b)

unfoldable pub restore_columns : Rows → List ℕ → List ℕ → Rows
restore_columns m indxr indxc = loop (restore_at indxr indxc) 4 m
