-- The place of a pose that is tried: its number, `place_refusal`. Definitions only.
use Rattle.std.specs.Prelude.{ℕ, cond, leb, ltb}

-- document 02, "Trying a pose first": "Places count from 0; one beyond the last pose is 19, judged before all else".
-- Then "more than 32" poses are no chain: 12. 0 is none.
abbrev pub place_refusal : ℕ → ℕ → ℕ
place_refusal poses place = cond (leb poses place) 19 (cond (ltb 32 poses) 12 0)
