-- The arc cosine's search by halving, with the cosine of its lower end carried along: document 02, "Arc cosine, the lower cosine kept". `Bracket-halvings` is
-- how often it halves, `search_cosines` and `acos_cosines` how many cosines it works out. What the search finds is said by `least_angle`. Definitions only.
use Rattle.std.specs.Prelude.{ℕ, zero, suc, ◌+◌, ◌-◌, ◌*◌, ◌/◌, ◌≤◌, ◌≡◌, Bool, cond, ◌&&◌, ltb, Float}
use Rattle.sine_table.specs.Table.{quarter_turn}
use Rattle.arc_cosine.specs.declared.Bracket.{Bracket}
use Rattle.trig.specs.Units.{cos_units}
use Rattle.arc_cosine.specs.Acos.{in_domain, floor_units}
use Rattle.trig.specs.Biased.{biased}

-- "the cosine at its lower bound .. what document 01's rule gives there"
abbrev pub Bracket-Carries : Bracket → Type 0
Bracket-Carries b = b.cos_low ≡ biased (cos_units b.low)

-- 0 to 2 Q
abbrev pub Bracket-first : Bracket
Bracket-first = record { low = 0; high = 2 * quarter_turn; cos_low = biased (cos_units 0) }

-- Its ends lie in 0 to 2 Q.
pub record Bracket-Inside (b : Bracket) : Type 0 where
  pub low : b.low ≤ 2 * quarter_turn
  pub high : b.high ≤ 2 * quarter_turn

abbrev pub Bracket-middle : Bracket → ℕ
Bracket-middle b = (b.low + b.high) / 2

-- Its halves, from the middle on, where the cosine is c, and up to the middle.
abbrev pub Bracket-upper : Bracket → ℕ → Bracket
Bracket-upper b c = record { low = Bracket-middle b; high = b.high; cos_low = c }

abbrev pub Bracket-lower : Bracket → Bracket
Bracket-lower b = record { low = b.low; high = Bracket-middle b; cos_low = b.cos_low }

-- The one in which the least angle lies: the upper where the cosine in the middle is above n.
abbrev pub Bracket-half : ℕ → Bracket → ℕ → Bracket
Bracket-half n b c = cond (ltb n c) (Bracket-upper b c) (Bracket-lower b)

unfoldable pub Bracket-halve : ℕ → Bracket → Bracket
Bracket-halve n b = Bracket-half n b (biased (cos_units (Bracket-middle b)))

-- The cosine of the lower end is above n, and an angle lies between the ends.
abbrev pub Bracket-is_open : ℕ → Bracket → Bool
Bracket-is_open n b = ltb n b.cos_low && ltb 1 (b.high - b.low)

-- How often it is halved: as long as it is open, at most k times.
unfoldable pub Bracket-halvings : ℕ → ℕ → Bracket → ℕ
Bracket-halvings n zero b = 0
Bracket-halvings n (suc k) b = let later = Bracket-halvings n k (Bracket-halve n b) in cond (Bracket-is_open n b) (1 + later) 0

-- How many cosines the search for the least angle with a cosine of at most n works out: one at 0, and one in each halving; 2 Q is below 2 ^ 30.
abbrev pub search_cosines : ℕ → ℕ
search_cosines n = 1 + Bracket-halvings n 30 Bracket-first

-- And the arc cosine of c.
unfoldable pub acos_cosines : Float → ℕ
acos_cosines c = cond (in_domain c) (search_cosines (biased (floor_units c))) 0
