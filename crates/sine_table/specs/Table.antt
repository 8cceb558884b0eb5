-- Document 01's table of sines over a quarter turn: `quarter_turn` (Q), the rule of an entry, `sine_entry`, all 2,049 of them, `sine_table` (T),
-- and what the whole table keeps to, `SineTable`.
-- An angle is a whole number of units of 2 ^ -28, a sine one of units of 2 ^ -30. The Taylor sum is exact: all its terms stand over one denominator.
use Rattle.std.specs.Prelude.{◌≡◌, List, [], ◌∷◌, ℕ, zero, suc, ◌+◌, ◌-◌, ◌*◌, ◌/◌, ◌^◌, ◌<◌, length, get_or}

-- Q: a quarter turn in units of 2 ^ -28.
abbrev pub quarter_turn : ℕ
quarter_turn = 421657428

abbrev pub factorial : ℕ → ℕ
factorial zero = 1
factorial (suc n) = suc n * factorial n

-- The denominator of every term: 15! (2 ^ 39) ^ 15.
abbrev pub taylor_denominator : ℕ
taylor_denominator = factorial 15 * (2 ^ 39) ^ 15

-- x ^ n / n! over that denominator, at x = a / 2 ^ 39.
abbrev pub taylor_term : ℕ → ℕ → ℕ
taylor_term a n = factorial 15 / factorial n * a ^ n * (2 ^ 39) ^ (15 - n)

-- The sine's Taylor sum through the 15th power over that denominator, at i * Q / 2048 units of 2 ^ -28, which is i * Q / 2 ^ 39.
unfoldable pub taylor_sum : ℕ → ℕ
taylor_sum i =
    let a = i * quarter_turn in
    (taylor_term a 1 + taylor_term a 5 + taylor_term a 9 + taylor_term a 13) - (taylor_term a 3 + taylor_term a 7 + taylor_term a 11 + taylor_term a 15)

-- T[i]: 2 ^ 30 times the Taylor sum, plus a half, rounded down.
unfoldable pub sine_entry : ℕ → ℕ
sine_entry i = (2 ^ 31 * taylor_sum i + taylor_denominator) / (2 * taylor_denominator)

-- T[i] and the n - 1 entries after it.
unfoldable pub entries : ℕ → ℕ → List ℕ
entries zero i = []
entries (suc n) i = sine_entry i ∷ entries n (suc i)

-- T.
unfoldable pub sine_table : List ℕ
sine_table = entries 2049 0

-- A table of 2,049 entries that has those ends, rises strictly and follows the rule at every entry.
pub record SineTable (t : List ℕ) : Type 0 where
  pub size : length t ≡ 2049
  pub first : get_or t 0 0 ≡ 0
  pub last : get_or t 2048 0 ≡ 2 ^ 30
  pub rises : (i : ℕ) → i < 2048 → get_or t i 0 < get_or t (suc i) 0
  pub rule : (i : ℕ) → i < 2049 → get_or t i 0 ≡ sine_entry i
