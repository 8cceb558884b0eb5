-- A stage: a program whose outputs are put into a struct, whose fields are the next stage's inputs. Definitions only.
use Rattle.std.specs.Prelude.{ℕ, zero, suc, List, [], ◌∷◌, length, get_or}
use Rattle.interval.specs.declared.Interval.{Interval}
use Rattle.formula.specs.Program.{var, Program, ◌>>=◌, give}
use Rattle.formula.specs.Enclose.{unbound, Enclosure, enclosure, Program-enclose}

-- The number of outputs of a program with n inputs.
abbrev pub outputs : ℕ → Program → ℕ
outputs n (give es) = length es
outputs n (e >>= k) = outputs (suc n) (k (var n))

-- n intervals from the i-th on, one by one: a struct that was filled from σ, listed again.
abbrev pub fields : ℕ → ℕ → List Interval → List Interval
fields i zero σ = []
fields i (suc n) σ = get_or σ i unbound ∷ fields (suc i) n σ

-- A program's intervals, as the struct that they are put into lists them.
abbrev pub Program-stage : Enclosure → Program → Enclosure
Program-stage c p = let o = Program-enclose c p in enclosure o.refusal (fields 0 (outputs (length c.intervals) p) o.intervals)
