-- A formula read in intervals, with the first refusal number met carried along: `Program-enclose`. Definitions only.
-- An operation is that of document 01's cover, judged as it is formed. A constant has equal ends.
-- `Program-valid` is what the promises ask of a program at its inputs.
use Rattle.std.specs.Prelude.{ℕ, Bool, true, ◌&&◌, List, [], ◌∷◌, ◌++◌, length, get_or, ltb}
use Rattle.std.specs.Float.{nan}
use Rattle.std.specs.Float.Ieee.Scale.{finite}
use Rattle.interval.specs.declared.Interval.{Interval}
use Rattle.interval.specs.Judged.{Judged}
use Rattle.interval.specs.Interval.{Interval-point}
use Rattle.interval.specs.Enclosure.{are_angles, Judged-add_enclosure, Judged-sub_enclosure, Judged-mul_enclosure}
use Rattle.interval.specs.Enclosure.{Judged-div_enclosure, Judged-sqrt_enclosure, Judged-sin_enclosure, Judged-cos_enclosure}
use Rattle.formula.specs.Program.{Binary, sum, difference, product, quotient, Unary, root, sine}
use Rattle.formula.specs.Program.{cosine, Expr, var, con, binary, unary, Program, ◌>>=◌, give}

abbrev pub Binary-enclose : Binary → ℕ → Interval → Interval → Judged
Binary-enclose sum met X Y = Judged-add_enclosure met X Y
Binary-enclose difference met X Y = Judged-sub_enclosure met X Y
Binary-enclose product met X Y = Judged-mul_enclosure met X Y
Binary-enclose quotient met X Y = Judged-div_enclosure met X Y

abbrev pub Unary-enclose : Unary → ℕ → Interval → Judged
Unary-enclose root met X = Judged-sqrt_enclosure met X
Unary-enclose sine met X = Judged-sin_enclosure met X
Unary-enclose cosine met X = Judged-cos_enclosure met X

abbrev pub unbound : Interval
unbound = Interval-point nan

-- `met` is the number met before, σ the intervals of the variables.
unfoldable pub Expr-enclose : ℕ → List Interval → Expr → Judged
Expr-enclose met σ (var i) = record { interval = get_or σ i unbound; refusal = met }
Expr-enclose met σ (con x) = record { interval = Interval-point x; refusal = met }
Expr-enclose met σ (binary o a b) =
    let p = Expr-enclose met σ a in
    let q = Expr-enclose p.refusal σ b in
    Binary-enclose o q.refusal p.interval q.interval
Expr-enclose met σ (unary o a) =
    let p = Expr-enclose met σ a in
    Unary-enclose o p.refusal p.interval

-- Intervals with the number met on the way, 0 for none.
pub record Enclosure : Type 0 where
  pub intervals : List Interval
  pub refusal : ℕ

abbrev pub enclosure : ℕ → List Interval → Enclosure
enclosure met σ = record { intervals = σ; refusal = met }

unfoldable pub Expr-enclose_all : ℕ → List Interval → List Expr → Enclosure
Expr-enclose_all met σ [] = enclosure met []
Expr-enclose_all met σ (e ∷ es) =
    let p = Expr-enclose met σ e in
    let q = Expr-enclose_all p.refusal σ es in
    enclosure q.refusal (p.interval ∷ q.intervals)

-- One more variable.
abbrev pub extend : List Interval → Judged → Enclosure
extend σ j = enclosure j.refusal (σ ++ j.interval ∷ [])

-- The intervals of a program at the inputs c.
unfoldable pub Program-enclose : Enclosure → Program → Enclosure
Program-enclose c (give es) = Expr-enclose_all c.refusal c.intervals es
Program-enclose c (e >>= k) =
    Program-enclose (extend c.intervals (Expr-enclose c.refusal c.intervals e)) (k (var (length c.intervals)))

-- ---- every variable is bound, every constant is finite, and sine and cosine are asked of angles only
abbrev pub Unary-valid : Unary → Interval → Bool
Unary-valid root X = true
Unary-valid sine X = are_angles X
Unary-valid cosine X = are_angles X

abbrev pub Expr-valid : ℕ → List Interval → Expr → Bool
Expr-valid met σ (var i) = ltb i (length σ)
Expr-valid met σ (con x) = finite x
Expr-valid met σ (binary o a b) = Expr-valid met σ a && Expr-valid (Expr-enclose met σ a).refusal σ b
Expr-valid met σ (unary o a) = Expr-valid met σ a && Unary-valid o (Expr-enclose met σ a).interval

abbrev pub Expr-valid_all : ℕ → List Interval → List Expr → Bool
Expr-valid_all met σ [] = true
Expr-valid_all met σ (e ∷ es) = Expr-valid met σ e && Expr-valid_all (Expr-enclose met σ e).refusal σ es

-- It computes to true by itself where the program has no sine and no cosine.
abbrev pub Program-valid : Enclosure → Program → Bool
Program-valid c (give es) = Expr-valid_all c.refusal c.intervals es
Program-valid c (e >>= k) =
    Expr-valid c.refusal c.intervals e
    && Program-valid (extend c.intervals (Expr-enclose c.refusal c.intervals e)) (k (var (length c.intervals)))
