-- A formula read leanly: `Program-lean`. A value is known to be 0, 1, a number, a constant above 0, what lies between two values (those at the borders
-- of a slice), or an interval, and an operation takes the shortest way: no term by 0 or 1, numbers by numbers, a constant above 0 by both ends as they
-- stand, sine and cosine at the borders. Nothing is judged.
-- Definitions only. `program-lean` says that the judged reading, where it is accepted, is this one but for zeros' signs.
use Rattle.std.specs.Prelude.{cond, ◌&&◌, List, [], ◌∷◌, ◌++◌, length, get_or, T, Float}
use Rattle.std.specs.Float.{nan, binary32}
use Rattle.std.specs.Float.Ieee.{le}
use Rattle.std.specs.Float.Ieee.Scale.{finite}
use Rattle.alike.specs.float32.Operators.{◌⊕◌, ◌⊖◌, ◌⊗◌, ◌⊘◌, positive_zero, one}
use Rattle.alike.specs.square_root.SquareRoot.{sqrt}
use Rattle.alike.specs.interval.declared.Interval.{Interval}
use Rattle.alike.specs.interval.Contains.{Finite}
use Rattle.alike.specs.interval.Interval.{Interval-point}
use Rattle.alike.specs.interval.Enclosure.{Interval-add_enclosure, Interval-sub_enclosure, Interval-sqrt_enclosure, Interval-sin_enclosure, Interval-cos_enclosure}
use Rattle.alike.specs.interval.Extension.{Angles}
use Rattle.alike.specs.trig.SinCos.{sin, cos}
use Rattle.alike.specs.formula.Program.{Binary, sum, difference, product, quotient, Unary, root, sine, cosine, Expr, var, con, binary, unary, Program, ◌>>=◌, give}
use Rattle.alike.specs.interval_unjudged.means.Ordered.{Interval-mul_ordered, Interval-div_ordered}
use Rattle.alike.specs.means.Alike.{Interval-new_ordered}
use Rattle.alike.specs.means.Angles.{QuarterAngles}

pub data Lean : Type 0 where
  nought unit : Lean
  number factor : Float → Lean
  span : Float → Float → Lean
  range : Interval → Lean

abbrev pub Lean-interval : Lean → Interval
Lean-interval nought = Interval-point positive_zero
Lean-interval unit = Interval-point one
Lean-interval (number k) = Interval-point k
Lean-interval (factor k) = Interval-point k
Lean-interval (span a b) = Interval-new_ordered a b
Lean-interval (range X) = X

-- Every number of it is finite, and a factor is not below 0.
abbrev pub Lean-Finite : Lean → Type 0
Lean-Finite nought = Unit {0}
Lean-Finite unit = Unit {0}
Lean-Finite (number k) = T (finite k)
Lean-Finite (factor k) = T (finite k) × T (le positive_zero k)
Lean-Finite (span a b) = T (finite a) × T (finite b)
Lean-Finite (range X) = Finite X

-- ---- the operations
-- A value and w, by what w is; a number and w; then by what the first is.
abbrev pub Lean-added : Lean → Lean → Lean
Lean-added nought v = v
Lean-added unit v = range (Interval-add_enclosure (Lean-interval v) (Lean-interval unit))
Lean-added (number l) v = range (Interval-add_enclosure (Lean-interval v) (Lean-interval (number l)))
Lean-added (factor l) v = range (Interval-add_enclosure (Lean-interval v) (Lean-interval (factor l)))
Lean-added (span c d) v = range (Interval-add_enclosure (Lean-interval v) (Lean-interval (span c d)))
Lean-added (range Q) v = range (Interval-add_enclosure (Lean-interval v) (Lean-interval (range Q)))

abbrev pub Lean-added_number : Lean → Float → Lean
Lean-added_number nought k = number k
Lean-added_number unit k = range (Interval-add_enclosure (Lean-interval (number k)) (Lean-interval unit))
Lean-added_number (number l) k = number (k ⊕ l)
Lean-added_number (factor l) k = range (Interval-add_enclosure (Lean-interval (number k)) (Lean-interval (factor l)))
Lean-added_number (span c d) k = range (Interval-add_enclosure (Lean-interval (number k)) (Lean-interval (span c d)))
Lean-added_number (range Q) k = range (Interval-add_enclosure (Lean-interval (number k)) (Lean-interval (range Q)))

abbrev pub Lean-plus : Lean → Lean → Lean
Lean-plus nought w = w
Lean-plus unit w = Lean-added w unit
Lean-plus (number k) w = Lean-added_number w k
Lean-plus (factor k) w = Lean-added w (factor k)
Lean-plus (span a b) w = Lean-added w (span a b)
Lean-plus (range P) w = Lean-added w (range P)

abbrev pub Lean-less_number : Lean → Float → Lean
Lean-less_number nought l = range (Interval-sub_enclosure (Lean-interval nought) (Lean-interval (number l)))
Lean-less_number unit l = range (Interval-sub_enclosure (Lean-interval unit) (Lean-interval (number l)))
Lean-less_number (number k) l = number (k ⊖ l)
Lean-less_number (factor k) l = range (Interval-sub_enclosure (Lean-interval (factor k)) (Lean-interval (number l)))
Lean-less_number (span a b) l = range (Interval-sub_enclosure (Lean-interval (span a b)) (Lean-interval (number l)))
Lean-less_number (range P) l = range (Interval-sub_enclosure (Lean-interval (range P)) (Lean-interval (number l)))

abbrev pub Lean-less : Lean → Lean → Lean
Lean-less nought v = v
Lean-less unit v = range (Interval-sub_enclosure (Lean-interval v) (Lean-interval unit))
Lean-less (number l) v = Lean-less_number v l
Lean-less (factor l) v = range (Interval-sub_enclosure (Lean-interval v) (Lean-interval (factor l)))
Lean-less (span c d) v = range (Interval-sub_enclosure (Lean-interval v) (Lean-interval (span c d)))
Lean-less (range Q) v = range (Interval-sub_enclosure (Lean-interval v) (Lean-interval (range Q)))

abbrev pub Lean-minus : Lean → Lean → Lean
Lean-minus v w = Lean-less w v

abbrev pub Lean-multiplied : Lean → Lean → Lean
Lean-multiplied nought v = nought
Lean-multiplied unit v = v
Lean-multiplied (number l) v = range (Interval-mul_ordered (Lean-interval v) (Lean-interval (number l)))
Lean-multiplied (factor l) v = range (Interval-mul_ordered (Lean-interval v) (Lean-interval (factor l)))
Lean-multiplied (span c d) v = range (Interval-mul_ordered (Lean-interval v) (Lean-interval (span c d)))
Lean-multiplied (range Q) v = range (Interval-mul_ordered (Lean-interval v) (Lean-interval (range Q)))

abbrev pub Lean-multiplied_number : Lean → Float → Lean
Lean-multiplied_number nought k = nought
Lean-multiplied_number unit k = number k
Lean-multiplied_number (number l) k = number (k ⊗ l)
Lean-multiplied_number (factor l) k = range (Interval-mul_ordered (Lean-interval (number k)) (Lean-interval (factor l)))
Lean-multiplied_number (span c d) k = span (k ⊗ c) (k ⊗ d)
Lean-multiplied_number (range Q) k = range (Interval-mul_ordered (Lean-interval (number k)) (Lean-interval (range Q)))

abbrev pub Lean-multiplied_factor : Lean → Float → Lean
Lean-multiplied_factor nought k = nought
Lean-multiplied_factor unit k = factor k
Lean-multiplied_factor (number l) k = range (Interval-mul_ordered (Lean-interval (factor k)) (Lean-interval (number l)))
Lean-multiplied_factor (factor l) k = range (Interval-mul_ordered (Lean-interval (factor k)) (Lean-interval (factor l)))
Lean-multiplied_factor (span c d) k = range (Interval-mul_ordered (Lean-interval (factor k)) (Lean-interval (span c d)))
Lean-multiplied_factor (range Q) k = range (record { low = k ⊗ Q.low; high = k ⊗ Q.high })

abbrev pub Lean-times : Lean → Lean → Lean
Lean-times nought w = nought
Lean-times unit w = w
Lean-times (number k) w = Lean-multiplied_number w k
Lean-times (factor k) w = Lean-multiplied_factor w k
Lean-times (span a b) w = Lean-multiplied w (span a b)
Lean-times (range P) w = Lean-multiplied w (range P)

abbrev pub Lean-divided_number : Lean → Float → Lean
Lean-divided_number nought k = range (Interval-div_ordered (Lean-interval (number k)) (Lean-interval nought))
Lean-divided_number unit k = range (Interval-div_ordered (Lean-interval (number k)) (Lean-interval unit))
Lean-divided_number (number l) k = number (k ⊘ l)
Lean-divided_number (factor l) k = range (Interval-div_ordered (Lean-interval (number k)) (Lean-interval (factor l)))
Lean-divided_number (span c d) k = range (Interval-div_ordered (Lean-interval (number k)) (Lean-interval (span c d)))
Lean-divided_number (range Q) k = range (Interval-div_ordered (Lean-interval (number k)) (Lean-interval (range Q)))

abbrev pub Lean-over : Lean → Lean → Lean
Lean-over nought w = range (Interval-div_ordered (Lean-interval nought) (Lean-interval w))
Lean-over unit w = range (Interval-div_ordered (Lean-interval unit) (Lean-interval w))
Lean-over (number k) w = Lean-divided_number w k
Lean-over (factor k) w = range (Interval-div_ordered (Lean-interval (factor k)) (Lean-interval w))
Lean-over (span a b) w = range (Interval-div_ordered (Lean-interval (span a b)) (Lean-interval w))
Lean-over (range P) w = range (Interval-div_ordered (Lean-interval (range P)) (Lean-interval w))

abbrev pub Lean-root : Lean → Lean
Lean-root nought = range (Interval-sqrt_enclosure (Lean-interval nought))
Lean-root unit = range (Interval-sqrt_enclosure (Lean-interval unit))
Lean-root (number k) = number (sqrt binary32 k)
Lean-root (factor k) = range (Interval-sqrt_enclosure (Lean-interval (factor k)))
Lean-root (span a b) = range (Interval-sqrt_enclosure (Lean-interval (span a b)))
Lean-root (range P) = range (Interval-sqrt_enclosure P)

abbrev pub Lean-sine : Lean → Lean
Lean-sine nought = range (Interval-sin_enclosure (Lean-interval nought))
Lean-sine unit = range (Interval-sin_enclosure (Lean-interval unit))
Lean-sine (number k) = number (sin k)
Lean-sine (factor k) = range (Interval-sin_enclosure (Lean-interval (factor k)))
Lean-sine (span a b) = span (sin a) (sin b)
Lean-sine (range P) = range (Interval-sin_enclosure P)

abbrev pub Lean-cosine : Lean → Lean
Lean-cosine nought = range (Interval-cos_enclosure (Lean-interval nought))
Lean-cosine unit = range (Interval-cos_enclosure (Lean-interval unit))
Lean-cosine (number k) = number (cos k)
Lean-cosine (factor k) = range (Interval-cos_enclosure (Lean-interval (factor k)))
Lean-cosine (span a b) = span (cos a) (cos b)
Lean-cosine (range P) = range (Interval-cos_enclosure P)

-- Where sine and cosine are asked for.
abbrev pub Lean-Angles : Lean → Type 0
Lean-Angles nought = Angles (Lean-interval nought)
Lean-Angles unit = Angles (Lean-interval unit)
Lean-Angles (number k) = Angles (Interval-point k)
Lean-Angles (factor k) = Angles (Lean-interval (factor k))
Lean-Angles (span a b) = QuarterAngles a b
Lean-Angles (range P) = Angles P

-- A constant: 1 and 0 are known, and whether it is above 0.
unfoldable pub Lean-of : Float → Lean
Lean-of x = cond (le x one && le one x) unit (cond (le x positive_zero && le positive_zero x) nought (cond (le positive_zero x) (factor x) (number x)))

abbrev pub Binary-lean : Binary → Lean → Lean → Lean
Binary-lean sum v w = Lean-plus v w
Binary-lean difference v w = Lean-minus v w
Binary-lean product v w = Lean-times v w
Binary-lean quotient v w = Lean-over v w

abbrev pub Unary-lean : Unary → Lean → Lean
Unary-lean root v = Lean-root v
Unary-lean sine v = Lean-sine v
Unary-lean cosine v = Lean-cosine v

unfoldable pub Expr-lean : List Lean → Expr → Lean
Expr-lean τ (var i) = get_or τ i (number nan)
Expr-lean τ (con x) = Lean-of x
Expr-lean τ (binary o a b) = Binary-lean o (Expr-lean τ a) (Expr-lean τ b)
Expr-lean τ (unary o a) = Unary-lean o (Expr-lean τ a)

unfoldable pub Expr-lean_all : List Lean → List Expr → List Lean
Expr-lean_all τ [] = []
Expr-lean_all τ (e ∷ es) = Expr-lean τ e ∷ Expr-lean_all τ es

unfoldable pub Program-lean : List Lean → Program → List Lean
Program-lean τ (give es) = Expr-lean_all τ es
Program-lean τ (e >>= k) = Program-lean (τ ++ Expr-lean τ e ∷ []) (k (var (length τ)))
