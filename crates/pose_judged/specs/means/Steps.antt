-- The parts of the stages, each stopping at the first refusal: formulas, read in intervals. Definitions only.
use Rattle.std.specs.Prelude.{ℕ, Result, Ok, List, [], ◌∷◌}
use Rattle.interval.specs.declared.Interval.{Interval}
use Rattle.interval.specs.refusal.Outcome.{and_then}
use Rattle.interval.specs.Judged.{Judged-outcome}
use Rattle.interval.specs.Enclosure.{Judged-mul_enclosure}
use Rattle.pose_steps.specs.formula.Program.{Expr, var, give, ◌⊕◌, ◌⊖◌, ◌⊗◌}
use Rattle.pose_steps.specs.formula.Enclose.{enclosure}
use Rattle.pose_steps.specs.formula.Stop.{Expr-enclose_or_stop, Program-enclose_or_stop}
use Rattle.pose_steps.specs.declared.IntervalVector.{IntervalVector}
use Rattle.pose_steps.specs.declared.IntervalQuaternion.{IntervalQuaternion}
use Rattle.pose_steps.specs.declared.IntervalRow.{IntervalRow}
use Rattle.pose_steps.specs.Stages as stages
use Rattle.pose_steps.specs.Enclose.{IntervalQuaternion-list, JudgedQuaternion-of}
use Rattle.pose_judged.specs.declared.Products.{Products}

abbrev pub weighted_sum : Interval → Interval → Interval → Interval → Result Interval ℕ
weighted_sum p s q t = Expr-enclose_or_stop (p ∷ s ∷ q ∷ t ∷ []) (var 0 ⊗ var 1 ⊕ var 2 ⊗ var 3)

abbrev pub add_product : Interval → Interval → Interval → Result Interval ℕ
add_product a p q = Expr-enclose_or_stop (a ∷ p ∷ q ∷ []) (var 0 ⊕ var 1 ⊗ var 2)

abbrev pub sub_product : Interval → Interval → Interval → Result Interval ℕ
sub_product a p q = Expr-enclose_or_stop (a ∷ p ∷ q ∷ []) (var 0 ⊖ var 1 ⊗ var 2)

abbrev pub lerp : Interval → Interval → Interval → Result Interval ℕ
lerp t a b = Expr-enclose_or_stop (t ∷ a ∷ b ∷ []) (stages.lerp (var 0) (var 1) (var 2))

abbrev pub twice_sum : Interval → Interval → Result Interval ℕ
twice_sum p q = Expr-enclose_or_stop (p ∷ q ∷ []) (stages.two ⊗ (var 0 ⊕ var 1))

abbrev pub twice_difference : Interval → Interval → Result Interval ℕ
twice_difference p q = Expr-enclose_or_stop (p ∷ q ∷ []) (stages.two ⊗ (var 0 ⊖ var 1))

abbrev pub one_less_twice_sum : Interval → Interval → Result Interval ℕ
one_less_twice_sum p q = Expr-enclose_or_stop (p ∷ q ∷ []) (stages.one ⊖ stages.two ⊗ (var 0 ⊕ var 1))

-- A coordinate of the moved points.
abbrev pub moved : IntervalRow → IntervalVector → Result Interval ℕ
moved r p = Expr-enclose_or_stop (r.c0 ∷ r.c1 ∷ r.c2 ∷ r.c3 ∷ p.x ∷ p.y ∷ p.z ∷ []) (stages.moved (stages.row 0) (stages.vector 4))

-- A row by a column.
abbrev pub entry : IntervalRow → Interval → Interval → Interval → Interval → Result Interval ℕ
entry a b0 b1 b2 b3 =
    Expr-enclose_or_stop (a.c0 ∷ a.c1 ∷ a.c2 ∷ a.c3 ∷ b0 ∷ b1 ∷ b2 ∷ b3 ∷ [])
    (var 0 ⊗ var 4 ⊕ var 1 ⊗ var 5 ⊕ var 2 ⊗ var 6 ⊕ var 3 ⊗ var 7)

abbrev pub normalized : IntervalQuaternion → Result IntervalQuaternion ℕ
normalized q =
    and_then (Program-enclose_or_stop (IntervalQuaternion-list q) (stages.normalize (stages.quaternion 0) (λ n. give (n.x ∷ n.y ∷ n.z ∷ n.w ∷ []))))
    (λ (l : List Interval). Ok (JudgedQuaternion-of (enclosure 0 l)).quaternion)

abbrev product : Interval → Interval → Result Interval ℕ
product X Y = Judged-outcome (Judged-mul_enclosure 0 X Y)

abbrev pub mul_parts : IntervalQuaternion → Result Products ℕ
mul_parts q =
    and_then (product q.x q.x) (λ (xx : Interval).
    and_then (product q.y q.y) (λ (yy : Interval).
    and_then (product q.z q.z) (λ (zz : Interval).
    and_then (product q.x q.y) (λ (xy : Interval).
    and_then (product q.x q.z) (λ (xz : Interval).
    and_then (product q.y q.z) (λ (yz : Interval).
    and_then (product q.x q.w) (λ (wx : Interval).
    and_then (product q.y q.w) (λ (wy : Interval).
    and_then (product q.z q.w) (λ (wz : Interval).
    Ok (record { xx = xx; yy = yy; zz = zz; xy = xy; xz = xz; yz = yz; wx = wx; wy = wy; wz = wz }))))))))))
