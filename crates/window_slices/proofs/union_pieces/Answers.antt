-- `union_pieces` meets its contract: a refusal stands; groups of lean pieces where these are the same (`groups-same`), and judged pieces otherwise.
use Prim.Native.Nat.{ℕ, ◌-◌, min}
use mathlib.Core.Path.{sym, subst, ◌∙◌}
use mathlib.Core.Bool.{◌&&◌}
use lib.Dec.{T, ltb, ltb→lt}
use lib.Ieee.Fits.{and_l}
use native.Mathlib.Omega.{arith}
use borrow.Author.Rules.{rules}
use Rattle.bounds3.specs.declared.Bounds3f.{Bounds3f}
use Rattle.transform.specs.declared.BoundsAnswer.{BoundsAnswer}
use Rattle.transform.specs.declared.BoundsAnswer.TheVariants.{Bounds}
use Rattle.bounds_query.specs.Query.{max_depth}
use Rattle.bounds_query.specs.Same.{BoundsAnswer-Same}
use Rattle.dt_pieces.specs.means.Pieces.{piece_box, union_pieces}
use Rattle.window_groups.specs.means.Halves.{Halves-union}
use Rattle.window_slices.proofs.Groups.{refused-union, judged-clauses, same-clauses, groups-same}
use Rattle.window_slices.proofs.union_pieces.Goals as goal

pub returns-in_default : goal.returns-in_default
returns-in_default c = let a = c.args in let d = min a.depth max_depth in let all = judged-clauses a.a a.s0 a.s1 a.pad0 a.pad1 a.b d a.dt a.r a.r
    (refused-union a.a a.s0 a.s1 a.pad0 a.pad1 a.b d a.dt a.r c.in_default.field-0 c.in_default.is) in record { value = all.0; same = all.1 }

pub overflow_sub-h : goal.overflow_sub-h
overflow_sub-h c =
    let h = c.held_depth-h.result in
    let d = c.coarse_depth-coarse.result in
    let both : T (ltb 1 h && ltb d h) = subst T (sym c.if-h-coarse.true) tt in
    let several = ltb→lt 1 h (and_l (ltb 1 h) (ltb d h) both) in
    omega (arith, several)

pub returns-then-is_lean : goal.returns-then-is_lean
returns-then-is_lean c = let a = c.args in let box = piece_box a.a a.s0 a.s1 a.pad0 a.pad1 a.b in let first = c.in-Bounds.first in let h = c.held_depth-h.result in let d = c.coarse_depth-coarse.result in let both : T (ltb 1 h && ltb d h) = subst T (sym c.if-h-coarse.true) tt in let several = ltb→lt 1 h (and_l (ltb 1 h) (ltb d h) both) in let lanes = Halves-union a.a a.s0 a.s1 a.pad0 a.pad1 a.b (h - 2) a.dt first in let same = groups-same a.a a.s0 a.s1 a.pad0 a.pad1 a.b a.dt first (c.is_lean.ensures.value c.if-is_lean.true) h (omega (arith, several)) in let all = same-clauses a.a a.s0 a.s1 a.pad0 a.pad1 a.b (min a.depth max_depth) a.dt a.r (Bounds c.union_groups-union.result)
    (subst (λ (x : Bounds3f). BoundsAnswer-Same (union_pieces box a.r (min a.depth max_depth) a.dt) (Bounds x)) (sym c.union_groups-union.ensures.value)
    (subst (λ (k : ℕ). BoundsAnswer-Same (union_pieces box a.r k a.dt) (Bounds lanes)) c.held_depth-h.ensures.value
    (subst (λ (r : BoundsAnswer). BoundsAnswer-Same (union_pieces box r h a.dt) (Bounds lanes)) (sym c.in-Bounds.is) same))) in record { value = all.0; same = all.1 }

pub returns : goal.returns
returns c = let a = c.args in let box = piece_box a.a a.s0 a.s1 a.pad0 a.pad1 a.b in let own = sym c.in-Bounds.is in let all = judged-clauses a.a a.s0 a.s1 a.pad0 a.pad1 a.b (min a.depth max_depth) a.dt a.r c.union_pieces.result
    (c.union_pieces.ensures.value ∙ λ i. union_pieces box (own i) (min a.depth max_depth) a.dt) in record { value = all.0; same = all.1 }
