-- What is joined in an accepted union lies in it: `union-parts`. As `union-all-parts` of bounds_answers,
-- but the empty box, whose corners are out of order, may be among the parts:
-- all that is asked is that corners are finite values of binary32, motion_cover's `Valued`. The empty box's are: `default-valued`.
use mathlib.Core.Logic.{inl, inr}
use mathlib.Core.Path.{◌≡◌, refl, sym, subst}
use mathlib.Core.List.Memᴰ
use mathlib.Core.List.{List, [], ◌∷◌, Memᴰ}
use lib.Ieee.{fits}
use Rattle.motion_chain.specs.bounds3.declared.Bounds3f.{Bounds3f}
use Rattle.motion_chain.specs.bounds3.Bounds3f.{Bounds3f-default}
use Rattle.motion_chain.specs.bounds3.Inside.{Subset}
use Rattle.motion_chain.specs.bounds3.means.Computing.{computing}
use Rattle.motion_chain.proofs.bounds3.Union.{finite-self, union_subset_left, union_subset_right}
use Rattle.motion_chain.specs.transform.declared.BoundsAnswer.{BoundsAnswer}
use Rattle.motion_chain.specs.transform.declared.BoundsAnswer.TheVariants.{Bounds}
use Rattle.motion_chain.specs.bounds_query.Query.{BoundsAnswer-union_bounds}
use Rattle.motion_chain.proofs.bounds_query.Union.{bounds-same, union-accepted}
use Rattle.motion_chain.proofs.motion_cover.Zeros.{Values, Valued, union-valued}
use Rattle.motion_chain.proofs.cover_depth.Finer.{BoxWithin, within-subset}
use Rattle.motion_chain.specs.bounds_answers.UnionAll.{BoundsAnswer-union_all}

default-values : Values Bounds3f-default
unfolding computing fits
default-values = record { finite = tt; low = record { x = tt; y = tt; z = tt }; high = record { x = tt; y = tt; z = tt } }

pub default-valued : Valued (Bounds Bounds3f-default)
default-valued = record { values = λ box e. subst Values (bounds-same Bounds3f-default box e) default-values }

-- A box of such values lies in itself.
valued-self : {r : BoundsAnswer} → Valued r → (box : Bounds3f) → r ≡ Bounds box → Subset box box
valued-self v box e = finite-self (v.values box e).finite

two-parts : (r s : BoundsAnswer) (box : Bounds3f) → Valued r → Valued s → BoundsAnswer-union_bounds r s ≡ Bounds box → BoxWithin r box × BoxWithin s box
two-parts r s box p q e =
    let j = union-accepted r s box e in (
      record {
        box = j.left;
        accepted = j.left-accepted;
        subset = subst (Subset j.left) j.union (union_subset_left j.right (valued-self p j.left j.left-accepted));
      },
      record {
        box = j.right;
        accepted = j.right-accepted;
        subset = subst (Subset j.right) j.union (union_subset_right j.left (valued-self q j.right j.right-accepted));
      },
    )

pub union-parts : (r : BoundsAnswer) (answers : List BoundsAnswer) (box : Bounds3f) → Valued r → ((s : BoundsAnswer) → Memᴰ s answers → Valued s)
    → BoundsAnswer-union_all r answers ≡ Bounds box → BoxWithin r box × ((s : BoundsAnswer) → Memᴰ s answers → BoxWithin s box)
union-parts r [] box p h e = (record { box = box; accepted = e; subset = valued-self p box e }, λ s m. absurd (Memᴰ.not-nil m))
union-parts r (s ∷ answers) box p h e =
    let q = h s (Memᴰ.head refl) in
    let (u, us) = union-parts (BoundsAnswer-union_bounds r s) answers box (union-valued r s p q) (λ x m. h x (Memᴰ.tail m)) e in
    let (v, w) = two-parts r s u.box p q u.accepted in
    let last = within-subset w u.subset in
    (within-subset v u.subset, λ x m. elim (Memᴰ.cases_cons m) [ inl k ↦ subst (λ (y : BoundsAnswer). BoxWithin y box) (sym k) last | inr k ↦ us x k ])
