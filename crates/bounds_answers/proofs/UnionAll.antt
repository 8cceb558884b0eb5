-- What holds of every answer holds of their union: `union-all-keeps`, and so `union-all-proper`,
-- `union-all-nonzero`, `union-all-numbered` and `union-all-within`. Every answer of an accepted union lies in it:
-- `union-all-parts`. A refusal stands whatever follows: `union-all-refused`. Two lists in a row: `union-append`.
use Prim.Native.Nat.{ℕ}
use mathlib.Core.Path.{◌≡◌, refl}
use mathlib.Core.List.{List, [], ◌∷◌, ◌++◌, map}
use Rattle.cover_depth.specs.bounds3.declared.Bounds3f.{Bounds3f}
use Rattle.cover_depth.specs.transform.declared.BoundsAnswer.{BoundsAnswer}
use Rattle.cover_depth.specs.transform.declared.BoundsAnswer.TheVariants.{Bounds, Refused}
use Rattle.cover_depth.specs.bounds_query.Query.{BoundsAnswer-union_bounds}
use Rattle.cover_depth.proofs.pose_steps.Box.{order-refl}
use Rattle.cover_depth.specs.motion_cover.Answer.{Proper, BoundsAnswer-Numbered}
use Rattle.cover_depth.proofs.motion_cover.NonZero.{BoundsAnswer-NonZero, union-nonzero}
use Rattle.cover_depth.proofs.motion_cover.Proper.{box-order, union-proper}
use Rattle.cover_depth.proofs.Finer.{BoxWithin, within-subset, union-within, parts_within}
use Rattle.bounds_answers.specs.UnionAll.{BoundsAnswer-union_all, Each}

-- ---- items
pub each_map : {A B : Type 0} {P : A → Type 0} (Q : B → Type 0) (f : A → B) → ((x : A) → P x → Q (f x)) → (xs : List A) → Each P xs → Each Q (map f xs)
each_map Q f g [] h = tt
each_map Q f g (x ∷ xs) (h, hs) = (g x h, each_map Q f g xs hs)

pub each-unmap : {A B : Type 0} (Q : B → Type 0) (f : A → B) (xs : List A) → Each Q (map f xs) → Each (λ x. Q (f x)) xs
each-unmap Q f [] h = tt
each-unmap Q f (x ∷ xs) (h, hs) = (h, each-unmap Q f xs hs)

pub each-implies : {A : Type 0} {P Q : A → Type 0} → ((x : A) → P x → Q x) → (xs : List A) → Each P xs → Each Q xs
each-implies g [] h = tt
each-implies g (x ∷ xs) (h, hs) = (g x h, each-implies g xs hs)

pub each_of : {A : Type 0} {P : A → Type 0} → ((x : A) → P x) → (xs : List A) → Each P xs
each_of g [] = tt
each_of g (x ∷ xs) = (g x, each_of g xs)

-- ---- what every answer has
module _ (P : BoundsAnswer → Type 0) (joined : (r s : BoundsAnswer) → P r → P s → P (BoundsAnswer-union_bounds r s)) where
  pub union-all-keeps : (r : BoundsAnswer) (answers : List BoundsAnswer) → P r → Each P answers → P (BoundsAnswer-union_all r answers)
  union-all-keeps r [] h hs = h
  union-all-keeps r (s ∷ answers) h (k, ks) = union-all-keeps (BoundsAnswer-union_bounds r s) answers (joined r s h k) ks

pub union-all-proper : (r : BoundsAnswer) (answers : List BoundsAnswer) → Proper r → Each Proper answers → Proper (BoundsAnswer-union_all r answers)
union-all-proper = union-all-keeps Proper union-proper

pub union-all-nonzero : (r : BoundsAnswer) (answers : List BoundsAnswer) → BoundsAnswer-NonZero r → Each BoundsAnswer-NonZero answers
    → BoundsAnswer-NonZero (BoundsAnswer-union_all r answers)
union-all-nonzero = union-all-keeps BoundsAnswer-NonZero union-nonzero

pub union-all-within : (box : Bounds3f) (r : BoundsAnswer) (answers : List BoundsAnswer) → BoxWithin r box → Each (λ s. BoxWithin s box) answers
    → BoxWithin (BoundsAnswer-union_all r answers) box
union-all-within box = union-all-keeps (λ s. BoxWithin s box) (λ r s. union-within r s)

pub union-all-numbered : {numbers : List ℕ} (r : BoundsAnswer) (answers : List BoundsAnswer)
    → BoundsAnswer-Numbered numbers r → Each (BoundsAnswer-Numbered numbers) answers
    → BoundsAnswer-Numbered numbers (BoundsAnswer-union_all r answers)
union-all-numbered {numbers} = union-all-keeps (BoundsAnswer-Numbered numbers) union-numbered
  where
    union-numbered : (r s : BoundsAnswer) → BoundsAnswer-Numbered numbers r → BoundsAnswer-Numbered numbers s
        → BoundsAnswer-Numbered numbers (BoundsAnswer-union_bounds r s)
    union-numbered (Bounds a) (Bounds b) h k = unfold BoundsAnswer-union_bounds in record { number = h.number; none = λ _. refl }
    union-numbered (Bounds a) (Refused n) h k = unfold BoundsAnswer-union_bounds in k
    union-numbered (Refused n) s h k = unfold BoundsAnswer-union_bounds in h

-- ---- an accepted union
pub union-all-parts : (r : BoundsAnswer) (answers : List BoundsAnswer) (box : Bounds3f)
    → Proper r → Each Proper answers → BoundsAnswer-union_all r answers ≡ Bounds box
    → BoxWithin r box × Each (λ s. BoxWithin s box) answers
union-all-parts r [] box p h e = (record { box = box; accepted = e; subset = order-refl (box-order p e) }, tt)
union-all-parts r (s ∷ answers) box p (q, qs) e =
    let (u, us) = union-all-parts (BoundsAnswer-union_bounds r s) answers box (union-proper r s p q) qs e in
    let (v, w) = parts_within r s u.box p q u.accepted in
    (within-subset v u.subset, (within-subset w u.subset, us))

-- ---- a refusal
pub union-all-refused : (n : ℕ) (answers : List BoundsAnswer) → BoundsAnswer-union_all (Refused n) answers ≡ Refused n
unfolding BoundsAnswer-union_bounds
union-all-refused n [] = refl
union-all-refused n (s ∷ answers) = union-all-refused n answers

-- Over two lists, one behind the other, it is that over the first and then the second.
pub union-append : (r : BoundsAnswer) (xs ys : List BoundsAnswer) → BoundsAnswer-union_all r (xs ++ ys) ≡ BoundsAnswer-union_all (BoundsAnswer-union_all r xs) ys
union-append r [] ys = refl
union-append r (x ∷ xs) ys = union-append (BoundsAnswer-union_bounds r x) xs ys
