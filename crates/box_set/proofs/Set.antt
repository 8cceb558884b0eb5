-- What an accepted set says of its boxes, `set-accepted`: each box's answer is a box, and lies in the union. And back, `set-of-accepted`.
-- The first refused box gives the number, `first-refused`, and the numbers of a set are those of its boxes and 14, `set-numbered`.
use Prim.Native.Nat.{ℕ, ◌≤◌}
use mathlib.Core.Path.{◌≡◌, refl, sym, subst, ◌∙◌}
use mathlib.Core.Bool.{Bool, true, false, cond}
use mathlib.Core.Logic.{◌⊎◌, inl, inr, ⊎_elim}
use mathlib.Core.List.{List, [], ◌∷◌, ◌++◌, map, map-map}
use native.Mathlib.Omega.{arith}
use borrow.Author.Tests.{le-ltb, ltb-false}
use lib.Dec.{ltb}
use lib.ListN.{length}
use Rattle.motion_chain.specs.bounds3.declared.Bounds3f.{Bounds3f}
use Rattle.motion_chain.specs.bounds3.Bounds3f.{Bounds3f-union_bounds}
use Rattle.motion_chain.specs.transform.declared.BoundsAnswer.{BoundsAnswer}
use Rattle.motion_chain.specs.transform.declared.BoundsAnswer.TheVariants.{Bounds, Refused}
use Rattle.motion_chain.specs.transform.Answer.{OneOf, BoundsAnswer-refusal, BoundsAnswer-bounds}
use Rattle.motion_chain.proofs.transform.Answer.{one-of-more}
use Rattle.motion_chain.specs.bounds_query.Query.{BoundsAnswer-union_bounds}
use Rattle.motion_chain.proofs.bounds_query.Union.{refused-bounds}
use Rattle.motion_chain.specs.motion_cover.Answer.{Proper, BoundsAnswer-Numbered}
use Rattle.motion_chain.proofs.motion_cover.NonZero.{BoundsAnswer-NonZero, nonzero-box}
use Rattle.motion_chain.proofs.cover_depth.Finer.{BoxWithin}
use Rattle.motion_chain.specs.bounds_answers.UnionAll.{BoundsAnswer-union_all, Each}
use Rattle.motion_chain.proofs.bounds_answers.UnionAll.{each_map, each-unmap, each_of, union-all-nonzero, union-all-parts, union-all-refused, union-all-numbered}
use Rattle.box_set.specs.Set.{max_boxes, SetAnswer, covered, refused, SetAnswer-refusal, SetAnswer-covers}
use Rattle.box_set.specs.Set.{SetAnswer-union, SetAnswer-joined, SetAnswer-of, Boxes-covers}
use Rattle.box_set.specs.Theorem.{SetAnswer-Numbered, FirstRefused}

module _ (cover : Bounds3f → BoundsAnswer) where
  abbrev cover_box : Bounds3f → Bounds3f
  cover_box b = BoundsAnswer-bounds (cover b)

  -- ---- an accepted set
  -- The set has a first box, its covers are its boxes' own, and their union is a box.
  pub record AcceptedSet (boxes : List Bounds3f) : Type 0 where
    pub count : length boxes ≤ max_boxes
    pub first : Bounds3f
    pub rest : List Bounds3f
    pub nonempty : boxes ≡ first ∷ rest
    pub union : Bounds3f
    pub joined : BoundsAnswer-union_all (cover first) (map cover rest) ≡ Bounds union

  pub set-of-accepted : {boxes : List Bounds3f} (a : AcceptedSet boxes) → Boxes-covers cover boxes ≡ covered (map cover_box boxes) a.union
  unfolding Boxes-covers SetAnswer-of
  set-of-accepted {boxes} a = rw (le-ltb max_boxes (length boxes) a.count, a.nonempty, a.joined, map-map BoundsAnswer-bounds cover a.rest)

  joined-accepted : (answers : List BoundsAnswer) (u : BoundsAnswer) → BoundsAnswer-NonZero u → SetAnswer-refusal (SetAnswer-joined answers u) ≡ 0
      → u ≡ Bounds (BoundsAnswer-bounds u)
  joined-accepted answers (Bounds u) h e = refl
  joined-accepted answers (Refused n) h e = absurd (h e)

  some-accepted : ((b : Bounds3f) → BoundsAnswer-NonZero (cover b)) → (boxes : List Bounds3f) → length boxes ≤ max_boxes
      → SetAnswer-refusal (SetAnswer-of (map cover boxes)) ≡ 0 → AcceptedSet boxes
  unfolding SetAnswer-of
  some-accepted nonzero [] l e = absurd (omega (arith, e))
  some-accepted nonzero (b ∷ boxes) l e =
      let u = BoundsAnswer-union_all (cover b) (map cover boxes) in
      let each = each_map {P = λ (x : Bounds3f). Unit {0}} BoundsAnswer-NonZero cover (λ x _. nonzero x) boxes (each_of (λ x. tt) boxes) in
      let z : BoundsAnswer-NonZero u = union-all-nonzero (cover b) (map cover boxes) (nonzero b) each in
      record { count = l; first = b; rest = boxes; nonempty = refl; union = BoundsAnswer-bounds u; joined = joined-accepted (cover b ∷ map cover boxes) u z e }

  pub set-accepted : ((b : Bounds3f) → BoundsAnswer-NonZero (cover b)) → (boxes : List Bounds3f)
      → SetAnswer-refusal (Boxes-covers cover boxes) ≡ 0 → AcceptedSet boxes
  unfolding Boxes-covers
  set-accepted nonzero boxes = go (ltb max_boxes (length boxes)) (ltb-false max_boxes (length boxes))
    where
      go : (t : Bool) → (t ≡ false → length boxes ≤ max_boxes) → SetAnswer-refusal (cond t (refused 14) (SetAnswer-of (map cover boxes))) ≡ 0 → AcceptedSet boxes
      go true f e = absurd (omega (arith, e))
      go false f e = some-accepted nonzero boxes (f refl) e

  -- Each box's answer is a box, and lies in the union.
  pub set-within : ((b : Bounds3f) → Proper (cover b)) → {boxes : List Bounds3f} (a : AcceptedSet boxes) → Each (λ b. BoxWithin (cover b) a.union) boxes
  set-within proper {boxes} a =
      let each = each_map {P = λ (b : Bounds3f). Unit {0}} Proper cover (λ b _. proper b) a.rest (each_of (λ b. tt) a.rest) in
      let (w, ws) = union-all-parts (cover a.first) (map cover a.rest) a.union (proper a.first) each a.joined in
      subst (Each (λ b. BoxWithin (cover b) a.union)) (sym a.nonempty) (w, each-unmap (λ s. BoxWithin s a.union) cover a.rest ws)

  -- ---- the numbers
  first-joined : (r : Bounds3f) (before : List Bounds3f) (b : Bounds3f) (after : List Bounds3f) (n : ℕ)
      → Each (λ x. cover x ≡ Bounds (cover_box x)) before → cover b ≡ Refused n
      → BoundsAnswer-union_all (Bounds r) (map cover (before ++ b ∷ after)) ≡ Refused n
  unfolding BoundsAnswer-union_bounds
  first-joined r [] b after n h e = rw e (union-all-refused n (map cover after))
  first-joined r (x ∷ before) b after n (h, hs) e = rw h (first-joined (Bounds3f-union_bounds r (cover_box x)) before b after n hs e)

  pub first-refused : ((b : Bounds3f) → BoundsAnswer-NonZero (cover b)) → FirstRefused cover
  unfolding Boxes-covers SetAnswer-of
  first-refused nonzero [] b after n l h e = rw (le-ltb max_boxes (length (b ∷ after)) l, e, union-all-refused n (map cover after))
  first-refused nonzero (x ∷ before) b after n l (h, hs) e =
      rw (
        le-ltb max_boxes (length (x ∷ before ++ b ∷ after)) l,
        nonzero-box (cover x) (nonzero x) h,
        first-joined (cover_box x) before b after n (boxes before hs) e,
      )
    where
      boxes : (xs : List Bounds3f) → Each (λ y. BoundsAnswer-refusal (cover y) ≡ 0) xs → Each (λ y. cover y ≡ Bounds (cover_box y)) xs
      boxes [] k = tt
      boxes (y ∷ ys) (k, ks) = (nonzero-box (cover y) (nonzero y) k, boxes ys ks)

  one-of-last : (n : ℕ) (ms : List ℕ) → OneOf n (ms ++ n ∷ [])
  one-of-last n [] = inl refl
  one-of-last n (m ∷ ms) = inr (one-of-last n ms)

  joined-numbered : {numbers : List ℕ} (answers : List BoundsAnswer) (u : BoundsAnswer) → BoundsAnswer-Numbered numbers u
      → SetAnswer-Numbered (numbers ++ 14 ∷ []) (SetAnswer-joined answers u)
  joined-numbered {numbers} answers (Bounds u) k = record { number = one-of-more 0 numbers (14 ∷ []) k.number; none = λ _. refl }
  joined-numbered {numbers} answers (Refused n) k =
      record { number = one-of-more n numbers (14 ∷ []) k.number; none = λ e. absurd (refused-box n (BoundsAnswer-bounds (Refused n)) (k.none e)) }
    where
      refused-box : (m : ℕ) (b : Bounds3f) → Refused m ≡ Bounds b → ⊥
      refused-box = refused-bounds

  none-numbered : (numbers : List ℕ) → SetAnswer-Numbered (numbers ++ 14 ∷ []) (refused 14)
  none-numbered numbers = record { number = one-of-last 14 numbers; none = λ e. absurd (omega (arith, e)) }

  some-numbered : (numbers : List ℕ) → ((b : Bounds3f) → BoundsAnswer-Numbered numbers (cover b)) → (boxes : List Bounds3f)
      → SetAnswer-Numbered (numbers ++ 14 ∷ []) (SetAnswer-of (map cover boxes))
  unfolding SetAnswer-of
  some-numbered numbers numbered [] = none-numbered numbers
  some-numbered numbers numbered (b ∷ boxes) =
      let each = each_map {P = λ (x : Bounds3f). Unit {0}} (BoundsAnswer-Numbered numbers) cover (λ x _. numbered x) boxes (each_of (λ x. tt) boxes) in
      joined-numbered (cover b ∷ map cover boxes) (BoundsAnswer-union_all (cover b) (map cover boxes))
      (union-all-numbered (cover b) (map cover boxes) (numbered b) each)

  pub set-numbered : (numbers : List ℕ) → ((b : Bounds3f) → BoundsAnswer-Numbered numbers (cover b)) → (boxes : List Bounds3f)
      → SetAnswer-Numbered (numbers ++ 14 ∷ []) (Boxes-covers cover boxes)
  unfolding Boxes-covers
  set-numbered numbers numbered boxes = go (ltb max_boxes (length boxes))
    where
      go : (t : Bool) → SetAnswer-Numbered (numbers ++ 14 ∷ []) (cond t (refused 14) (SetAnswer-of (map cover boxes)))
      go true = none-numbered numbers
      go false = some-numbered numbers numbered boxes
