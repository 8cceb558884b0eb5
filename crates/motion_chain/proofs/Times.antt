-- A query with a list of times answers at each time as a query of its own does, `times-answered`; it gives 5, 6 and 13 alone, `times-numbers` (a query of its
-- own 5 and 6, `chain-point-numbered`); the lent answers keep their length, `times-left`; and of a built chain, for a point of a box whose cover is accepted,
-- it answers at every time with a point inside the cover, `chain-contains-times`.
-- All rest on what an answered list is: each time answered, one point for each (`cons-moved`, `each-moved`), after checks that passed (`list-passed`).
use Rattle.std.specs.Prelude.{Ok, Err}
use Prim.Native.Nat.{ℕ, suc, ◌+◌, ◌*◌}
use mathlib.Core.Path.{◌≡◌, refl, sym, ap, subst, ◌∙◌}
use mathlib.Core.Bool.{Bool, true, false, not, ◌&&◌, ◌||◌, cond}
use mathlib.Core.Logic.{◌⊎◌, inl, inr}
use mathlib.Core.List.{List, [], ◌∷◌, ◌++◌}
use native.Mathlib.Omega.{arith}
use borrow.Author.Tests.{eqb-true, eqb-false, eq-eqb}
use lib.Dec.{T, eqb}
use lib.ListN.{length}
use lib.Ieee.{Float, inf, is_nan}
use lib.Ieee.Bits.{is_true, is_false}
use lib.Ieee.Fits.{and_l, and_r}
use Rattle.bounds_answers.specs.bounds3.declared.Point3f.{Point3f}
use Rattle.bounds_answers.specs.bounds3.declared.Bounds3f.{Bounds3f}
use Rattle.bounds_answers.specs.bounds3.Finite.{Point3f-is_finite}
use Rattle.bounds_answers.specs.bounds3.List.{Point3f-list}
use Rattle.bounds_answers.specs.transform.Answer.{PointAnswer, OneOf, PointAnswer-refusal, PointAnswer-point, PointAnswer-Judged, BoundsAnswer-bounds}
use Rattle.bounds_answers.specs.animated_transform.declared.AnimatedTransform.{AnimatedTransform}
use Rattle.bounds_answers.specs.motion_point.TransformPoint.{AnimatedTransform-constants, AnimatedTransform-moved_point, AnimatedTransform-transform_point}
use Rattle.bounds_answers.specs.motion_point.Answer.{PointAnswer-Numbered}
use Rattle.bounds_answers.proofs.motion_point.Query.{moved-point-judged, transform-point-accepted}
use Rattle.bounds_answers.proofs.motion_point.NonZero.{transform-point-numbered}
use Rattle.bounds_answers.specs.motion_cover.Theorem.{MovedInside}
use Rattle.bounds_answers.specs.formula.Promise.{Pairwise}
use Rattle.bounds_answers.specs.motion_pad.Grow.{PaddedInside}
use Rattle.motion_chain.specs.Chain.{every, Chain, Chain-move_at, Chain-transform_point, Chain-pad_at, Chain-cover}
use Rattle.motion_chain.specs.Built.{BuiltChain}
use Rattle.motion_chain.specs.Times.{times_are_numbers, never_falls, places_per_time, list_refusal, PointsAnswer, moved}
use Rattle.motion_chain.specs.Times.{refused, PointsAnswer-refusal, PointsAnswer-points, PointsAnswer-cons, points_at}
use Rattle.motion_chain.specs.Times.{Chain-transform_points, Points-list, PointsAnswer-left, Chain-points_left}
use Rattle.motion_chain.specs.TimesAnswer.{EachMoved, FirstRefused, TimesAnswered, PointsAnswer-Numbered}
use Rattle.motion_chain.specs.TimesAnswer.{TimesNumbers, TimesLeft, PointsInside, ChainContainsTimes}
use Rattle.motion_chain.proofs.Cover.{chain-contains}

-- ---- answers
abbrev is_moved : PointsAnswer → Bool
is_moved (moved qs) = true
is_moved (refused n) = false

pub refused-moved : {n : ℕ} {qs : List Point3f} → refused n ≡ moved qs → ⊥
refused-moved e = subst T (sym (ap is_moved e)) tt

refused-same : (a : PointsAnswer) → (PointsAnswer-refusal a ≡ 0 → ⊥) → a ≡ refused (PointsAnswer-refusal a)
refused-same (moved qs) h = absurd (h refl)
refused-same (refused n) h = refl

abbrev is_point : PointAnswer → Bool
is_point (Ok q) = true
is_point (Err n) = false

refused-point : {n : ℕ} {q : Point3f} → Err n ≡ Ok q → ⊥
refused-point e = subst T (sym (ap is_point e)) tt

-- A tested number, then points: the number was 0.
tested-moved : (n : ℕ) (a : PointsAnswer) (qs : List Point3f) → cond (eqb n 0) a (refused n) ≡ moved qs → (n ≡ 0) × (a ≡ moved qs)
tested-moved n a qs = go (eqb n 0) (eqb-true n 0)
  where
    go : (b : Bool) → (b ≡ true → n ≡ 0) → cond b a (refused n) ≡ moved qs → (n ≡ 0) × (a ≡ moved qs)
    go true f e = (f refl, e)
    go false f e = absurd (refused-moved e)

record ConsMoved (a : PointAnswer) (r : PointsAnswer) (qs : List Point3f) : Type 0 where
  point : Point3f
  rest : List Point3f
  first-moved : a ≡ Ok point
  rest-moved : r ≡ moved rest
  same : qs ≡ point ∷ rest

cons-moved : (a : PointAnswer) (r : PointsAnswer) (qs : List Point3f) → PointsAnswer-cons a r ≡ moved qs → ConsMoved a r qs
unfolding PointsAnswer-cons
cons-moved (Ok q) (moved rest) qs e = record { point = q; rest = rest; first-moved = refl; rest-moved = refl; same = sym (ap PointsAnswer-points e) }
cons-moved (Ok q) (refused n) qs e = absurd (refused-moved e)
cons-moved (Err n) r qs e = absurd (refused-moved e)

-- ---- a list that was answered
module _ (query : Float → PointAnswer) where
  pub points-count : (times : List Float) (qs : List Point3f) → points_at query times ≡ moved qs → length qs ≡ length times
  unfolding points_at
  points-count [] qs e = ap (λ (r : PointsAnswer). length (PointsAnswer-points r)) (sym e)
  points-count (t ∷ times) qs e =
      let h = cons-moved (query t) (points_at query times) qs e in
      ap (λ (l : List Point3f). length l) h.same ∙ ap suc (points-count times h.rest h.rest-moved)

pub floats-count : (qs : List Point3f) → length (Points-list qs) ≡ places_per_time * length qs
unfolding Points-list
floats-count [] = refl
floats-count (q ∷ qs) = let h = floats-count qs in omega (arith, h)

module _ (c : Chain) (p : Point3f) where
  each-moved : (times : List Float) (qs : List Point3f) → points_at (λ t. Chain-transform_point c t p) times ≡ moved qs → EachMoved c p times qs
  unfolding points_at
  each-moved [] qs e = subst (EachMoved c p []) (ap PointsAnswer-points e) tt
  each-moved (t ∷ times) qs e =
      let h = cons-moved (Chain-transform_point c t p) (points_at (λ t. Chain-transform_point c t p) times) qs e in
      let first = h.first-moved in
      subst (EachMoved c p (t ∷ times)) (sym h.same) (ap PointAnswer-refusal first, ap PointAnswer-point first, each-moved times h.rest h.rest-moved)

  first-refused : (times : List Float) (n : ℕ) → points_at (λ t. Chain-transform_point c t p) times ≡ refused n → FirstRefused c p times n
  unfolding points_at PointsAnswer-cons
  first-refused [] n e = absurd (refused-moved (sym e))
  first-refused (t ∷ times) n e = go (Chain-transform_point c t p) (points_at (λ t. Chain-transform_point c t p) times) refl refl e (first-refused times n)
    where
      go : (a : PointAnswer) (r : PointsAnswer) → Chain-transform_point c t p ≡ a
          → points_at (λ t. Chain-transform_point c t p) times ≡ r → PointsAnswer-cons a r ≡ refused n
          → (points_at (λ t. Chain-transform_point c t p) times ≡ refused n → FirstRefused c p times n) → FirstRefused c p (t ∷ times) n
      go (Ok q) (moved qs) f g e later = absurd (refused-moved (sym e))
      go (Ok q) (refused k) f g e later =
          let h = later (g ∙ e) in
          record {
            before = t ∷ h.before;
            time = h.time;
            after = h.after;
            split = ap (λ (l : List Float). t ∷ l) h.split;
            points = q ∷ h.points;
            answered = (ap PointAnswer-refusal f, ap PointAnswer-point f, h.answered);
            number = h.number;
          }
      go (Err k) r f g e later =
          let number = ap PointAnswer-refusal f ∙ ap PointsAnswer-refusal e in
          record { before = []; time = t; after = times; split = refl; points = []; answered = tt; number = number }

-- ---- the judging
pub record ListPassed (times : List Float) (p : Point3f) (places : ℕ) : Type 0 where
  pub numbers : T (times_are_numbers times)
  pub finite : T (Point3f-is_finite p)
  pub rises : T (never_falls times)
  pub exact : places ≡ places_per_time * length times

pub list-passed : (times : List Float) (p : Point3f) (places : ℕ) → list_refusal times p places ≡ 0 → ListPassed times p places
unfolding list_refusal
list-passed times p places =
    go (times_are_numbers times) (Point3f-is_finite p) (never_falls times) (eqb places (places_per_time * length times))
    (λ h. h) (λ h. h) (λ h. h) (eqb-true places (places_per_time * length times))
  where
    go : (n f r e : Bool) → (T n → T (times_are_numbers times)) → (T f → T (Point3f-is_finite p))
        → (T r → T (never_falls times)) → (e ≡ true → places ≡ places_per_time * length times)
        → ◌≡◌ {A = ℕ} (cond (not n || not f) 6 (cond (not r || not e) 13 0)) 0 → ListPassed times p places
    go true true true true N F R E z = record { numbers = N tt; finite = F tt; rises = R tt; exact = E refl }
    go true true true false N F R E z = absurd (omega arith)
    go true true false e N F R E z = absurd (omega arith)
    go true false r e N F R E z = absurd (omega arith)
    go false f r e N F R E z = absurd (omega arith)

list-accepted : (times : List Float) (p : Point3f) → T (times_are_numbers times) → T (Point3f-is_finite p)
    → T (never_falls times) → list_refusal times p (places_per_time * length times) ≡ 0
unfolding list_refusal
list-accepted times p n f r =
    let e : eqb (places_per_time * length times) (places_per_time * length times) ≡ true =
    eq-eqb (places_per_time * length times) (places_per_time * length times) refl in
    rw (is_true (times_are_numbers times) n, is_true (Point3f-is_finite p) f, is_true (never_falls times) r, e)

-- ---- the query
module _ (c : Chain) (times : List Float) (p : Point3f) (places : ℕ) where
  pub query-accepted : list_refusal times p places ≡ 0 → Chain-transform_points c times p places ≡ points_at (λ t. Chain-transform_point c t p) times
  unfolding Chain-transform_points
  query-accepted e = rw e

  pub query-moved : (qs : List Point3f) → Chain-transform_points c times p places ≡ moved qs
      → (list_refusal times p places ≡ 0) × (points_at (λ t. Chain-transform_point c t p) times ≡ moved qs)
  unfolding Chain-transform_points
  query-moved qs e = tested-moved (list_refusal times p places) (points_at (λ t. Chain-transform_point c t p) times) qs e

-- ---- the numbers
pub chain-point-numbered : (c : Chain) (time : Float) (p : Point3f) → PointAnswer-Numbered (0 ∷ 5 ∷ 6 ∷ []) (Chain-transform_point c time p)
unfolding Chain-transform_point
chain-point-numbered c time p = transform-point-numbered (Chain-move_at c time) time p

pub cons-numbered : (numbers : List ℕ) (a : PointAnswer) (r : PointsAnswer) → PointAnswer-Numbered numbers a → PointsAnswer-Numbered numbers r
    → PointsAnswer-Numbered numbers (PointsAnswer-cons a r)
unfolding PointsAnswer-cons
cons-numbered numbers (Ok q) (moved qs) h k = record { number = k.number; none = λ _. refl }
cons-numbered numbers (Ok q) (refused n) h k = k
cons-numbered numbers (Err n) r h k = record { number = h.number; none = λ e. absurd (refused-point (h.none e)) }

module _ (c : Chain) (p : Point3f) (finite : T (Point3f-is_finite p)) where
  time-numbered : (t : Float) → T (not (is_nan t)) → PointAnswer-Numbered (0 ∷ 5 ∷ []) (Chain-transform_point c t p)
  time-numbered t n = record { number = go judged.number; none = (chain-point-numbered c t p).none }
    where
      judged : PointAnswer-Judged (Chain-transform_point c t p)
      judged =
          let m = Chain-move_at c t in
          unfold Chain-transform_point in
          rw (transform-point-accepted m t p (is_false (is_nan t) n) (is_true (Point3f-is_finite p) finite))
          (moved-point-judged m (AnimatedTransform-constants m) t p)

      go : {k : ℕ} → (k ≡ 0) ⊎ (k ≡ 5) → OneOf k (0 ∷ 5 ∷ [])
      go (inl e) = inl e
      go (inr e) = inr (inl e)

  work-numbered : (times : List Float) → T (times_are_numbers times) → PointsAnswer-Numbered (0 ∷ 5 ∷ []) (points_at (λ t. Chain-transform_point c t p) times)
  unfolding points_at times_are_numbers every
  work-numbered [] n = record { number = inl refl; none = λ _. refl }
  work-numbered (t ∷ times) n =
      cons-numbered (0 ∷ 5 ∷ []) (Chain-transform_point c t p) (points_at (λ t. Chain-transform_point c t p) times)
      (time-numbered t (and_l (not (is_nan t)) (times_are_numbers times) n))
      (work-numbered times (and_r (not (is_nan t)) (times_are_numbers times) n))

list-number : (times : List Float) (p : Point3f) (places : ℕ) → OneOf (list_refusal times p places) (0 ∷ 6 ∷ 13 ∷ [])
unfolding list_refusal
list-number times p places =
    go (not (times_are_numbers times) || not (Point3f-is_finite p)) (not (never_falls times) || not (eqb places (places_per_time * length times)))
  where
    go : (b d : Bool) → OneOf (cond b 6 (cond d 13 0)) (0 ∷ 6 ∷ 13 ∷ [])
    go true d = inr (inl refl)
    go false true = inr (inr (inl refl))
    go false false = inl refl

pub times-numbers : (c : Chain) (times : List Float) (p : Point3f) (places : ℕ) → TimesNumbers c times p places
times-numbers c times p places = record { judging = list-number times p places; work = work; query = query (list-number times p places) }
  where
    wider : (a : PointsAnswer) → PointsAnswer-Numbered (0 ∷ 5 ∷ []) a → PointsAnswer-Numbered (0 ∷ 5 ∷ 6 ∷ 13 ∷ []) a
    wider a h = record { number = go h.number; none = h.none }
      where
        go : OneOf (PointsAnswer-refusal a) (0 ∷ 5 ∷ []) → OneOf (PointsAnswer-refusal a) (0 ∷ 5 ∷ 6 ∷ 13 ∷ [])
        go (inl e) = inl e
        go (inr (inl e)) = inr (inl e)
        go (inr (inr h)) = absurd h

    work : list_refusal times p places ≡ 0 → PointsAnswer-Numbered (0 ∷ 5 ∷ []) (Chain-transform_points c times p places)
    work z =
        let h = list-passed times p places z in
        rw (query-accepted c times p places z) (work-numbered c p h.finite times h.numbers)

    judged-by : (k : ℕ) → OneOf k (0 ∷ 5 ∷ 6 ∷ 13 ∷ []) → (k ≡ 0 → ⊥) → list_refusal times p places ≡ k
        → PointsAnswer-Numbered (0 ∷ 5 ∷ 6 ∷ 13 ∷ []) (Chain-transform_points c times p places)
    judged-by k o f e = unfold Chain-transform_points in rw e (go (eqb k 0) (eqb-true k 0))
      where
        go : (b : Bool) → (b ≡ true → k ≡ 0)
            → PointsAnswer-Numbered (0 ∷ 5 ∷ 6 ∷ 13 ∷ []) (cond b (points_at (λ t. Chain-transform_point c t p) times) (refused k))
        go true g = absurd (f (g refl))
        go false g = record { number = o; none = λ z. absurd (f z) }

    query : OneOf (list_refusal times p places) (0 ∷ 6 ∷ 13 ∷ []) → PointsAnswer-Numbered (0 ∷ 5 ∷ 6 ∷ 13 ∷ []) (Chain-transform_points c times p places)
    query (inl z) = wider (Chain-transform_points c times p places) (work z)
    query (inr (inl e)) = judged-by 6 (inr (inr (inl refl))) (λ z. omega (arith, z)) e
    query (inr (inr (inl e))) = judged-by 13 (inr (inr (inr (inl refl)))) (λ z. omega (arith, z)) e
    query (inr (inr (inr h))) = absurd h

-- ---- each time
pub times-answered : (c : Chain) (times : List Float) (p : Point3f) (places : ℕ) → TimesAnswered c times p places
times-answered c times p places =
    let a = Chain-transform_points c times p places in
    record {
      moved-each = λ e.
          let points = (times-numbers c times p places).query.none e in
          each-moved c p times (PointsAnswer-points a) (query-moved c times p places (PointsAnswer-points a) points).1;
      refused-first = λ z f. first-refused c p times (PointsAnswer-refusal a) (sym (query-accepted c times p places z) ∙ refused-same a f);
    }

-- ---- the lent answers
pub times-left : (c : Chain) (times : List Float) (p : Point3f) (old : List Float) → TimesLeft c times p old
unfolding PointsAnswer-left
times-left c times p old = go (Chain-transform_points c times p (length old)) refl
  where
    go : (r : PointsAnswer) → Chain-transform_points c times p (length old) ≡ r → length (PointsAnswer-left r old) ≡ length old
    go (refused n) e = refl
    go (moved qs) e =
        let (z, w) = query-moved c times p (length old) qs e in
        let n = points-count (λ t. Chain-transform_point c t p) times qs w in
        let f = floats-count qs in
        let h = (list-passed times p (length old) z).exact in
        f ∙ (ap (λ (k : ℕ). places_per_time * k) n ∙ sym h)

-- ---- the guarantee
-- A point that is answered is finite.
answered-finite : (c : Chain) (time : Float) (p : Point3f) → PointAnswer-refusal (Chain-transform_point c time p) ≡ 0 → T (Point3f-is_finite p)
unfolding Chain-transform_point AnimatedTransform-transform_point
answered-finite c time p =
    let m = Chain-move_at c time in
    go (is_nan time) (Point3f-is_finite p) (AnimatedTransform-moved_point m (AnimatedTransform-constants m) time p) (λ h. h)
  where
    go : (n f : Bool) (a : PointAnswer) → (T f → T (Point3f-is_finite p)) → PointAnswer-refusal (cond (n || not f) (Err 6) a) ≡ 0 → T (Point3f-is_finite p)
    go n true a g e = g tt
    go true false a g e = absurd (omega (arith, e))
    go false false a g e = absurd (omega (arith, e))

record MovedPoints (box : Bounds3f) (pad_at : Float → Float) (times : List Float) (answer : PointsAnswer) : Type 0 where
  points : List Point3f
  answered : answer ≡ moved points
  inside : Pairwise (λ t q. PaddedInside box (pad_at t) q) times points

cons-inside : (box : Bounds3f) (pad_at : Float → Float) (a : PointAnswer) (q : Point3f) (r : PointsAnswer) (t : Float) (times : List Float)
    → a ≡ Ok q → PaddedInside box (pad_at t) q → MovedPoints box pad_at times r → MovedPoints box pad_at (t ∷ times) (PointsAnswer-cons a r)
unfolding PointsAnswer-cons
cons-inside box pad_at a q r t times e i h = record { points = q ∷ h.points; answered = rw (e, h.answered); inside = (i, h.inside) }

each-inside : (c : Chain) (box : Bounds3f) (p : Point3f) → ((t : Float) → T (not (is_nan t)) → MovedInside box (Chain-pad_at c t) (Chain-transform_point c t p))
    → (times : List Float) → T (times_are_numbers times)
    → MovedPoints box (Chain-pad_at c) times (points_at (λ t. Chain-transform_point c t p) times)
unfolding points_at times_are_numbers every
each-inside c box p f [] n = record { points = []; answered = refl; inside = tt }
each-inside c box p f (t ∷ times) n =
    let a = Chain-transform_point c t p in
    let m = f t (and_l (not (is_nan t)) (times_are_numbers times) n) in
    cons-inside box (Chain-pad_at c) a (PointAnswer-point a) (points_at (λ t. Chain-transform_point c t p) times) t times
    ((chain-point-numbered c t p).none m.accepted) m.inside
    (each-inside c box p f times (and_r (not (is_nan t)) (times_are_numbers times) n))

-- Where each time is answered inside a box, so is the list.
pub times-inside : (c : Chain) (box : Bounds3f) (times : List Float) (p : Point3f)
    → ((t : Float) → T (not (is_nan t)) → MovedInside box (Chain-pad_at c t) (Chain-transform_point c t p)) → T (times_are_numbers times) → T (never_falls times)
    → PointsInside box (Chain-pad_at c) times (Chain-transform_points c times p (places_per_time * length times))
unfolding is_nan
times-inside c box times p each numbers rises =
    let z = list-accepted times p numbers (answered-finite c (inf false) p (each (inf false) tt).accepted) rises in
    let h = each-inside c box p each times numbers in
    let answered = query-accepted c times p (places_per_time * length times) z ∙ h.answered in
    subst (PointsInside box (Chain-pad_at c) times) (sym answered) (record { accepted = refl; inside = h.inside })

pub chain-contains-times : (c : Chain) (b : Bounds3f) (d : ℕ) → ChainContainsTimes c b (Chain-cover c b d)
chain-contains-times c b d times p built e numbers rises i =
    times-inside c (BoundsAnswer-bounds (Chain-cover c b d)) times p (λ t n. chain-contains c b d t p built e n i) numbers rises
