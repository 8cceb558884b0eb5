-- A list of times is the stretches of a chain's moves, `stretches`, and the query with the list is each move's query over its own stretch,
-- whose points fill its own part of the lent answers, `stretch-points`. The times of a stretch are up to its move's end time (`front-up-to`),
-- and those behind it are above that (`rest-above`), since the list never falls.
use Rattle.std.specs.Prelude.{Ok, Err}
use Prim.Native.Nat.{ℕ, zero, suc, ◌*◌}
use mathlib.Core.Path.{◌≡◌, refl, sym, ap, subst, ◌∙◌}
use mathlib.Core.Bool.{Bool, true, false, not, ◌&&◌, cond}
use mathlib.Core.List.{List, [], ◌∷◌, ◌++◌, flatten, append-nil, append_assoc}
use native.Mathlib.Omega.{arith}
use lib.Dec.{T}
use lib.ListN.{length, take, drop, take-append-drop}
use lib.Ieee.{Float, le}
use lib.Ieee.Bits.{is_true}
use lib.Ieee.Fits.{and_l, and_r}
use Rattle.bounds_answers.specs.rounding.Order.{◌≼◌}
use Rattle.bounds_answers.proofs.rounding.Order.{≼_trans}
use Rattle.bounds_answers.specs.bounds3.declared.Point3f.{Point3f}
use Rattle.bounds_answers.specs.bounds3.List.{Point3f-list}
use Rattle.bounds_answers.specs.transform.Answer.{PointAnswer}
use Rattle.bounds_answers.specs.animated_transform.declared.AnimatedTransform.{AnimatedTransform}
use Rattle.bounds_answers.specs.motion_point.TransformPoint.{AnimatedTransform-transform_point}
use Rattle.motion_chain.specs.Chain.{Chain, Chain-moves, move_from, Chain-move_at, Chain-transform_point}
use Rattle.motion_chain.specs.Built.{Each}
use Rattle.motion_chain.specs.MoveAt.{index_from}
use Rattle.motion_chain.specs.Times.{never_falls, places_per_time, list_refusal, PointsAnswer, moved, refused, PointsAnswer-refusal}
use Rattle.motion_chain.specs.Times.{PointsAnswer-points, PointsAnswer-cons, PointsAnswer-append, points_at, AnimatedTransform-transform_points}
use Rattle.motion_chain.specs.Times.{Chain-transform_points, Points-list, PointsAnswer-left, Chain-points_left}
use Rattle.motion_chain.specs.Stretches.{count_up_to, stretches_from, Chain-stretches, points_by_move, EachFrom}
use Rattle.motion_chain.specs.Stretches.{Stretches, MovePart, MoveParts, FilledByMoves, StretchPoints}
use Rattle.motion_chain.proofs.MoveAt.{first-move, later-move}
use Rattle.motion_chain.proofs.Times.{refused-moved, points-count, floats-count, list-passed, query-accepted, query-moved, times-numbers}

-- ---- parts of a list
module _ {A : Type 0} (P : A → Type 0) where
  each_take : (n : ℕ) (xs : List A) → Each P xs → Each P (take n xs)
  each_take zero xs h = tt
  each_take (suc n) [] h = tt
  each_take (suc n) (x ∷ xs) (h, hs) = (h, each_take n xs hs)

  each-drop : (n : ℕ) (xs : List A) → Each P xs → Each P (drop n xs)
  each-drop zero xs h = h
  each-drop (suc n) [] h = tt
  each-drop (suc n) (x ∷ xs) (h, hs) = each-drop n xs hs

-- A list that never falls, without its first time, and from any place on.
rises-later : (t : Float) (times : List Float) → T (never_falls (t ∷ times)) → T (never_falls times)
unfolding never_falls
rises-later t [] h = tt
rises-later t (u ∷ times) h = and_r (le t u) (never_falls (u ∷ times)) h

pub rises-drop : (n : ℕ) (times : List Float) → T (never_falls times) → T (never_falls (drop n times))
rises-drop zero times h = h
rises-drop (suc n) [] h = h
rises-drop (suc n) (t ∷ times) h = rises-drop n times (rises-later t times h)

-- ---- up to an end time, and above it
module _ (end : Float) where
  abbrev UpTo : Float → Type 0
  UpTo t = T (le t end)

  abbrev Above : Float → Type 0
  Above t = le t end ≡ false

  pub front-up-to : (times : List Float) → Each UpTo (take (count_up_to end times) times)
  unfolding count_up_to
  front-up-to [] = tt
  front-up-to (t ∷ times) = go (le t end) (λ h. h) (front-up-to times)
    where
      go : (b : Bool) → (T b → T (le t end)) → Each UpTo (take (count_up_to end times) times)
          → Each UpTo (take (cond b (suc (count_up_to end times)) 0) (t ∷ times))
      go true f h = (f tt, h)
      go false f h = tt

  -- Above the end is every time from one that is.
  all_above : (t : Float) (times : List Float) → Above t → T (never_falls (t ∷ times)) → Each Above (t ∷ times)
  unfolding never_falls
  all_above t [] a h = (a, tt)
  all_above t (u ∷ times) a h = (
    a,
    all_above u times (next (le u end) (λ k. (≼_trans {x = t}
        (record { holds = and_l (le t u) (never_falls (u ∷ times)) h }) (record { holds = k })).holds)) (and_r (le t u) (never_falls (u ∷ times)) h),
  )
    where
      next : (b : Bool) → (T b → T (le t end)) → b ≡ false
      next false f = refl
      next true f = absurd (subst T a (f tt))

  pub rest-above : (times : List Float) → T (never_falls times) → Each Above (drop (count_up_to end times) times)
  unfolding count_up_to
  rest-above [] h = tt
  rest-above (t ∷ times) h = go (le t end) (λ e. all_above t times e h) (rest-above times (rises-later t times h))
    where
      go : (b : Bool) → (b ≡ false → Each Above (t ∷ times)) → Each Above (drop (count_up_to end times) times)
          → Each Above (drop (cond b (suc (count_up_to end times)) 0) (t ∷ times))
      go true f k = k
      go false f k = f refl

-- ---- the stretches
stretches-count : (m : AnimatedTransform) (moves : List AnimatedTransform) (times : List Float) → length (stretches_from m moves times) ≡ suc (length moves)
unfolding stretches_from
stretches-count m [] times = refl
stretches-count m (next ∷ moves) times = ap suc (stretches-count next moves (drop (count_up_to m.end_time times) times))

stretches-list : (m : AnimatedTransform) (moves : List AnimatedTransform) (times : List Float) → flatten (stretches_from m moves times) ≡ times
unfolding stretches_from flatten
stretches-list m [] times = append-nil times
stretches-list m (next ∷ moves) times =
    let n = count_up_to m.end_time times in
    ap (λ (l : List Float). take n times ++ l) (stretches-list next moves (drop n times)) ∙ take-append-drop n times

stretches-each : (P : Float → Type 0) (m : AnimatedTransform) (moves : List AnimatedTransform) (times : List Float)
    → Each P times → Each (Each P) (stretches_from m moves times)
unfolding stretches_from
stretches-each P m [] times h = (h, tt)
stretches-each P m (next ∷ moves) times h =
    let n = count_up_to m.end_time times in
    (each_take P n times h, stretches-each P next moves (drop n times) (each-drop P n times h))

-- ---- the place of each stretch
abbrev AtPlace : AnimatedTransform → List AnimatedTransform → ℕ → List Float → Type 0
AtPlace m moves i stretch = Each (λ t. index_from m moves t ≡ i) stretch

module _ (m next : AnimatedTransform) (moves : List AnimatedTransform) where
  first-place : (times : List Float) → Each (λ t. T (le t m.end_time)) times → AtPlace m (next ∷ moves) 0 times
  unfolding index_from
  first-place [] h = tt
  first-place (t ∷ times) (h, hs) = (rw (is_true (le t m.end_time) h), first-place times hs)

  next_place : (i : ℕ) (times : List Float) → Each (λ t. le t m.end_time ≡ false) times
      → AtPlace next moves i times → AtPlace m (next ∷ moves) (suc i) times
  unfolding index_from
  next_place i [] h k = tt
  next_place i (t ∷ times) (h, hs) (k, ks) = (rw h (ap suc k), next_place i times hs ks)

  next-places : (i : ℕ) (lists : List (List Float)) → Each (Each (λ t. le t m.end_time ≡ false)) lists → EachFrom (AtPlace next moves) i lists
      → EachFrom (AtPlace m (next ∷ moves)) (suc i) lists
  next-places i [] h k = tt
  next-places i (times ∷ lists) (h, hs) (k, ks) = (next_place i times h k, next-places (suc i) lists hs ks)

stretches-belong : (m : AnimatedTransform) (moves : List AnimatedTransform) (times : List Float)
    → T (never_falls times) → EachFrom (AtPlace m moves) 0 (stretches_from m moves times)
unfolding stretches_from
stretches-belong m [] times h = (only times, tt)
  where
    only : (ts : List Float) → AtPlace m [] 0 ts
    only [] = tt
    only (t ∷ ts) = (unfold index_from in refl, only ts)
stretches-belong m (next ∷ moves) times h =
    let n = count_up_to m.end_time times in (
      first-place m next moves (take n times) (front-up-to m.end_time times),
      next-places m next moves 0 (stretches_from next moves (drop n times))
          (stretches-each (λ t. le t m.end_time ≡ false) next moves (drop n times) (rest-above m.end_time times h))
          (stretches-belong next moves (drop n times) (rises-drop n times h)),
    )

pub stretches : (c : Chain) (times : List Float) → Stretches c times
unfolding Chain-stretches
stretches c times = record {
  count = stretches-count c.first c.rest times;
  list = stretches-list c.first c.rest times;
  belongs = stretches-belong c.first c.rest times;
}

-- ---- answers to parts of a list
append-nothing : (r : PointsAnswer) → PointsAnswer-append r (moved []) ≡ r
unfolding PointsAnswer-append
append-nothing (moved qs) = ap moved (append-nil qs)
append-nothing (refused n) = refl

cons-append : (a : PointAnswer) (r s : PointsAnswer) → PointsAnswer-cons a (PointsAnswer-append r s) ≡ PointsAnswer-append (PointsAnswer-cons a r) s
unfolding PointsAnswer-cons PointsAnswer-append
cons-append (Ok q) (moved ps) (moved qs) = refl
cons-append (Ok q) (moved ps) (refused n) = refl
cons-append (Ok q) (refused n) s = refl
cons-append (Err n) r s = refl

nothing-append : (r : PointsAnswer) → r ≡ PointsAnswer-append (moved []) r
unfolding PointsAnswer-append
nothing-append (moved qs) = refl
nothing-append (refused n) = refl

pub points-append : (query : Float → PointAnswer) (xs ys : List Float) → points_at query (xs ++ ys) ≡ PointsAnswer-append (points_at query xs) (points_at query ys)
unfolding points_at
points-append query [] ys = nothing-append (points_at query ys)
points-append query (x ∷ xs) ys = ap (PointsAnswer-cons (query x)) (points-append query xs ys) ∙ cons-append (query x) (points_at query xs) (points_at query ys)

pub points-same : (f g : Float → PointAnswer) (times : List Float) → Each (λ t. f t ≡ g t) times → points_at f times ≡ points_at g times
unfolding points_at
points-same f g [] h = refl
points-same f g (t ∷ times) (h, hs) = rw (h, points-same f g times hs)

-- ---- move by move
module _ (p : Point3f) where
  abbrev query_from : AnimatedTransform → List AnimatedTransform → Float → PointAnswer
  query_from m moves t = AnimatedTransform-transform_point (move_from m moves t) t p

  first-asked : (m next : AnimatedTransform) (moves : List AnimatedTransform) (times : List Float) → Each (λ t. T (le t m.end_time)) times
      → Each (λ t. query_from m (next ∷ moves) t ≡ AnimatedTransform-transform_point m t p) times
  first-asked m next moves [] h = tt
  first-asked m next moves (t ∷ times) (h, hs) = (rw (first-move t m (next ∷ moves) h), first-asked m next moves times hs)

  later-asked : (m next : AnimatedTransform) (moves : List AnimatedTransform) (times : List Float) → Each (λ t. le t m.end_time ≡ false) times
      → Each (λ t. query_from m (next ∷ moves) t ≡ query_from next moves t) times
  later-asked m next moves [] h = tt
  later-asked m next moves (t ∷ times) (h, hs) = (rw (later-move t m next moves h), later-asked m next moves times hs)

  last-asked : (m : AnimatedTransform) (times : List Float) → points_at (query_from m []) times ≡ AnimatedTransform-transform_points m times p
  unfolding move_from AnimatedTransform-transform_points
  last-asked m times = refl

  points-by-move : (m : AnimatedTransform) (moves : List AnimatedTransform) (times : List Float) → T (never_falls times)
      → points_at (query_from m moves) times ≡ points_by_move p (m ∷ moves) (stretches_from m moves times)
  unfolding stretches_from points_by_move
  points-by-move m [] times h = last-asked m times ∙ sym (append-nothing (AnimatedTransform-transform_points m times p))
  points-by-move m (next ∷ moves) times h =
      let n = count_up_to m.end_time times in
      let q = query_from m (next ∷ moves) in
      let parts = ap (points_at q) (sym (take-append-drop n times)) ∙ points-append q (take n times) (drop n times) in
      let front = points-same q (λ t. AnimatedTransform-transform_point m t p) (take n times)
      (first-asked m next moves (take n times) (front-up-to m.end_time times)) in
      let rest = points-same q (query_from next moves) (drop n times) (later-asked m next moves (drop n times) (rest-above m.end_time times h))
      ∙ points-by-move next moves (drop n times) (rises-drop n times h) in
      parts ∙ (ap (λ (r : PointsAnswer). PointsAnswer-append r (points_at q (drop n times))) (front ∙ own m (take n times))
      ∙ ap (PointsAnswer-append (AnimatedTransform-transform_points m (take n times) p)) rest)
    where
      own : (x : AnimatedTransform) (ts : List Float) → points_at (λ t. AnimatedTransform-transform_point x t p) ts ≡ AnimatedTransform-transform_points x ts p
      own x ts = unfold AnimatedTransform-transform_points in refl

-- ---- the parts of the lent answers
record AppendMoved (r s : PointsAnswer) (qs : List Point3f) : Type 0 where
  front : List Point3f
  rest : List Point3f
  front-moved : r ≡ moved front
  rest-moved : s ≡ moved rest
  same : qs ≡ front ++ rest

append-moved : (r s : PointsAnswer) (qs : List Point3f) → PointsAnswer-append r s ≡ moved qs → AppendMoved r s qs
unfolding PointsAnswer-append
append-moved (moved ps) (moved rs) qs e = record { front = ps; rest = rs; front-moved = refl; rest-moved = refl; same = sym (ap PointsAnswer-points e) }
append-moved (moved ps) (refused n) qs e = absurd (refused-moved e)
append-moved (refused n) s qs e = absurd (refused-moved e)

floats-append : (ps qs : List Point3f) → Points-list (ps ++ qs) ≡ Points-list ps ++ Points-list qs
unfolding Points-list
floats-append [] qs = refl
floats-append (p ∷ ps) qs = ap (λ (l : List Float). Point3f-list p ++ l) (floats-append ps qs)

record Filled (p : Point3f) (moves : List AnimatedTransform) (lists : List (List Float)) (qs : List Point3f) : Type 0 where
  parts : List (List Float)
  whole : flatten parts ≡ Points-list qs
  each : MoveParts p moves lists parts

moves-fill : (p : Point3f) (moves : List AnimatedTransform) (lists : List (List Float)) (qs : List Point3f)
    → length lists ≡ length moves → points_by_move p moves lists ≡ moved qs
    → Filled p moves lists qs
unfolding points_by_move flatten AnimatedTransform-transform_points Points-list
moves-fill p [] [] qs n e = record { parts = []; whole = ap (λ (r : PointsAnswer). Points-list (PointsAnswer-points r)) e; each = tt }
moves-fill p [] (s ∷ lists) qs n e = absurd (omega (arith, n))
moves-fill p (m ∷ moves) [] qs n e = absurd (omega (arith, n))
moves-fill p (m ∷ moves) (s ∷ lists) qs n e =
    let a = append-moved (AnimatedTransform-transform_points m s p) (points_by_move p moves lists) qs e in
    let h = moves-fill p moves lists a.rest (omega (arith, n)) a.rest-moved in
    let k = points-count (λ t. AnimatedTransform-transform_point m t p) s a.front a.front-moved in
    let f = floats-count a.front in
    record {
      parts = Points-list a.front ∷ h.parts;
      whole = ap (λ (l : List Float). Points-list a.front ++ l) h.whole ∙ (sym (floats-append a.front a.rest) ∙ ap Points-list (sym a.same));
      each = (
        record {
          accepted = ap PointsAnswer-refusal a.front-moved;
          floats = ap (λ (r : PointsAnswer). Points-list (PointsAnswer-points r)) (sym a.front-moved);
          places = f ∙ ap (λ (x : ℕ). places_per_time * x) k;
        },
        h.each,
      );
    }

module _ (c : Chain) (times : List Float) (p : Point3f) where
  chain-by-move : T (never_falls times) → points_at (λ t. Chain-transform_point c t p) times ≡ points_by_move p (Chain-moves c) (Chain-stretches c times)
  unfolding Chain-transform_point Chain-move_at Chain-stretches
  chain-by-move h = points-by-move p c.first c.rest times h

  pub stretch-points : (old : List Float) → StretchPoints c times p old
  stretch-points old =
      let answer = Chain-transform_points c times p (length old) in
      record { query = query; filled = λ e. filled (PointsAnswer-points answer) ((times-numbers c times p (length old)).query.none e) }
    where
      query : list_refusal times p (length old) ≡ 0 → Chain-transform_points c times p (length old) ≡ points_by_move p (Chain-moves c) (Chain-stretches c times)
      query z = query-accepted c times p (length old) z ∙ chain-by-move (list-passed times p (length old) z).rises

      filled : (qs : List Point3f) → Chain-transform_points c times p (length old) ≡ moved qs → FilledByMoves c times p (Chain-points_left c times p old)
      filled qs e =
          let z = (query-moved c times p (length old) qs e).0 in
          let f = moves-fill p (Chain-moves c) (Chain-stretches c times) qs (stretches c times).count (sym (query z) ∙ e) in
          record { parts = f.parts; whole = f.whole ∙ left; each = f.each }
        where
          left : Points-list qs ≡ Chain-points_left c times p old
          left = unfold PointsAnswer-left in rw e
