-- From a move on, the times of its stretch are asked of that move and those behind it of the moves after it:
-- `stretch-split`, of any answer that is put together from those of the parts of a list; of the last move all are asked,
-- `stretch-last`. So of the floats that are written: `part-put`, `floats-next`, `floats-last`.
use Prim.Native.Nat.{ℕ, suc, ◌+◌, ◌-◌, ◌*◌, ◌≤◌, ◌<◌}
use mathlib.Core.Path.{◌≡◌, sym, ap, ◌∙◌}
use mathlib.Core.Bool.{false}
use mathlib.Core.List.{List, [], ◌∷◌, ◌++◌, append-nil, append_assoc}
use native.Mathlib.Omega.{arith}
use borrow.Author.Tests.{eq-eqb, ne_eqb}
use lib.Dec.{T}
use lib.ListN.{length, take, drop, get_or, take-append-drop, length-append, length-drop, drop_of_length-le}
use lib.Seq.{length-take-le, take_all, take_at, drop-drop, get_or-drop}
use lib.Ieee.{Float, le}
use lib.Ieee.Bits.{is_true}
use Rattle.time_list.specs.matrix4x4.Rows.{Rows}
use Rattle.bounds3.specs.declared.Point3f.{Point3f}
use Rattle.time_list.specs.transform.Answer.{PointAnswer}
use Rattle.stretch_points.specs.motion_rows.TransformPoint.{Rows-transform_point}
use Rattle.time_list.specs.motion_chain.Built.{Each}
use Rattle.time_list.specs.motion_chain.Times.{never_falls, places_per_time}
use Rattle.time_list.specs.motion_chain.Stretches.{count_up_to}
use Rattle.time_list.proofs.motion_chain.Stretches.{front-up-to, rest-above}
use Rattle.chain_rows.specs.Kept.{Moves-transform_point}
use Rattle.chain_rows.proofs.Search.{place_from, end_time, place_here, place-next, place-last}
use Rattle.stretch_points.specs.Points.{floats_at, Rows-points_put}
use Rattle.stretch_points.proofs.Fill.{floats-append, floats-length, floats_same}

-- The part of the answers that belongs to a part of the times has its three places a time, so the move's points are put into it.
pub part-put : (rows : Rows) (p : Point3f) (times answers : List Float) (from to : ℕ)
    → from ≤ to → to ≤ length times → length answers ≡ places_per_time * length times
    → Rows-points_put rows (take (to - from) (drop from times)) p (take (3 * to - 3 * from) (drop (3 * from) answers))
    ≡ floats_at (λ t. Rows-transform_point rows t p) (take (to - from) (drop from times))
unfolding Rows-points_put
part-put rows p times answers from to l b n =
    let dt = length-drop from times in
    let da = length-drop (3 * from) answers in
    let pt = length-take-le (to - from) (drop from times) (omega (arith, dt, l, b)) in
    let pa = length-take-le (3 * to - 3 * from) (drop (3 * from) answers) (omega (arith, da, l, b, n)) in
    let places = length (take (3 * to - 3 * from) (drop (3 * from) answers)) in
    rw (eq-eqb places (places_per_time * length (take (to - from) (drop from times))) (omega (arith, pt, pa, l)))

module _ (moves : List Rows) (p : Point3f) where
  -- The query of the moves from place i on, and that of the move at place i.
  abbrev pub asked_from : ℕ → Float → PointAnswer
  asked_from i t = Moves-transform_point (drop i moves) t p

  abbrev pub own : ℕ → Float → PointAnswer
  own i t = Rows-transform_point (get_or moves i []) t p

  -- ---- one time
  query-at : (i : ℕ) (t : Float) → i < length moves → asked_from i t ≡ Rows-transform_point (get_or moves (i + place_from t moves i) []) t p
  unfolding Moves-transform_point
  query-at i t h =
      let n = length-drop i moves in
      rw (ne_eqb (length (drop i moves)) 0 (λ e. omega (arith, e, n, h)), get_or-drop i moves (place_from t moves i) [])

  front-asked : (i : ℕ) (times : List Float) → suc i < length moves → Each (λ t. T (le t (end_time moves i))) times → Each (λ t. asked_from i t ≡ own i t) times
  front-asked i [] h e = tt
  front-asked i (t ∷ times) h (e, es) =
      (rw (query-at i t (omega (arith, h)), place_here t moves i h (is_true (le t (end_time moves i)) e)), front-asked i times h es)

  rest-asked : (i : ℕ) (times : List Float) → suc i < length moves → Each (λ t. le t (end_time moves i) ≡ false) times
      → Each (λ t. asked_from i t ≡ asked_from (i + 1) t) times
  rest-asked i [] h e = tt
  rest-asked i (t ∷ times) h (e, es) =
      (rw (query-at i t (omega (arith, h)), query-at (i + 1) t (omega (arith, h)), place-next t moves i h e), rest-asked i times h es)

  last-asked : (i : ℕ) (times : List Float) → suc i ≡ length moves → Each (λ t. asked_from i t ≡ own i t) times
  last-asked i [] h = tt
  last-asked i (t ∷ times) h = (rw (query-at i t (omega (arith, h)), place-last t moves i h), last-asked i times h)

  -- ---- a stretch
  module _ {B : Type 0} (answer : (Float → PointAnswer) → List Float → B)
      (same : (f g : Float → PointAnswer) (xs : List Float) → Each (λ t. f t ≡ g t) xs → answer f xs ≡ answer g xs)
      (times : List Float) (i from : ℕ) where
    pub stretch-split : (join : B → B → B)
        → ((f : Float → PointAnswer) (xs ys : List Float) → answer f (xs ++ ys) ≡ join (answer f xs) (answer f ys)) → {to : ℕ}
        → suc i < length moves → T (never_falls (drop from times)) → to ≡ from + count_up_to (end_time moves i) (drop from times)
        → answer (asked_from i) (drop from times) ≡ join (answer (own i) (take (to - from) (drop from times))) (answer (asked_from (i + 1)) (drop to times))
    stretch-split join append {to} h rises e =
        let end = end_time moves i in
        let D = drop from times in
        let k = count_up_to end D in
        let here : to - from ≡ k = omega (arith, e) in
        let behind : drop to times ≡ drop k D = rw e (sym (drop-drop k from times)) in
        let front = same (asked_from i) (own i) (take k D) (front-asked i (take k D) h (front-up-to end D)) in
        let rest = same (asked_from i) (asked_from (i + 1)) (drop k D) (rest-asked i (drop k D) h (rest-above end D rises)) in
        let split = ap (answer (asked_from i)) (sym (take-append-drop k D)) ∙ append (asked_from i) (take k D) (drop k D) in
        rw (here, behind, ← front, ← rest) split

    pub stretch-last : suc i ≡ length moves → answer (asked_from i) (drop from times) ≡ answer (own i) (take (length times - from) (drop from times))
    stretch-last h =
        let n = length-drop from times in
        rw (take_all (length times - from) (drop from times) (omega (arith, n)))
        (same (asked_from i) (own i) (drop from times) (last-asked i (drop from times) h))

  -- ---- the floats that are written: what stands in the answers up to a stretch, with the floats of the times from there on
  module _ (times out : List Float) (i from : ℕ) where
    abbrev pub written : ℕ → List Float → ℕ → List Float
    written n l k = take (3 * n) l ++ floats_at (asked_from k) (drop n times)

    pub floats-next : {to : ℕ} {u : List Float}
        → suc i < length moves → T (never_falls (drop from times)) → length out ≡ places_per_time * length times
        → to ≡ from + count_up_to (end_time moves i) (drop from times) → from ≤ to → to ≤ length times
        → u ≡ take (3 * from) out ++ (floats_at (own i) (take (to - from) (drop from times)) ++ drop (3 * to - 3 * from) (drop (3 * from) out))
        → written to u (i + 1) ≡ written from out i
    floats-next {to} {u} h rises n e l b w =
        let rest = drop (3 * to - 3 * from) (drop (3 * from) out) in
        let part = take (to - from) (drop from times) in
        let X = take (3 * from) out in
        let Y = floats_at (own i) part in
        let Z = floats_at (asked_from (i + 1)) (drop to times) in
        let dl = length-drop from times in
        let pl = length-take-le (to - from) (drop from times) (omega (arith, dl, l, b)) in
        let xl = length-take-le (3 * from) out (omega (arith, n, l, b)) in
        let yl = floats-length (own i) part in
        let al = length-append X Y in
        let whole : length (X ++ Y) ≡ 3 * to = omega (arith, al, xl, yl, pl, l) in
        let front : take (3 * to) u ≡ X ++ Y = rw (w, ← append_assoc X Y rest) (take_at (X ++ Y) rest (3 * to) whole) in
        let split = stretch-split floats_at floats_same times i from (λ xs ys. xs ++ ys) floats-append h rises e in
        rw (front, split) (append_assoc X Y Z)

    pub floats-last : {u : List Float} → suc i ≡ length moves → from ≤ length times → length out ≡ places_per_time * length times
        → u ≡ take (3 * from) out ++ (floats_at (own i) (take (length times - from) (drop from times))
        ++ drop (3 * length times - 3 * from) (drop (3 * from) out))
        → u ≡ written from out i
    floats-last h l n w =
        let ol = length-drop (3 * from) out in
        let none = drop_of_length-le (drop (3 * from) out) {i = 3 * length times - 3 * from} (omega (arith, ol, n)) in
        let part = floats_at (own i) (take (length times - from) (drop from times)) in
        rw (w, none, append-nil part, stretch-last floats_at floats_same times i from h)
