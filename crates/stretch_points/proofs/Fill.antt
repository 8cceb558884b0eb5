-- Points put one after the other are the floats of all: `filled-floats`; one more of them, `filled_next`; none, `filled-end`.
-- The floats of a list of times: of its parts, `floats-append`; how many, `floats-length`; of equal answers, `floats_same`.
use Prim.Native.Nat.{ℕ, suc, ◌+◌, ◌*◌, ◌≤◌, ◌<◌}
use mathlib.Core.Path.{◌≡◌, refl, ap, ◌∙◌}
use mathlib.Core.List.{List, [], ◌∷◌, ◌++◌, append_assoc}
use native.Mathlib.Omega.{arith}
use lib.ListN.{length, drop, get_or, length-append, drop_of_length-le}
use lib.Seq.{sets, length-sets, drop-cons}
use lib.Ieee.{Float, nan}
use Rattle.bounds3.specs.declared.Point3f.{Point3f}
use Rattle.bounds3.specs.List.{Point3f-list}
use Rattle.transform.specs.Answer.{PointAnswer, PointAnswer-point}
use Rattle.motion_chain.specs.Built.{Each}
use Rattle.motion_chain.specs.Times.{places_per_time, Points-list}
use Rattle.stretch_points.specs.Points.{floats_at}

-- A point's floats put behind what is done.
put-behind : (done : List Float) (a b c x y z : Float) (rest : List Float)
    → sets (done ++ a ∷ b ∷ c ∷ rest) (length done) (x ∷ y ∷ z ∷ []) ≡ (done ++ x ∷ y ∷ z ∷ []) ++ rest
put-behind [] a b c x y z rest = refl
put-behind (d ∷ done) a b c x y z rest = ap (λ (l : List Float). d ∷ l) (put-behind done a b c x y z rest)

pub put-length : (out : List Float) (n : ℕ) {q r : Point3f} {u : List Float} → q ≡ r → u ≡ sets out n (Point3f-list q) → length u ≡ length out
put-length out n {q} e f = ap (λ (l : List Float). length l) f ∙ length-sets out n (Point3f-list q)

-- ---- a stretch
module _ (query : Float → PointAnswer) where
  -- The points at the times, put one after the other from the place of time i on.
  unfoldable pub filled : List Float → ℕ → List Float → List Float
  filled out i [] = out
  filled out i (t ∷ times) = filled (sets out (places_per_time * i) (Point3f-list (PointAnswer-point (query t)))) (suc i) times

  filled-behind : (times : List Float) (done rest : List Float) (i : ℕ) → places_per_time * i ≡ length done → length rest ≡ places_per_time * length times
      → filled (done ++ rest) i times ≡ done ++ floats_at query times
  unfolding filled floats_at Points-list
  filled-behind [] done [] i e h = refl
  filled-behind [] done (a ∷ rest) i e h = absurd (omega (arith, h))
  filled-behind (t ∷ times) done [] i e h = absurd (omega (arith, h))
  filled-behind (t ∷ times) done (a ∷ []) i e h = absurd (omega (arith, h))
  filled-behind (t ∷ times) done (a ∷ b ∷ []) i e h = absurd (omega (arith, h))
  filled-behind (t ∷ times) done (a ∷ b ∷ c ∷ rest) i e h =
      let q = PointAnswer-point (query t) in
      let l : length (done ++ Point3f-list q) ≡ length done + 3 = length-append done (Point3f-list q) in
      rw (e, put-behind done a b c q.x q.y q.z rest)
      (filled-behind times (done ++ Point3f-list q) rest (suc i) (omega (arith, e, l)) (omega (arith, h))
      ∙ append_assoc done (Point3f-list q) (floats_at query times))

  pub filled-floats : (times out : List Float) → length out ≡ places_per_time * length times → filled out 0 times ≡ floats_at query times
  filled-floats times out h = filled-behind times [] out 0 refl h

  pub filled_next : (times out : List Float) (i : ℕ) {q : Point3f} {u : List Float} → i < length times
      → q ≡ PointAnswer-point (query (get_or times i nan)) → u ≡ sets out (places_per_time * i) (Point3f-list q)
      → filled u (i + 1) (drop (i + 1) times) ≡ filled out i (drop i times)
  unfolding filled
  filled_next times out i h e f = let n : i + 1 ≡ suc i = omega arith in rw (n, drop-cons times i nan h, f, e)

  pub filled-end : (times out : List Float) (i : ℕ) → length times ≤ i → filled out i (drop i times) ≡ out
  unfolding filled
  filled-end times out i h = rw (drop_of_length-le times {i = i} h)

  pub floats-append : (xs ys : List Float) → floats_at query (xs ++ ys) ≡ floats_at query xs ++ floats_at query ys
  unfolding floats_at Points-list
  floats-append [] ys = refl
  floats-append (x ∷ xs) ys = ap (λ (l : List Float). Point3f-list (PointAnswer-point (query x)) ++ l) (floats-append xs ys)

  pub floats-length : (xs : List Float) → length (floats_at query xs) ≡ places_per_time * length xs
  unfolding floats_at Points-list
  floats-length [] = refl
  floats-length (x ∷ xs) = let h = floats-length xs in omega (arith, h)

pub floats_same : (f g : Float → PointAnswer) (xs : List Float) → Each (λ t. f t ≡ g t) xs → floats_at f xs ≡ floats_at g xs
unfolding floats_at Points-list
floats_same f g [] h = refl
floats_same f g (x ∷ xs) (h, hs) = rw (h, floats_same f g xs hs)
