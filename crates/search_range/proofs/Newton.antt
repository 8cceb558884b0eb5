-- A far angle in Newton's steps: where both angles of a step are far it gives NaN, and stays there (`newton-far`); where one is, the run ends where it is or
-- in NaN (`newton-one-far`). Where theta and t double, one is far as the other is, so that a run that meets one there ends in NaN (`ends-in-nan`).
use mathlib.Core.Path.{◌≡◌, refl, sym, ap, subst, ◌∙◌}
use mathlib.Core.Logic.{◌⊎◌, inl, inr}
use mathlib.Core.Bool.{Bool, true, false, cond, ◌||◌}
use Prim.Native.Nat.{ℕ, zero, suc}
use lib.Dec.{T}
use lib.Ieee.{Float, nan, inf, fin, binary32, add, sub, mul, div, neg, eq, lt, fits}
use lib.Ieee.Fits.{sub-fits}
use Rattle.zero_search.specs.float32.Abs.{abs}
use Rattle.zero_search.specs.float32.Operators.{◌⊕◌, ◌⊖◌, ◌⊗◌, ◌⊘◌, positive_zero, two}
use Rattle.zero_search.specs.trig.SinCos.{cos}
use Rattle.zero_search.proofs.trig.Monotone.{sin-far}
use Rattle.zero_search.specs.motion_derivative.declared.MotionDerivative.{MotionDerivative}
use Rattle.zero_search.specs.motion_derivative.Derivative.{MotionDerivative-value_at, MotionDerivative-value}
use Rattle.zero_search.specs.motion_derivative.Derivative.{MotionDerivative-slope_at, MotionDerivative-slope, MotionDerivative-newton}
use Rattle.search_range.specs.Far.{Far, value_angle, slope_angle, MeetsFar, Doubles, EndsInNanBelow}
use Rattle.search_range.proofs.Double.{angles-same}

-- ---- NaN in each operation
add-nan : (x : Float) → x ⊕ nan ≡ nan
unfolding add
add-nan nan = refl
add-nan (inf s) = refl
add-nan (fin s m e) = refl

pub mul-nan : (x : Float) → x ⊗ nan ≡ nan
unfolding mul
mul-nan nan = refl
mul-nan (inf s) = refl
mul-nan (fin s m e) = refl

sub-nan : (x : Float) → x ⊖ nan ≡ nan
unfolding sub neg
sub-nan x = add-nan x

div-nan : (x : Float) → x ⊘ nan ≡ nan
unfolding div
div-nan nan = refl
div-nan (inf s) = refl
div-nan (fin s m e) = refl

nan-div : (x : Float) → nan ⊘ x ≡ nan
unfolding div
nan-div x = refl

nan-not-zero : eq nan positive_zero ≡ false
unfolding eq
nan-not-zero = refl

pub nan-far : Far nan
unfolding lt abs
nan-far = refl

-- ---- value and slope at a far angle
module _ (f : MotionDerivative) (t : Float) where
  value-far : Far (value_angle f t) → MotionDerivative-value f t ≡ nan
  unfolding MotionDerivative-value MotionDerivative-value_at
  value-far h = rw (sin-far (value_angle f t) h, mul-nan (f.c4 ⊕ f.c5 ⊗ t)) (add-nan (f.c1 ⊕ (f.c2 ⊕ f.c3 ⊗ t) ⊗ cos (value_angle f t)))

  slope-far : Far (slope_angle f t) → MotionDerivative-slope f t ≡ nan
  unfolding MotionDerivative-slope MotionDerivative-slope_at
  slope-far h =
      rw (sin-far (slope_angle f t) h, mul-nan (f.c5 ⊖ two ⊗ (f.c2 ⊕ f.c3 ⊗ t) ⊗ f.theta))
      (add-nan ((f.c3 ⊕ two ⊗ (f.c4 ⊕ f.c5 ⊗ t) ⊗ f.theta) ⊗ cos (slope_angle f t)))

  -- one step
  abbrev step : Float → Float → ℕ → Float
  step v s n = cond (eq v positive_zero || eq s positive_zero) t (MotionDerivative-newton f n (t ⊖ v ⊘ s))

  newton-step : (n : ℕ) (v s : Float) → MotionDerivative-value f t ≡ v → MotionDerivative-slope f t ≡ s → MotionDerivative-newton f (suc n) t ≡ step v s n
  unfolding MotionDerivative-newton
  newton-step n v s value slope = ap (λ (x : Float). step x (MotionDerivative-slope f t) n) value ∙ ap (λ (x : Float). step v x n) slope

-- ---- the steps
step-nan : (f : MotionDerivative) (t : Float) (n : ℕ) → MotionDerivative-newton f n nan ≡ nan → step f t nan nan n ≡ nan
step-nan f t n h = rw (nan-not-zero, nan-div nan, sub-nan t) h

pub newton-nan : (f : MotionDerivative) (n : ℕ) → MotionDerivative-newton f n nan ≡ nan
newton-nan f zero = unfold MotionDerivative-newton in refl
newton-nan f (suc n) =
    let v = value-far f nan (rw (mul-nan (two ⊗ f.theta)) nan-far) in
    let s = slope-far f nan (rw (mul-nan two) (nan-times f)) in
    newton-step f nan n nan nan v s ∙ step-nan f nan n (newton-nan f n)
  where
    nan-times : (f : MotionDerivative) → Far (nan ⊗ f.theta)
    nan-times f = unfold mul in nan-far

pub newton-far : (f : MotionDerivative) (n : ℕ) (t : Float) → Far (value_angle f t) → Far (slope_angle f t) → MotionDerivative-newton f (suc n) t ≡ nan
newton-far f n t v s = newton-step f t n nan nan (value-far f t v) (slope-far f t s) ∙ step-nan f t n (newton-nan f n)

pub newton-one-far : (f : MotionDerivative) (n : ℕ) (t : Float) → Far (value_angle f t) ⊎ Far (slope_angle f t)
    → (MotionDerivative-newton f (suc n) t ≡ t) ⊎ (MotionDerivative-newton f (suc n) t ≡ nan)
newton-one-far f n t h =
    let v = MotionDerivative-value f t in
    let s = MotionDerivative-slope f t in
    let first = newton-step f t n v s refl refl in
    elim (go (eq v positive_zero || eq s positive_zero) (v ⊘ s) (lost h)) [ inl e ↦ inl (first ∙ e) | inr e ↦ inr (first ∙ e) ]
  where
    lost : Far (value_angle f t) ⊎ Far (slope_angle f t) → MotionDerivative-value f t ⊘ MotionDerivative-slope f t ≡ nan
    lost (inl a) = rw (value-far f t a) (nan-div (MotionDerivative-slope f t))
    lost (inr a) = rw (slope-far f t a) (div-nan (MotionDerivative-value f t))

    go : (b : Bool) (q : Float) → q ≡ nan
        → (cond b t (MotionDerivative-newton f n (t ⊖ q)) ≡ t) ⊎ (cond b t (MotionDerivative-newton f n (t ⊖ q)) ≡ nan)
    go true q e = inl refl
    go false q e = inr (rw (e, sub-nan t) (newton-nan f n))

-- ---- a run
pub further-newton : (f : MotionDerivative) (n : ℕ) (t : Float)
    → (eq (MotionDerivative-value f t) positive_zero || eq (MotionDerivative-slope f t) positive_zero) ≡ false
    → MotionDerivative-newton f (suc n) t ≡ MotionDerivative-newton f n (t ⊖ MotionDerivative-value f t ⊘ MotionDerivative-slope f t)
further-newton f n t h =
    let next = MotionDerivative-newton f n (t ⊖ MotionDerivative-value f t ⊘ MotionDerivative-slope f t) in
    newton-step f t n (MotionDerivative-value f t) (MotionDerivative-slope f t) refl refl ∙ ap (λ (b : Bool). cond b t next) h

pub ends-in-nan : (f : MotionDerivative) → T (fits binary32 f.theta) → Doubles f.theta → EndsInNanBelow f
ends-in-nan f fθ dθ zero t u ft x d = elim x [ ]
ends-in-nan f fθ dθ (suc n) t u ft (MeetsFar.here h) d = newton-far f n t (both h).0 (both h).1
  where
    both : Far (value_angle f t) ⊎ Far (slope_angle f t) → Far (value_angle f t) × Far (slope_angle f t)
    both (inl a) = (a, subst Far (angles-same f.theta t fθ dθ ft d) a)
    both (inr a) = (subst Far (sym (angles-same f.theta t fθ dθ ft d)) a, a)
ends-in-nan f fθ dθ (suc n) t u ft (MeetsFar.further h r) d =
    further-newton f n t h ∙ ends-in-nan f fθ dθ n _ u (sub-fits binary32 t _) r d
