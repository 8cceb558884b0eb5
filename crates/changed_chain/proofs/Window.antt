-- A list with one pose changed, and its part from the pose before to the pose behind, `window`. What every pose or every neighbouring pair passed but for
-- those that the change touches is told by the window: `stage-window`, `pairs-window`, `every-window`; and so is what comes of the pairs, `answers-window`.
use Prim.Native.Nat.{ℕ, zero, suc, ◌-◌, ◌≤◌, ◌<◌}
use mathlib.Core.Path.{◌≡◌, refl, sym, ap, ◌∙◌}
use mathlib.Core.Bool.{Bool, ◌&&◌}
use mathlib.Core.List.{List, [], ◌∷◌, map}
use native.Mathlib.Omega.{arith}
use lib.Dec.{T}
use lib.ListN.{length, take, set}
use lib.Seq.{sets}
use lib.Ieee.Fits.{and_i, and_l, and_r}
use Rattle.built_poses.specs.pose_pair.declared.Pose.{Pose}
use Rattle.built_poses.specs.motion_chain.Chain.{neighbours, every, first_number, stage}
use Rattle.built_poses.proofs.motion_chain.Built.{first-none}

-- The pose at a place, with the one before it and the one behind it.
abbrev pub window : List Pose → ℕ → List Pose
window poses zero = take 2 poses
window poses (suc zero) = take 3 poses
window [] (suc (suc i)) = []
window (x ∷ poses) (suc (suc i)) = window poses (suc i)

pub window-least : (poses : List Pose) (i : ℕ) → 2 ≤ length poses → i < length poses → 2 ≤ length (window poses i)
window-least [] i l h = absurd (omega (arith, h))
window-least (a ∷ []) i l h = absurd (omega (arith, l))
window-least (a ∷ b ∷ poses) zero l h = omega arith
window-least (a ∷ b ∷ []) (suc zero) l h = omega arith
window-least (a ∷ b ∷ c ∷ poses) (suc zero) l h = omega arith
window-least (a ∷ b ∷ []) (suc (suc i)) l h = absurd (omega (arith, h))
window-least (a ∷ b ∷ c ∷ poses) (suc (suc i)) l h = window-least (b ∷ c ∷ poses) (suc i) (omega arith) (omega (arith, h))

pub window-greatest : (poses : List Pose) (i : ℕ) → length (window poses i) ≤ 3
window-greatest [] zero = omega arith
window-greatest (a ∷ []) zero = omega arith
window-greatest (a ∷ b ∷ poses) zero = omega arith
window-greatest [] (suc zero) = omega arith
window-greatest (a ∷ []) (suc zero) = omega arith
window-greatest (a ∷ b ∷ []) (suc zero) = omega arith
window-greatest (a ∷ b ∷ c ∷ poses) (suc zero) = omega arith
window-greatest [] (suc (suc i)) = omega arith
window-greatest (a ∷ poses) (suc (suc i)) = window-greatest poses (suc i)

module _ (p : Pose) where
  abbrev window_of : List Pose → ℕ → List Pose
  window_of poses i = window (set poses i p) i

  pub stage-window : (number : Pose → ℕ) (poses : List Pose) (i : ℕ) → stage number poses ≡ 0 → i < length poses
      → stage number (set poses i p) ≡ stage number (window_of poses i)
  unfolding first_number
  stage-window number [] i z h = absurd (omega (arith, h))
  stage-window number (a ∷ []) zero z h = refl
  stage-window number (a ∷ []) (suc i) z h = absurd (omega (arith, h))
  stage-window number (a ∷ b ∷ poses) zero z h =
      let (_, y) = first-none (number a) (map number (b ∷ poses)) z in
      let (_, x) = first-none (number b) (map number poses) y in
      rw x
  stage-window number (a ∷ b ∷ []) (suc zero) z h = refl
  stage-window number (a ∷ b ∷ c ∷ poses) (suc zero) z h =
      let (_, y) = first-none (number a) (map number (b ∷ c ∷ poses)) z in
      let (_, x) = first-none (number b) (map number (c ∷ poses)) y in
      let (_, w) = first-none (number c) (map number poses) x in
      rw w
  stage-window number (a ∷ b ∷ poses) (suc (suc i)) z h =
      let (y, x) = first-none (number a) (map number (b ∷ poses)) z in
      rw y (stage-window number (b ∷ poses) (suc i) x (omega (arith, h)))

  pub pairs-window : (number : Pose × Pose → ℕ) (poses : List Pose) (i : ℕ) → stage number (neighbours poses) ≡ 0 → i < length poses
      → stage number (neighbours (set poses i p)) ≡ stage number (neighbours (window_of poses i))
  unfolding first_number neighbours
  pairs-window number [] i z h = absurd (omega (arith, h))
  pairs-window number (a ∷ []) zero z h = refl
  pairs-window number (a ∷ []) (suc i) z h = absurd (omega (arith, h))
  pairs-window number (a ∷ b ∷ poses) zero z h =
      let (_, y) = first-none (number (a, b)) (map number (neighbours (b ∷ poses))) z in
      rw y
  pairs-window number (a ∷ b ∷ []) (suc zero) z h = refl
  pairs-window number (a ∷ b ∷ c ∷ poses) (suc zero) z h =
      let (_, y) = first-none (number (a, b)) (map number (neighbours (b ∷ c ∷ poses))) z in
      let (_, x) = first-none (number (b, c)) (map number (neighbours (c ∷ poses))) y in
      rw x
  pairs-window number (a ∷ b ∷ poses) (suc (suc i)) z h =
      let (y, x) = first-none (number (a, b)) (map number (neighbours (b ∷ poses))) z in
      rw y (pairs-window number (b ∷ poses) (suc i) x (omega (arith, h)))

  pub every-window : (test : Pose → Bool) (poses : List Pose) (i : ℕ) → T (every test poses)
      → T (every test (window_of poses i)) → T (every test (set poses i p))
  unfolding every
  every-window test [] i e w = e
  every-window test (a ∷ []) zero e w = w
  every-window test (a ∷ []) (suc i) e w = e
  every-window test (a ∷ b ∷ poses) zero e w =
      and_i (test p) (every test (b ∷ poses)) (and_l (test p) (every test (b ∷ [])) w) (and_r (test a) (every test (b ∷ poses)) e)
  every-window test (a ∷ b ∷ []) (suc zero) e w = w
  every-window test (a ∷ b ∷ c ∷ poses) (suc zero) e w =
      let old = and_r (test b) (every test (c ∷ poses)) (and_r (test a) (every test (b ∷ c ∷ poses)) e) in
      let new = and_l (test p) (every test (c ∷ [])) (and_r (test a) (every test (p ∷ c ∷ [])) w) in
      and_i (test a) (every test (p ∷ c ∷ poses)) (and_l (test a) (every test (b ∷ c ∷ poses)) e) (and_i (test p) (every test (c ∷ poses)) new old)
  every-window test (a ∷ b ∷ poses) (suc (suc i)) e w =
      and_i (test a) (every test (set (b ∷ poses) (suc i) p)) (and_l (test a) (every test (b ∷ poses)) e)
      (every-window test (b ∷ poses) (suc i) (and_r (test a) (every test (b ∷ poses)) e) w)

-- ---- what comes of the pairs
pub sets_behind : {A : Type 0} (x : A) (xs : List A) (i : ℕ) (ys : List A) → sets (x ∷ xs) (suc i) ys ≡ x ∷ sets xs i ys
sets_behind x xs i [] = refl
sets_behind x xs i (y ∷ ys) = sets_behind x (set xs i y) (suc i) ys

module _ {A B : Type 0} (f : A → B) where
  map-set : (xs : List A) (i : ℕ) (y : A) → map f (set xs i y) ≡ set (map f xs) i (f y)
  map-set [] i y = refl
  map-set (x ∷ xs) zero y = refl
  map-set (x ∷ xs) (suc i) y = ap (λ (l : List B). f x ∷ l) (map-set xs i y)

  pub map-sets : (xs : List A) (i : ℕ) (ys : List A) → map f (sets xs i ys) ≡ sets (map f xs) i (map f ys)
  map-sets xs i [] = refl
  map-sets xs i (y ∷ ys) = map-sets (set xs i y) (suc i) ys ∙ ap (λ (l : List B). sets l (suc i) (map f ys)) (map-set xs i y)

module _ {A : Type 0} (answer : Pose × Pose → A) (p : Pose) where
  abbrev answers : List Pose → List A
  answers poses = map answer (neighbours poses)

  pub answers-window : (poses : List Pose) (i : ℕ) → i < length poses
      → answers (set poses i p) ≡ sets (answers poses) (i - 1) (answers (window (set poses i p) i))
  unfolding neighbours
  answers-window [] i h = absurd (omega (arith, h))
  answers-window (a ∷ []) zero h = refl
  answers-window (a ∷ []) (suc i) h = absurd (omega (arith, h))
  answers-window (a ∷ b ∷ poses) zero h = refl
  answers-window (a ∷ b ∷ []) (suc zero) h = refl
  answers-window (a ∷ b ∷ c ∷ poses) (suc zero) h = refl
  answers-window (a ∷ b ∷ poses) (suc (suc i)) h =
      let old = answers (b ∷ poses) in
      let new = answers (window (set (b ∷ poses) (suc i) p) (suc i)) in
      let k : suc i - 1 ≡ i = omega arith in
      let e : suc i ≡ suc (suc i) - 1 = omega arith in
      ap (λ (l : List A). answer (a, b) ∷ l) (answers-window (b ∷ poses) (suc i) (omega (arith, h)))
      ∙ (ap (λ (j : ℕ). answer (a, b) ∷ sets old j new) k
      ∙ (sym (sets_behind (answer (a, b)) old i new)
      ∙ ap (λ (j : ℕ). sets (answer (a, b) ∷ old) j new) e))
