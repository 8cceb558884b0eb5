-- After the flip the dot product of two quaternions is at least 0 (`dot-after-flip`):
-- negating the second changes the sign of the product, up to that of a zero (`dot-neg`).
use mathlib.Core.Bool.{Bool, true, false, not, beq, cond}
use lib.Dec.{T}
use lib.IntN.{pos}
use lib.Ieee.{Float, nan, inf, fin, of_bits, neg, lt, add}
use lib.Ieee.Scale.{finite}
use Rattle.float32.specs.Operators.{◌⊕◌, ◌⊗◌}
use Rattle.float32.proofs.Constants.{zero-finite}
use Rattle.float32.specs.rounding.Order.{◌≼◌}
use Rattle.float32.proofs.rounding.Order.{≼_trans, lt-≼, not-lt-≼, neg-antitone, finite_number, zeros_equal}
use Rattle.quaternion.specs.declared.Quaternion.{Quaternion}
use Rattle.quaternion.specs.Quaternion.{Quaternion-dot, Quaternion-neg}
use Rattle.matrix4x4.specs.Rows.{positive_zero}
use Rattle.rotation_arc.specs.ShorterArc.{flip}
use Rattle.rotation_arc.proofs.Opposite.{Opposite, mul-neg, neg-opposite, add-opposite}

-- The terms of a finite sum are finite.
record Terms (x y : Float) : Type 0 where
  left : T (finite x)
  right : T (finite y)

add-terms : (x y : Float) → T (finite (x ⊕ y)) → Terms x y
unfolding add
add-terms nan y h = absurd h
add-terms (inf s) nan h = absurd h
add-terms (inf s) (inf t) h = absurd (go (beq s t) h)
  where
    go : (b : Bool) → T (finite (cond b (inf s) nan)) → ⊥
    go true h = h
    go false h = h
add-terms (inf s) (fin t n d) h = absurd h
add-terms (fin s m e) nan h = absurd h
add-terms (fin s m e) (inf t) h = absurd h
add-terms (fin s m e) (fin t n d) h = record { left = tt; right = tt }

-- four products with the second factors negated
products-neg : (a b c d a' b' c' d' : Float)
    → T (finite (a ⊗ a' ⊕ b ⊗ b' ⊕ c ⊗ c' ⊕ d ⊗ d')) → T (finite (a ⊗ neg a' ⊕ b ⊗ neg b' ⊕ c ⊗ neg c' ⊕ d ⊗ neg d'))
    → Opposite (a ⊗ a' ⊕ b ⊗ b' ⊕ c ⊗ c' ⊕ d ⊗ d') (a ⊗ neg a' ⊕ b ⊗ neg b' ⊕ c ⊗ neg c' ⊕ d ⊗ neg d')
products-neg a b c d a' b' c' d' =
    rw (mul-neg a a', mul-neg b b', mul-neg c c', mul-neg d d') (sums (a ⊗ a') (b ⊗ b') (c ⊗ c') (d ⊗ d'))
  where
    sums : (x y z w : Float) → T (finite (x ⊕ y ⊕ z ⊕ w)) → T (finite (neg x ⊕ neg y ⊕ neg z ⊕ neg w))
        → Opposite (x ⊕ y ⊕ z ⊕ w) (neg x ⊕ neg y ⊕ neg z ⊕ neg w)
    sums x y z w f g =
        let f4 = add-terms (x ⊕ y ⊕ z) w f in
        let f3 = add-terms (x ⊕ y) z f4.left in
        let f2 = add-terms x y f3.left in
        let g4 = add-terms (neg x ⊕ neg y ⊕ neg z) (neg w) g in
        let g3 = add-terms (neg x ⊕ neg y) (neg z) g4.left in
        let g2 = add-terms (neg x) (neg y) g3.left in
        let two = add-opposite f2.left g2.left f2.right g2.right (neg-opposite x f2.left) (neg-opposite y f2.right) in
        let three = add-opposite f3.left g3.left f3.right g3.right two (neg-opposite z f3.right) in
        add-opposite f4.left g4.left f4.right g4.right three (neg-opposite w f4.right)

dot-neg : (q r : Quaternion) → T (finite (Quaternion-dot q r)) → T (finite (Quaternion-dot q (Quaternion-neg r)))
    → Opposite (Quaternion-dot q r) (Quaternion-dot q (Quaternion-neg r))
unfolding Quaternion-dot Quaternion-neg
dot-neg q r = products-neg q.v.x q.v.y q.v.z q.w r.v.x r.v.y r.v.z r.w

zero-neg : positive_zero ≼ neg positive_zero
unfolding of_bits neg
zero-neg = zeros_equal false true (pos 0) (pos 0)

pub dot-after-flip : (r0 r1 : Quaternion) → T (finite (Quaternion-dot r0 r1)) → T (finite (Quaternion-dot r0 (flip r0 r1)))
    → positive_zero ≼ Quaternion-dot r0 (flip r0 r1)
unfolding flip
dot-after-flip r0 r1 f = go (lt (Quaternion-dot r0 r1) positive_zero) (λ h. h) (λ h. h)
  where
    d : Float
    d = Quaternion-dot r0 r1

    go : (b : Bool) → (T b → T (lt d positive_zero)) → (T (not b) → T (not (lt d positive_zero)))
        → T (finite (Quaternion-dot r0 (cond b (Quaternion-neg r1) r1))) → positive_zero ≼ Quaternion-dot r0 (cond b (Quaternion-neg r1) r1)
    go true below above g = ≼_trans zero-neg (≼_trans (neg-antitone (lt-≼ d positive_zero (below tt))) (dot-neg r0 r1 f g).above)
    go false below above g = not-lt-≼ positive_zero d (finite_number positive_zero zero-finite) (finite_number d f) (above tt)
