-- The coefficients of the derivative of the motion along z: c1 to c5, each over one column of the two scale matrices. From 000, AnimatedTransform::new,
-- `res.c1[2]` to `res.c5[2]`, line by line; the Rust writes each three times, once for every column. s00, s01, s02 are the column's entries in the start's S,
-- s10, s11, s12 those in the end's. tools/derivative_terms.py holds these lines against the Rust's.
use Rattle.std.specs.Prelude.{Float}
use Rattle.std.specs.Float.Ieee.{neg}
use Rattle.float32.specs.Operators.{◌⊕◌, ◌⊖◌, ◌⊗◌, two, four}

unfoldable pub c1z : Float → Float → Float → Float → Float → Float → Float → Float → Float → Float → Float → Float → Float → Float → Float → Float
c1z q0x q0y q0z q0w qperpx qperpy qperpz qperpw theta s00 s01 s02 s10 s11 s12 =
    qperpw ⊗ qperpy ⊗ s00 ⊖ qperpx ⊗ qperpz ⊗ s00 ⊖
    q0y ⊗ q0z ⊗ s01 ⊖ qperpw ⊗ qperpx ⊗ s01 ⊖
    qperpy ⊗ qperpz ⊗ s01 ⊖ s02 ⊕ q0y ⊗ q0y ⊗ s02 ⊕
    qperpx ⊗ qperpx ⊗ s02 ⊕ qperpy ⊗ qperpy ⊗ s02 ⊖
    qperpw ⊗ qperpy ⊗ s10 ⊕ qperpx ⊗ qperpz ⊗ s10 ⊕
    q0x ⊗ q0z ⊗ (neg s00 ⊕ s10) ⊕ q0y ⊗ q0z ⊗ s11 ⊕
    qperpw ⊗ qperpx ⊗ s11 ⊕ qperpy ⊗ qperpz ⊗ s11 ⊕
    q0w ⊗ (q0y ⊗ (s00 ⊖ s10) ⊕ q0x ⊗ (neg s01 ⊕ s11)) ⊕
    q0x ⊗ q0x ⊗ (s02 ⊖ s12) ⊕ s12 ⊖ q0y ⊗ q0y ⊗ s12 ⊖
    qperpx ⊗ qperpx ⊗ s12 ⊖ qperpy ⊗ qperpy ⊗ s12

unfoldable pub c2z : Float → Float → Float → Float → Float → Float → Float → Float → Float → Float → Float → Float → Float → Float → Float → Float
c2z q0x q0y q0z q0w qperpx qperpy qperpz qperpw theta s00 s01 s02 s10 s11 s12 =
    q0w ⊗ q0y ⊗ s00 ⊖ q0x ⊗ q0z ⊗ s00 ⊖ qperpw ⊗ qperpy ⊗ s00 ⊕
    qperpx ⊗ qperpz ⊗ s00 ⊖ q0w ⊗ q0x ⊗ s01 ⊖ q0y ⊗ q0z ⊗ s01 ⊕
    qperpw ⊗ qperpx ⊗ s01 ⊕ qperpy ⊗ qperpz ⊗ s01 ⊕
    q0x ⊗ q0x ⊗ s02 ⊕ q0y ⊗ q0y ⊗ s02 ⊖ qperpx ⊗ qperpx ⊗ s02 ⊖
    qperpy ⊗ qperpy ⊗ s02 ⊖ q0w ⊗ q0y ⊗ s10 ⊕ q0x ⊗ q0z ⊗ s10 ⊕
    qperpw ⊗ qperpy ⊗ s10 ⊖ qperpx ⊗ qperpz ⊗ s10 ⊕
    q0w ⊗ q0x ⊗ s11 ⊕ q0y ⊗ q0z ⊗ s11 ⊖ qperpw ⊗ qperpx ⊗ s11 ⊖
    qperpy ⊗ qperpz ⊗ s11 ⊖ q0x ⊗ q0x ⊗ s12 ⊖ q0y ⊗ q0y ⊗ s12 ⊕
    qperpx ⊗ qperpx ⊗ s12 ⊕ qperpy ⊗ qperpy ⊗ s12 ⊖
    two ⊗ q0y ⊗ qperpw ⊗ s00 ⊗ theta ⊕ two ⊗ q0z ⊗ qperpx ⊗ s00 ⊗ theta ⊖
    two ⊗ q0w ⊗ qperpy ⊗ s00 ⊗ theta ⊕ two ⊗ q0x ⊗ qperpz ⊗ s00 ⊗ theta ⊕
    two ⊗ q0x ⊗ qperpw ⊗ s01 ⊗ theta ⊕ two ⊗ q0w ⊗ qperpx ⊗ s01 ⊗ theta ⊕
    two ⊗ q0z ⊗ qperpy ⊗ s01 ⊗ theta ⊕ two ⊗ q0y ⊗ qperpz ⊗ s01 ⊗ theta ⊖
    four ⊗ q0x ⊗ qperpx ⊗ s02 ⊗ theta ⊖ four ⊗ q0y ⊗ qperpy ⊗ s02 ⊗ theta

unfoldable pub c3z : Float → Float → Float → Float → Float → Float → Float → Float → Float → Float → Float → Float → Float → Float → Float → Float
c3z q0x q0y q0z q0w qperpx qperpy qperpz qperpw theta s00 s01 s02 s10 s11 s12 =
    neg two ⊗ (neg (q0w ⊗ qperpy ⊗ s00) ⊕ q0x ⊗ qperpz ⊗ s00 ⊕
    q0x ⊗ qperpw ⊗ s01 ⊕ q0w ⊗ qperpx ⊗ s01 ⊖
    two ⊗ q0x ⊗ qperpx ⊗ s02 ⊕ q0w ⊗ qperpy ⊗ s10 ⊖
    q0x ⊗ qperpz ⊗ s10 ⊖ q0x ⊗ qperpw ⊗ s11 ⊖
    q0w ⊗ qperpx ⊗ s11 ⊕
    q0z ⊗ (qperpx ⊗ s00 ⊕ qperpy ⊗ s01 ⊖ qperpx ⊗ s10 ⊖
    qperpy ⊗ s11) ⊕
    two ⊗ q0x ⊗ qperpx ⊗ s12 ⊕
    q0y ⊗ (qperpz ⊗ s01 ⊖ two ⊗ qperpy ⊗ s02 ⊕
    qperpw ⊗ (neg s00 ⊕ s10) ⊖ qperpz ⊗ s11 ⊕
    two ⊗ qperpy ⊗ s12)) ⊗
    theta

unfoldable pub c4z : Float → Float → Float → Float → Float → Float → Float → Float → Float → Float → Float → Float → Float → Float → Float → Float
c4z q0x q0y q0z q0w qperpx qperpy qperpz qperpw theta s00 s01 s02 s10 s11 s12 =
    q0w ⊗ qperpy ⊗ s00 ⊖ q0x ⊗ qperpz ⊗ s00 ⊖ q0x ⊗ qperpw ⊗ s01 ⊖
    q0w ⊗ qperpx ⊗ s01 ⊕ two ⊗ q0x ⊗ qperpx ⊗ s02 ⊖
    q0w ⊗ qperpy ⊗ s10 ⊕ q0x ⊗ qperpz ⊗ s10 ⊕
    q0x ⊗ qperpw ⊗ s11 ⊕ q0w ⊗ qperpx ⊗ s11 ⊖
    two ⊗ q0x ⊗ qperpx ⊗ s12 ⊖ two ⊗ qperpw ⊗ qperpy ⊗ s00 ⊗ theta ⊕
    two ⊗ qperpx ⊗ qperpz ⊗ s00 ⊗ theta ⊖
    two ⊗ q0w ⊗ q0x ⊗ s01 ⊗ theta ⊕
    two ⊗ qperpw ⊗ qperpx ⊗ s01 ⊗ theta ⊕
    two ⊗ qperpy ⊗ qperpz ⊗ s01 ⊗ theta ⊕
    two ⊗ q0x ⊗ q0x ⊗ s02 ⊗ theta ⊕ two ⊗ q0y ⊗ q0y ⊗ s02 ⊗ theta ⊖
    two ⊗ qperpx ⊗ qperpx ⊗ s02 ⊗ theta ⊖
    two ⊗ qperpy ⊗ qperpy ⊗ s02 ⊗ theta ⊕
    q0z ⊗ (neg (qperpx ⊗ s00) ⊖ qperpy ⊗ s01 ⊕ qperpx ⊗ s10 ⊕
    qperpy ⊗ s11 ⊖ two ⊗ q0x ⊗ s00 ⊗ theta) ⊕
    q0y ⊗ (neg (qperpz ⊗ s01) ⊕ two ⊗ qperpy ⊗ s02 ⊕
    qperpw ⊗ (s00 ⊖ s10) ⊕ qperpz ⊗ s11 ⊖
    two ⊗ qperpy ⊗ s12 ⊕ two ⊗ q0w ⊗ s00 ⊗ theta ⊖
    two ⊗ q0z ⊗ s01 ⊗ theta)

unfoldable pub c5z : Float → Float → Float → Float → Float → Float → Float → Float → Float → Float → Float → Float → Float → Float → Float → Float
c5z q0x q0y q0z q0w qperpx qperpy qperpz qperpw theta s00 s01 s02 s10 s11 s12 =
    two ⊗ (qperpw ⊗ qperpy ⊗ s00 ⊖ qperpx ⊗ qperpz ⊗ s00 ⊕
    q0y ⊗ q0z ⊗ s01 ⊖ qperpw ⊗ qperpx ⊗ s01 ⊖
    qperpy ⊗ qperpz ⊗ s01 ⊖ q0y ⊗ q0y ⊗ s02 ⊕
    qperpx ⊗ qperpx ⊗ s02 ⊕ qperpy ⊗ qperpy ⊗ s02 ⊕
    q0x ⊗ q0z ⊗ (s00 ⊖ s10) ⊖ qperpw ⊗ qperpy ⊗ s10 ⊕
    qperpx ⊗ qperpz ⊗ s10 ⊕
    q0w ⊗ (q0y ⊗ (neg s00 ⊕ s10) ⊕ q0x ⊗ (s01 ⊖ s11)) ⊖
    q0y ⊗ q0z ⊗ s11 ⊕ qperpw ⊗ qperpx ⊗ s11 ⊕
    qperpy ⊗ qperpz ⊗ s11 ⊕ q0y ⊗ q0y ⊗ s12 ⊖
    qperpx ⊗ qperpx ⊗ s12 ⊖ qperpy ⊗ qperpy ⊗ s12 ⊕
    q0x ⊗ q0x ⊗ (neg s02 ⊕ s12)) ⊗
    theta
