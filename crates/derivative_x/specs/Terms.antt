-- The coefficients of the derivative of the motion along x: c1 to c5, each over one column of the two scale matrices. From 000, AnimatedTransform::new,
-- `res.c1[0]` to `res.c5[0]`, line by line; the Rust writes each three times, once for every column. s00, s01, s02 are the column's entries in the start's S,
-- s10, s11, s12 those in the end's. tools/derivative_terms.py holds these lines against the Rust's.
use Rattle.std.specs.Prelude.{Float}
use Rattle.std.specs.Float.Ieee.{neg}
use Rattle.float32.specs.Operators.{◌⊕◌, ◌⊖◌, ◌⊗◌, one, two}

unfoldable pub c1x : Float → Float → Float → Float → Float → Float → Float → Float → Float → Float → Float → Float → Float → Float → Float → Float
c1x q0x q0y q0z q0w qperpx qperpy qperpz qperpw theta s00 s01 s02 s10 s11 s12 =
    (neg one ⊕ q0y ⊗ q0y ⊕ q0z ⊗ q0z ⊕ qperpy ⊗ qperpy ⊕ qperpz ⊗ qperpz) ⊗
    s00 ⊕
    q0w ⊗ q0z ⊗ s01 ⊖ qperpx ⊗ qperpy ⊗ s01 ⊕
    qperpw ⊗ qperpz ⊗ s01 ⊖ q0w ⊗ q0y ⊗ s02 ⊖
    qperpw ⊗ qperpy ⊗ s02 ⊖ qperpx ⊗ qperpz ⊗ s02 ⊕ s10 ⊖
    q0y ⊗ q0y ⊗ s10 ⊖ q0z ⊗ q0z ⊗ s10 ⊖ qperpy ⊗ qperpy ⊗ s10 ⊖
    qperpz ⊗ qperpz ⊗ s10 ⊖ q0w ⊗ q0z ⊗ s11 ⊕
    qperpx ⊗ qperpy ⊗ s11 ⊖ qperpw ⊗ qperpz ⊗ s11 ⊕
    q0w ⊗ q0y ⊗ s12 ⊕ qperpw ⊗ qperpy ⊗ s12 ⊕
    qperpx ⊗ qperpz ⊗ s12 ⊕
    q0x ⊗ (neg (q0y ⊗ s01) ⊖ q0z ⊗ s02 ⊕ q0y ⊗ s11 ⊕ q0z ⊗ s12)

unfoldable pub c2x : Float → Float → Float → Float → Float → Float → Float → Float → Float → Float → Float → Float → Float → Float → Float → Float
c2x q0x q0y q0z q0w qperpx qperpy qperpz qperpw theta s00 s01 s02 s10 s11 s12 =
    neg (qperpy ⊗ qperpy ⊗ s00) ⊖ qperpz ⊗ qperpz ⊗ s00 ⊕
    qperpx ⊗ qperpy ⊗ s01 ⊖ qperpw ⊗ qperpz ⊗ s01 ⊕
    qperpw ⊗ qperpy ⊗ s02 ⊕ qperpx ⊗ qperpz ⊗ s02 ⊕
    q0y ⊗ q0y ⊗ (s00 ⊖ s10) ⊕ q0z ⊗ q0z ⊗ (s00 ⊖ s10) ⊕
    qperpy ⊗ qperpy ⊗ s10 ⊕ qperpz ⊗ qperpz ⊗ s10 ⊖
    qperpx ⊗ qperpy ⊗ s11 ⊕ qperpw ⊗ qperpz ⊗ s11 ⊖
    qperpw ⊗ qperpy ⊗ s12 ⊖ qperpx ⊗ qperpz ⊗ s12 ⊕
    two ⊗ q0x ⊗ qperpy ⊗ s01 ⊗ theta ⊖
    two ⊗ q0w ⊗ qperpz ⊗ s01 ⊗ theta ⊕
    two ⊗ q0w ⊗ qperpy ⊗ s02 ⊗ theta ⊕
    two ⊗ q0x ⊗ qperpz ⊗ s02 ⊗ theta ⊕
    q0y ⊗
    (q0x ⊗ (neg s01 ⊕ s11) ⊕ q0w ⊗ (neg s02 ⊕ s12) ⊕
    two ⊗ (neg two ⊗ qperpy ⊗ s00 ⊕ qperpx ⊗ s01 ⊕ qperpw ⊗ s02) ⊗
    theta) ⊕
    q0z ⊗ (q0w ⊗ (s01 ⊖ s11) ⊕ q0x ⊗ (neg s02 ⊕ s12) ⊖
    two ⊗ (two ⊗ qperpz ⊗ s00 ⊕ qperpw ⊗ s01 ⊖ qperpx ⊗ s02) ⊗
    theta)

unfoldable pub c3x : Float → Float → Float → Float → Float → Float → Float → Float → Float → Float → Float → Float → Float → Float → Float → Float
c3x q0x q0y q0z q0w qperpx qperpy qperpz qperpw theta s00 s01 s02 s10 s11 s12 =
    neg two ⊗ (q0x ⊗ qperpy ⊗ s01 ⊖ q0w ⊗ qperpz ⊗ s01 ⊕
    q0w ⊗ qperpy ⊗ s02 ⊕ q0x ⊗ qperpz ⊗ s02 ⊖
    q0x ⊗ qperpy ⊗ s11 ⊕ q0w ⊗ qperpz ⊗ s11 ⊖
    q0w ⊗ qperpy ⊗ s12 ⊖ q0x ⊗ qperpz ⊗ s12 ⊕
    q0y ⊗ (neg two ⊗ qperpy ⊗ s00 ⊕ qperpx ⊗ s01 ⊕ qperpw ⊗ s02 ⊕
    two ⊗ qperpy ⊗ s10 ⊖ qperpx ⊗ s11 ⊖ qperpw ⊗ s12) ⊕
    q0z ⊗ (neg two ⊗ qperpz ⊗ s00 ⊖ qperpw ⊗ s01 ⊕ qperpx ⊗ s02 ⊕
    two ⊗ qperpz ⊗ s10 ⊕ qperpw ⊗ s11 ⊖ qperpx ⊗ s12)) ⊗
    theta

unfoldable pub c4x : Float → Float → Float → Float → Float → Float → Float → Float → Float → Float → Float → Float → Float → Float → Float → Float
c4x q0x q0y q0z q0w qperpx qperpy qperpz qperpw theta s00 s01 s02 s10 s11 s12 =
    neg (q0x ⊗ qperpy ⊗ s01) ⊕ q0w ⊗ qperpz ⊗ s01 ⊖ q0w ⊗ qperpy ⊗ s02 ⊖
    q0x ⊗ qperpz ⊗ s02 ⊕ q0x ⊗ qperpy ⊗ s11 ⊖
    q0w ⊗ qperpz ⊗ s11 ⊕ q0w ⊗ qperpy ⊗ s12 ⊕
    q0x ⊗ qperpz ⊗ s12 ⊕ two ⊗ q0y ⊗ q0y ⊗ s00 ⊗ theta ⊕
    two ⊗ q0z ⊗ q0z ⊗ s00 ⊗ theta ⊖
    two ⊗ qperpy ⊗ qperpy ⊗ s00 ⊗ theta ⊖
    two ⊗ qperpz ⊗ qperpz ⊗ s00 ⊗ theta ⊕
    two ⊗ qperpx ⊗ qperpy ⊗ s01 ⊗ theta ⊖
    two ⊗ qperpw ⊗ qperpz ⊗ s01 ⊗ theta ⊕
    two ⊗ qperpw ⊗ qperpy ⊗ s02 ⊗ theta ⊕
    two ⊗ qperpx ⊗ qperpz ⊗ s02 ⊗ theta ⊕
    q0y ⊗ (neg (qperpx ⊗ s01) ⊖ qperpw ⊗ s02 ⊕
    two ⊗ qperpy ⊗ (s00 ⊖ s10) ⊕ qperpx ⊗ s11 ⊕
    qperpw ⊗ s12 ⊖ two ⊗ q0x ⊗ s01 ⊗ theta ⊖
    two ⊗ q0w ⊗ s02 ⊗ theta) ⊕
    q0z ⊗ (two ⊗ qperpz ⊗ s00 ⊕ qperpw ⊗ s01 ⊖ qperpx ⊗ s02 ⊖
    two ⊗ qperpz ⊗ s10 ⊖ qperpw ⊗ s11 ⊕ qperpx ⊗ s12 ⊕
    two ⊗ q0w ⊗ s01 ⊗ theta ⊖ two ⊗ q0x ⊗ s02 ⊗ theta)

unfoldable pub c5x : Float → Float → Float → Float → Float → Float → Float → Float → Float → Float → Float → Float → Float → Float → Float → Float
c5x q0x q0y q0z q0w qperpx qperpy qperpz qperpw theta s00 s01 s02 s10 s11 s12 =
    two ⊗ (qperpy ⊗ qperpy ⊗ s00 ⊕ qperpz ⊗ qperpz ⊗ s00 ⊖
    qperpx ⊗ qperpy ⊗ s01 ⊕ qperpw ⊗ qperpz ⊗ s01 ⊖
    qperpw ⊗ qperpy ⊗ s02 ⊖ qperpx ⊗ qperpz ⊗ s02 ⊖
    qperpy ⊗ qperpy ⊗ s10 ⊖ qperpz ⊗ qperpz ⊗ s10 ⊕
    q0y ⊗ q0y ⊗ (neg s00 ⊕ s10) ⊕ q0z ⊗ q0z ⊗ (neg s00 ⊕ s10) ⊕
    qperpx ⊗ qperpy ⊗ s11 ⊖ qperpw ⊗ qperpz ⊗ s11 ⊕
    q0y ⊗ (q0x ⊗ (s01 ⊖ s11) ⊕ q0w ⊗ (s02 ⊖ s12)) ⊕
    qperpw ⊗ qperpy ⊗ s12 ⊕ qperpx ⊗ qperpz ⊗ s12 ⊕
    q0z ⊗ (neg (q0w ⊗ s01) ⊕ q0x ⊗ s02 ⊕ q0w ⊗ s11 ⊖ q0x ⊗ s12)) ⊗
    theta
