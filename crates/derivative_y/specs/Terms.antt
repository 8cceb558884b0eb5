-- The coefficients of the derivative of the motion along y: c1 to c5, each over one column of the two scale matrices. From 000, AnimatedTransform::new,
-- `res.c1[1]` to `res.c5[1]`, line by line; the Rust writes each three times, once for every column. s00, s01, s02 are the column's entries in the start's S,
-- s10, s11, s12 those in the end's. tools/derivative_terms.py holds these lines against the Rust's.
use Rattle.std.specs.Prelude.{Float}
use Rattle.std.specs.Float.Ieee.{neg}
use Rattle.float32.specs.Operators.{◌⊕◌, ◌⊖◌, ◌⊗◌, two, four}

unfoldable pub c1y : Float → Float → Float → Float → Float → Float → Float → Float → Float → Float → Float → Float → Float → Float → Float → Float
c1y q0x q0y q0z q0w qperpx qperpy qperpz qperpw theta s00 s01 s02 s10 s11 s12 =
    neg (qperpx ⊗ qperpy ⊗ s00) ⊖ qperpw ⊗ qperpz ⊗ s00 ⊖ s01 ⊕
    q0z ⊗ q0z ⊗ s01 ⊕ qperpx ⊗ qperpx ⊗ s01 ⊕
    qperpz ⊗ qperpz ⊗ s01 ⊖ q0y ⊗ q0z ⊗ s02 ⊕
    qperpw ⊗ qperpx ⊗ s02 ⊖ qperpy ⊗ qperpz ⊗ s02 ⊕
    qperpx ⊗ qperpy ⊗ s10 ⊕ qperpw ⊗ qperpz ⊗ s10 ⊕
    q0w ⊗ q0z ⊗ (neg s00 ⊕ s10) ⊕ q0x ⊗ q0x ⊗ (s01 ⊖ s11) ⊕ s11 ⊖
    q0z ⊗ q0z ⊗ s11 ⊖ qperpx ⊗ qperpx ⊗ s11 ⊖
    qperpz ⊗ qperpz ⊗ s11 ⊕
    q0x ⊗ (q0y ⊗ (neg s00 ⊕ s10) ⊕ q0w ⊗ (s02 ⊖ s12)) ⊕
    q0y ⊗ q0z ⊗ s12 ⊖ qperpw ⊗ qperpx ⊗ s12 ⊕
    qperpy ⊗ qperpz ⊗ s12

unfoldable pub c2y : Float → Float → Float → Float → Float → Float → Float → Float → Float → Float → Float → Float → Float → Float → Float → Float
c2y q0x q0y q0z q0w qperpx qperpy qperpz qperpw theta s00 s01 s02 s10 s11 s12 =
    qperpx ⊗ qperpy ⊗ s00 ⊕ qperpw ⊗ qperpz ⊗ s00 ⊕ q0z ⊗ q0z ⊗ s01 ⊖
    qperpx ⊗ qperpx ⊗ s01 ⊖ qperpz ⊗ qperpz ⊗ s01 ⊖
    q0y ⊗ q0z ⊗ s02 ⊖ qperpw ⊗ qperpx ⊗ s02 ⊕
    qperpy ⊗ qperpz ⊗ s02 ⊖ qperpx ⊗ qperpy ⊗ s10 ⊖
    qperpw ⊗ qperpz ⊗ s10 ⊕ q0x ⊗ q0x ⊗ (s01 ⊖ s11) ⊖
    q0z ⊗ q0z ⊗ s11 ⊕ qperpx ⊗ qperpx ⊗ s11 ⊕
    qperpz ⊗ qperpz ⊗ s11 ⊕ q0y ⊗ q0z ⊗ s12 ⊕
    qperpw ⊗ qperpx ⊗ s12 ⊖ qperpy ⊗ qperpz ⊗ s12 ⊕
    two ⊗ q0z ⊗ qperpw ⊗ s00 ⊗ theta ⊕
    two ⊗ q0y ⊗ qperpx ⊗ s00 ⊗ theta ⊖
    four ⊗ q0z ⊗ qperpz ⊗ s01 ⊗ theta ⊕
    two ⊗ q0z ⊗ qperpy ⊗ s02 ⊗ theta ⊕
    two ⊗ q0y ⊗ qperpz ⊗ s02 ⊗ theta ⊕
    q0x ⊗ (q0w ⊗ s02 ⊕ q0y ⊗ (neg s00 ⊕ s10) ⊖ q0w ⊗ s12 ⊕
    two ⊗ qperpy ⊗ s00 ⊗ theta ⊖ four ⊗ qperpx ⊗ s01 ⊗ theta ⊖
    two ⊗ qperpw ⊗ s02 ⊗ theta) ⊕
    q0w ⊗ (neg (q0z ⊗ s00) ⊕ q0z ⊗ s10 ⊕ two ⊗ qperpz ⊗ s00 ⊗ theta ⊖
    two ⊗ qperpx ⊗ s02 ⊗ theta)

unfoldable pub c3y : Float → Float → Float → Float → Float → Float → Float → Float → Float → Float → Float → Float → Float → Float → Float → Float
c3y q0x q0y q0z q0w qperpx qperpy qperpz qperpw theta s00 s01 s02 s10 s11 s12 =
    two ⊗ (neg (q0x ⊗ qperpy ⊗ s00) ⊖ q0w ⊗ qperpz ⊗ s00 ⊕
    two ⊗ q0x ⊗ qperpx ⊗ s01 ⊕ q0x ⊗ qperpw ⊗ s02 ⊕
    q0w ⊗ qperpx ⊗ s02 ⊕ q0x ⊗ qperpy ⊗ s10 ⊕
    q0w ⊗ qperpz ⊗ s10 ⊖ two ⊗ q0x ⊗ qperpx ⊗ s11 ⊖
    q0x ⊗ qperpw ⊗ s12 ⊖ q0w ⊗ qperpx ⊗ s12 ⊕
    q0z ⊗ (two ⊗ qperpz ⊗ s01 ⊖ qperpy ⊗ s02 ⊕
    qperpw ⊗ (neg s00 ⊕ s10) ⊖ two ⊗ qperpz ⊗ s11 ⊕
    qperpy ⊗ s12) ⊕
    q0y ⊗ (neg (qperpx ⊗ s00) ⊖ qperpz ⊗ s02 ⊕ qperpx ⊗ s10 ⊕
    qperpz ⊗ s12)) ⊗
    theta

unfoldable pub c4y : Float → Float → Float → Float → Float → Float → Float → Float → Float → Float → Float → Float → Float → Float → Float → Float
c4y q0x q0y q0z q0w qperpx qperpy qperpz qperpw theta s00 s01 s02 s10 s11 s12 =
    neg (q0x ⊗ qperpy ⊗ s00) ⊖ q0w ⊗ qperpz ⊗ s00 ⊕
    two ⊗ q0x ⊗ qperpx ⊗ s01 ⊕ q0x ⊗ qperpw ⊗ s02 ⊕
    q0w ⊗ qperpx ⊗ s02 ⊕ q0x ⊗ qperpy ⊗ s10 ⊕
    q0w ⊗ qperpz ⊗ s10 ⊖ two ⊗ q0x ⊗ qperpx ⊗ s11 ⊖
    q0x ⊗ qperpw ⊗ s12 ⊖ q0w ⊗ qperpx ⊗ s12 ⊕
    two ⊗ qperpx ⊗ qperpy ⊗ s00 ⊗ theta ⊕
    two ⊗ qperpw ⊗ qperpz ⊗ s00 ⊗ theta ⊕
    two ⊗ q0x ⊗ q0x ⊗ s01 ⊗ theta ⊕ two ⊗ q0z ⊗ q0z ⊗ s01 ⊗ theta ⊖
    two ⊗ qperpx ⊗ qperpx ⊗ s01 ⊗ theta ⊖
    two ⊗ qperpz ⊗ qperpz ⊗ s01 ⊗ theta ⊕
    two ⊗ q0w ⊗ q0x ⊗ s02 ⊗ theta ⊖
    two ⊗ qperpw ⊗ qperpx ⊗ s02 ⊗ theta ⊕
    two ⊗ qperpy ⊗ qperpz ⊗ s02 ⊗ theta ⊕
    q0y ⊗ (neg (qperpx ⊗ s00) ⊖ qperpz ⊗ s02 ⊕ qperpx ⊗ s10 ⊕
    qperpz ⊗ s12 ⊖ two ⊗ q0x ⊗ s00 ⊗ theta) ⊕
    q0z ⊗ (two ⊗ qperpz ⊗ s01 ⊖ qperpy ⊗ s02 ⊕
    qperpw ⊗ (neg s00 ⊕ s10) ⊖ two ⊗ qperpz ⊗ s11 ⊕
    qperpy ⊗ s12 ⊖ two ⊗ q0w ⊗ s00 ⊗ theta ⊖
    two ⊗ q0y ⊗ s02 ⊗ theta)

unfoldable pub c5y : Float → Float → Float → Float → Float → Float → Float → Float → Float → Float → Float → Float → Float → Float → Float → Float
c5y q0x q0y q0z q0w qperpx qperpy qperpz qperpw theta s00 s01 s02 s10 s11 s12 =
    neg two ⊗ (qperpx ⊗ qperpy ⊗ s00 ⊕ qperpw ⊗ qperpz ⊗ s00 ⊕
    q0z ⊗ q0z ⊗ s01 ⊖ qperpx ⊗ qperpx ⊗ s01 ⊖
    qperpz ⊗ qperpz ⊗ s01 ⊖ q0y ⊗ q0z ⊗ s02 ⊖
    qperpw ⊗ qperpx ⊗ s02 ⊕ qperpy ⊗ qperpz ⊗ s02 ⊖
    qperpx ⊗ qperpy ⊗ s10 ⊖ qperpw ⊗ qperpz ⊗ s10 ⊕
    q0w ⊗ q0z ⊗ (neg s00 ⊕ s10) ⊕ q0x ⊗ q0x ⊗ (s01 ⊖ s11) ⊖
    q0z ⊗ q0z ⊗ s11 ⊕ qperpx ⊗ qperpx ⊗ s11 ⊕
    qperpz ⊗ qperpz ⊗ s11 ⊕
    q0x ⊗ (q0y ⊗ (neg s00 ⊕ s10) ⊕ q0w ⊗ (s02 ⊖ s12)) ⊕
    q0y ⊗ q0z ⊗ s12 ⊕ qperpw ⊗ qperpx ⊗ s12 ⊖
    qperpy ⊗ qperpz ⊗ s12) ⊗
    theta
