-- `face` meets its contract: each test is the definition's, and the quotient of two small whole numbers is the fraction.
use Rattle.cut_parts.proofs.Faces.{face-zero, face-end, face-between}
use Rattle.cut_parts.proofs.face.Goals as goal

pub returns-then-i-eq0 : goal.returns-then-i-eq0
returns-then-i-eq0 c = record { value = λ N few le. face-zero _ _ _ _ c.if-i-eq0.true }

pub returns-then-i-n : goal.returns-then-i-n
returns-then-i-n c = record { value = λ N few le. face-end _ _ _ _ c.if-i-eq0.false c.if-i-n.true }

pub returns : goal.returns
returns c = record {
  value = face-between _ _ _ _ c.if-i-eq0.false c.if-i-n.false
      c.from_fixed-k.ensures.value c.from_fixed-m.ensures.value c.inner_face.ensures.value;
}
