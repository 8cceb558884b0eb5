-- What an answer about a motion box leaves in the two arrays that are lent for it, the box and its counts, of which `old` is what stood there.
-- Definitions only.
use Rattle.std.specs.Prelude.{ℕ, List, [], ◌∷◌, Float}
use Rattle.file_reader.specs.bounds3.List.{Bounds3f-list}
use Rattle.motion_bounds.specs.declared.MotionBoundsAnswer.{MotionBoundsAnswer}
use Rattle.motion_bounds.specs.declared.MotionBoundsAnswer.TheVariants.{Bounds, Refused}

abbrev pub MotionBoundsAnswer-left : MotionBoundsAnswer → List Float → List Float
MotionBoundsAnswer-left (Bounds b e) old = Bounds3f-list b
MotionBoundsAnswer-left (Refused n) old = old

-- document 02: "three counts, one per axis"; "A refusal 9 carries no counts", nor does any other
abbrev pub MotionBoundsAnswer-examined_left : MotionBoundsAnswer → List ℕ → List ℕ
MotionBoundsAnswer-examined_left (Bounds b e) old = e.x ∷ e.y ∷ e.z ∷ []
MotionBoundsAnswer-examined_left (Refused n) old = old
