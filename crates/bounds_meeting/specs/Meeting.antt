-- Whether two answered boxes meet, and the first refusal of the two. Definitions only.
use Rattle.std.specs.Prelude.{false, cond, eqb}
use Rattle.refusal.specs.First.{first_refusal}
use Rattle.transform.specs.declared.BoundsAnswer.{BoundsAnswer}
use Rattle.transform.specs.Answer.{BoundsAnswer-refusal, BoundsAnswer-bounds}
use Rattle.bounds_overlap.specs.Meets.{Bounds3f-meets}
use Rattle.bounds_meeting.specs.declared.Meeting.{Meeting}

-- r is the first chain's answer and s the second's: document 02, "A refused window cover gives its number, .. then the first chain";
-- document 01, "after a refusal .. every yes or no is no"
unfoldable pub Meeting-of : BoundsAnswer → BoundsAnswer → Meeting
Meeting-of r s =
    let n = first_refusal (BoundsAnswer-refusal r) (BoundsAnswer-refusal s) in
    record { meets = cond (eqb n 0) (Bounds3f-meets (BoundsAnswer-bounds r) (BoundsAnswer-bounds s)) false; refusal = n }
