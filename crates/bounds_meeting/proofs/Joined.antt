-- Two answers as the code joins them: `after-refusal`, where one is refused, and `both-answered`.
use Prim.Native.Nat.{ℕ}
use mathlib.Core.Path.{◌≡◌}
use mathlib.Core.Bool.{Bool, false}
use borrow.Author.Tests.{ne_eqb}
use Rattle.refusal.specs.First.{first_refusal}
use Rattle.transform.specs.declared.BoundsAnswer.{BoundsAnswer}
use Rattle.transform.specs.Answer.{BoundsAnswer-refusal, BoundsAnswer-bounds}
use Rattle.bounds_overlap.specs.Meets.{Bounds3f-meets}
use Rattle.bounds_meeting.specs.declared.Meeting.{Meeting}
use Rattle.bounds_meeting.specs.Meeting.{Meeting-of}

module _ (r s : BoundsAnswer) {n : ℕ} (e : n ≡ first_refusal (BoundsAnswer-refusal r) (BoundsAnswer-refusal s)) where
  pub after-refusal : (n ≡ 0 → ⊥) → ◌≡◌ {A = Meeting} (record { meets = false; refusal = n }) (Meeting-of r s)
  unfolding Meeting-of
  after-refusal h = rw (← e, ne_eqb n 0 h)

  pub both-answered : {m : Bool} → n ≡ 0 → m ≡ Bounds3f-meets (BoundsAnswer-bounds r) (BoundsAnswer-bounds s)
      → ◌≡◌ {A = Meeting} (record { meets = m; refusal = 0 }) (Meeting-of r s)
  unfolding Meeting-of
  both-answered z h = rw (← e, z, h)
