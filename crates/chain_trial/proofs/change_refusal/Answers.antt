-- `change_refusal` meets its contract: the place's number, then that of building the moves beside it.
use Prim.Native.Nat.{ℕ}
use mathlib.Core.Path.{sym, ap, ◌∙◌}
use Rattle.changed_chain.specs.lent_arrays.Arrays.{Pose-of_list}
use Rattle.trial_blocks.specs.Place.{place_refusal}
use Rattle.chain_trial.proofs.Try.{place-passed, place-refused, place-accepted}
use borrow.Author.Rules.{rules}
use Rattle.chain_trial.proofs.change_refusal.Goals as goal

pub returns-then-judged-ne0 : goal.returns-then-judged-ne0
returns-then-judged-ne0 c = let a = c.args in let judged = c.place_refusal-judged.ensures.value ∙ ap (λ (n : ℕ). place_refusal n a.place) c.pose_count.ensures.value in let f = c.if-judged-ne0.true in record { refusal = place-refused a.moves.now a.place (Pose-of_list a.pose.now) judged f; built = λ z. absurd (f z); same = c.requires }

pub build_beside-requires : goal.build_beside-requires
build_beside-requires c = let a = c.args in let judged = c.place_refusal-judged.ensures.value ∙ ap (λ (n : ℕ). place_refusal n a.place) c.pose_count.ensures.value in let passed = place-passed a.moves.now a.place (sym judged ∙ c.if-judged-ne0.false) in record { moves_nonzero = passed.some; place_in_bounds = passed.inside; blocks_len = c.requires }

pub returns : goal.returns
returns c = let a = c.args in let judged = c.place_refusal-judged.ensures.value ∙ ap (λ (n : ℕ). place_refusal n a.place) c.pose_count.ensures.value in let none = sym judged ∙ c.if-judged-ne0.false in record { refusal = c.build_beside.ensures.refusal ∙ sym (place-accepted a.moves.now a.place (Pose-of_list a.pose.now) none); built = c.build_beside.ensures.built; same = c.build_beside.ensures.same }
