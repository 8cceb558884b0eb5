-- `try_pose` meets its contract: refused by the change or by the query (`refused-try`), or the cover of the changed moves (`cover-try`).
use mathlib.Core.Path.{sym, ◌∙◌}
use Rattle.changed_chain.specs.lent_arrays.Arrays.{Pose-of_list}
use Rattle.chain_trial.proofs.Try.{place-passed, change-place, refused-try, none-refused, cover-try}
use Rattle.chain_trial.proofs.Kept.{trial-clauses, kept-trial-contains}
use borrow.Author.Rules.{rules}
use Rattle.chain_trial.proofs.try_pose.Goals as goal

pub returns-then-refusal-ne0 : goal.returns-then-refusal-ne0
returns-then-refusal-ne0 c = let a = c.args in let f = c.if-refusal-ne0.true in let value = refused-try a.moves.now a.place (Pose-of_list a.pose.now) a.b a.depth _ _ c.change_refusal-changed.ensures.refusal
    c.cover_refusal-asked.ensures.value c.trial_refusal-refusal.ensures.value f in let all = trial-clauses a.moves.now a.place (Pose-of_list a.pose.now) a.b a.depth value (λ none. absurd (f none)) in record { value = all.0; kept = all.1.0; contains_motion = all.1.1 }

pub changed_cover-requires : goal.changed_cover-requires
changed_cover-requires c = let a = c.args in let p = Pose-of_list a.pose.now in let none = none-refused a.moves.now a.place p a.b a.depth _ _ c.trial_refusal-refusal.ensures.value c.if-refusal-ne0.false in let passed = place-passed a.moves.now a.place (change-place a.moves.now a.place p (sym c.change_refusal-changed.ensures.refusal ∙ none)) in record { moves_nonzero = passed.some; moves_len_bound = passed.few; place_in_bounds = passed.inside }

pub returns : goal.returns
returns c = let a = c.args in let p = Pose-of_list a.pose.now in let none = none-refused a.moves.now a.place p a.b a.depth _ _ c.trial_refusal-refusal.ensures.value c.if-refusal-ne0.false in let zero = sym c.change_refusal-changed.ensures.refusal ∙ none in let value = cover-try a.moves.now a.place p a.b a.depth zero (c.change_refusal-changed.ensures.built none) c.change_refusal-changed.ensures.same c.changed_cover.ensures.value in let all = trial-clauses a.moves.now a.place p a.b a.depth value
    (λ accepted k holds. kept-trial-contains a.moves.now k holds a.place p a.b a.depth zero (c.change_refusal-changed.ensures.built none) value accepted) in record { value = all.0; kept = all.1.0; contains_motion = all.1.1 }
