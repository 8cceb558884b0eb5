-- `transform_points` meets its contract, in the four ways that it ends (proofs/Points.antt).
use mathlib.Core.Path.{sym, ◌∙◌}
use lib.Ieee.Bits.{is_true}
use lib.ListN.{length}
use Rattle.time_list.specs.motion_chain.Times.{never_falls}
use Rattle.time_list.proofs.motion_chain.Times.{list-passed}
use Rattle.chain_times.proofs.Points.{positive, none_kept, list-refused, time-refused, all-answered}
use Rattle.chain_times.proofs.transform_points.Goals as goal

pub returns-then-moves-eq0 : goal.returns-then-moves-eq0
returns-then-moves-eq0 c = let a = c.args in let all = none_kept a.moves.now a.times.now a.p a.answers.now c.if-moves-eq0.true in record { refusal = all.0; left = all.1.0; kept = all.1.1 }

pub returns-then-judged-ne0 : goal.returns-then-judged-ne0
returns-then-judged-ne0 c = let a = c.args in let all = list-refused a.moves.now a.times.now a.p a.answers.now c.if-moves-eq0.false c.refusal-judged.ensures.value c.if-judged-ne0.true in record { refusal = all.0; left = all.1.0; kept = all.1.1 }

pub first_refusal-refused-requires : goal.first_refusal-refused-requires
first_refusal-refused-requires c = let a = c.args in let z = sym c.refusal-judged.ensures.value ∙ c.if-judged-ne0.false in let h = list-passed a.times.now a.p (length a.answers.now) z in record { moves_nonzero = positive a.moves.now c.if-moves-eq0.false; times_value = is_true (never_falls a.times.now) h.rises }

pub returns-then-refused-ne0 : goal.returns-then-refused-ne0
returns-then-refused-ne0 c = let a = c.args in let z = sym c.refusal-judged.ensures.value ∙ c.if-judged-ne0.false in let all = time-refused a.moves.now a.times.now a.p a.answers.now c.if-moves-eq0.false z
    c.first_refusal-refused.ensures.value c.if-refused-ne0.true in record { refusal = all.0; left = all.1.0; kept = all.1.1 }

pub fill_all-requires : goal.fill_all-requires
fill_all-requires c = let a = c.args in let z = sym c.refusal-judged.ensures.value ∙ c.if-judged-ne0.false in let h = list-passed a.times.now a.p (length a.answers.now) z in record { moves_nonzero = positive a.moves.now c.if-moves-eq0.false; answers_len = h.exact; times_value = is_true (never_falls a.times.now) h.rises }

pub returns : goal.returns
returns c = let a = c.args in let z = sym c.refusal-judged.ensures.value ∙ c.if-judged-ne0.false in let all = all-answered a.moves.now a.times.now a.p a.answers.now c.if-moves-eq0.false z
    c.first_refusal-refused.ensures.value c.if-refused-ne0.false c.fill_all.ensures.left in record { refusal = all.0; left = all.1.0; kept = all.1.1 }
