-- `name_rows` meets its contract: its tests in order, then the window's poses.
use Prim.Native.Nat.{ℕ, ◌+◌, ◌-◌, ◌≤◌, ◌<◌}
use mathlib.Core.Path.{◌≡◌, refl, sym, ap, ◌∙◌}
use native.Mathlib.Omega.{arith}
use borrow.Author.Rules.{rules}
use lib.ListN.{length}
use Rattle.reach_window.proofs.Clauses.{boxes-counted, boxes-refused, rows-refused, moves-refused, ticks-refused, arguments-refused, depth-passed}
use Rattle.reach_window.proofs.Clauses.{work-refused, window-done}
use borrow.Author.Rules.{rules}
use Rattle.reach_window.proofs.name_rows.Goals as goal

pub returns-then-n : goal.returns-then-n
returns-then-n c = let a = c.args in let k = boxes-refused a.moves.now a.boxes.now a.depth a.w a.rows.now c.if-n.true c.none.ensures.names in record { refusal = c.none.ensures.number ∙ k.0; names = k.1 }

pub returns-then-rows-gt-MAX_ROWS : goal.returns-then-rows-gt-MAX_ROWS
returns-then-rows-gt-MAX_ROWS c = let a = c.args in let k = rows-refused a.moves.now a.boxes.now a.depth a.w a.rows.now c.if-n.false c.if-rows-gt-MAX_ROWS.true c.none-then-rows-gt-MAX_ROWS.ensures.names in record { refusal = c.none-then-rows-gt-MAX_ROWS.ensures.number ∙ k.0; names = k.1 }

pub returns-then-moves-eq0 : goal.returns-then-moves-eq0
returns-then-moves-eq0 c = let a = c.args in let k = moves-refused a.moves.now a.boxes.now a.depth a.w a.rows.now c.if-n.false c.if-rows-gt-MAX_ROWS.false c.if-moves-eq0.true c.none-then-moves-eq0.ensures.names in record { refusal = c.none-then-moves-eq0.ensures.number ∙ k.0; names = k.1 }

pub returns-then-ticks-ne0 : goal.returns-then-ticks-ne0
returns-then-ticks-ne0 c = let a = c.args in let k = ticks-refused a.moves.now a.boxes.now a.depth a.w a.rows.now c.if-n.false c.if-rows-gt-MAX_ROWS.false c.if-moves-eq0.false
    (c.none-then-ticks-ne0.ensures.number ∙ c.refusal-ticks.ensures.value) (λ e. c.if-ticks-ne0.true (sym c.none-then-ticks-ne0.ensures.number ∙ e)) c.none-then-ticks-ne0.ensures.names in record { refusal = k.0; names = k.1 }

pub returns-then-judged-n : goal.returns-then-judged-n
returns-then-judged-n c = let a = c.args in let ticks = sym c.refusal-ticks.ensures.value ∙ c.if-ticks-ne0.false in let k = arguments-refused a.moves.now a.boxes.now a.depth a.w a.rows.now c.if-n.false c.if-rows-gt-MAX_ROWS.false c.if-moves-eq0.false
    ticks c.judged-judged.ensures.value c.if-judged-n.true c.none-then-judged-n.ensures.names in record { refusal = c.none-then-judged-n.ensures.number ∙ k.0; names = k.1 }

pub take_window-front-requires : goal.take_window-front-requires
take_window-front-requires c = let a = c.args in let ticks = sym c.refusal-ticks.ensures.value ∙ c.if-ticks-ne0.false in let (some, few) = boxes-counted (length a.boxes.now) c.if-n.false in record {
  fact = c.if-moves-eq0.false;
  d_le_max_depth = depth-passed a.moves.now a.boxes.now a.depth a.w a.rows.now c.if-n.false c.if-rows-gt-MAX_ROWS.false c.if-moves-eq0.false
      ticks c.judged-judged.ensures.value c.if-judged-n.false some;
  boxes_len_bound = few;
}

pub returns-then-front-n : goal.returns-then-front-n
returns-then-front-n c = let a = c.args in let ticks = sym c.refusal-ticks.ensures.value ∙ c.if-ticks-ne0.false in let k = work-refused a.moves.now a.boxes.now a.depth a.w a.rows.now c.if-n.false c.if-rows-gt-MAX_ROWS.false c.if-moves-eq0.false
    ticks c.judged-judged.ensures.value c.if-judged-n.false c.take_window-front.ensures.walks c.if-front-n.true c.none-then-front-n.ensures.names in record { refusal = c.none-then-front-n.ensures.number ∙ k.0; names = k.1 }

pub returns : goal.returns
returns c = let a = c.args in let ticks = sym c.refusal-ticks.ensures.value ∙ c.if-ticks-ne0.false in let all = window-done a.moves.now a.boxes.now a.depth a.w a.rows.now c.if-n.false c.if-rows-gt-MAX_ROWS.false c.if-moves-eq0.false
    ticks c.judged-judged.ensures.value c.if-judged-n.false c.take_window-front.ensures.walks c.if-front-n.false in record { refusal = all.0; names = all.1 }
