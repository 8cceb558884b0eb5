-- `put_digits`: the last digit of what is left stands in front of those that are written.
use Rattle.std.proofs.Common.{◌≡◌, ◌+◌, ◌-◌, ◌<◌, drop, take, take_all, length, length-drop, arith, refl, sym, ◌∙◌}
use Rattle.std.proofs.lemmas.List.{drop-set}
use Rattle.std.proofs.Math.ListN.{length-set}
use Rattle.answer_lines.specs.Pieces.{decimal}
use Rattle.answer_lines.proofs.Pieces.{before_none, digits-last, digits-turn, few-turn}
use Rattle.answer_lines.proofs.put_digits.Goals as goal

pub loop-rest-init : goal.loop-rest-init
loop-rest-init c = record { places = refl; in_bounds = omega arith; few = omega arith; digits = rw c.last_digit.ensures (digits-last 19 c.args.n (omega arith)) }

pub loop-rest-preserved : goal.loop-rest-preserved
loop-rest-preserved c =
    let l = c.loop-rest in
    let turn = few-turn l.start l.rest c.loop-rest-test.true l.invariant.few in
    let within : l.start - 1 < length l.digits = omega (arith, l.invariant.places, l.invariant.in_bounds) in
    let next : (l.start - 1) + 1 ≡ l.start = omega (arith, turn.0) in
    record {
      places = length-set l.digits _ _ ∙ l.invariant.places;
      in_bounds = omega (arith, l.invariant.in_bounds);
      few = turn.1;
      digits =
          l.invariant.digits
          ∙ digits-turn l.start l.rest (drop l.start l.digits) c.loop-rest-test.true l.invariant.few
          ∙ rw (drop-set l.digits (l.start - 1) c.last_digit-in-loop-rest.result within, next, c.last_digit-in-loop-rest.ensures);
    }

pub returns : goal.returns
returns c =
    let l = c.loop-rest in
    let whole : take (20 - l.start) (drop l.start l.digits) ≡ drop l.start l.digits =
    take_all (20 - l.start) (drop l.start l.digits) (rw (length-drop l.start l.digits, l.invariant.places) (omega arith)) in
    let e : take (20 - l.start) (drop l.start l.digits) ≡ decimal c.args.n =
    whole ∙ sym (l.invariant.digits ∙ rw (before_none l.start l.rest c.loop-rest-test.false)) in
    record { value = rw e at c.put_text.ensures.value; left = rw e at c.put_text.ensures.left }
