-- `find` meets its contract. Its loop keeps that the windows found so far, with those that are left, are all of them.
use mathlib.Core.Path.{subst, sym}
use Rattle.window_cover.specs.Kept.{Moves-window_cover}
use Rattle.window_pairs.proofs.Loop.{Loop, loop-first, loop-few, loop-next, loop-refused, loop-last}
use Rattle.window_pairs.proofs.find.Goals as goal

pub loop-i-init : goal.loop-i-init
loop-i-init c =
    let a = c.args in
    let cover = Moves-window_cover a.moves.now a.b a.depth in
    let cover' = Moves-window_cover a.others.now a.other a.depth in
    subst (Loop cover cover' a.ticks.now 1) (sym c.none-found.ensures.value) (loop-first cover cover' a.ticks.now)

pub meeting_at-m-requires : goal.meeting_at-m-requires
meeting_at-m-requires c = record { le_i = c.loop-i.auto.i; i_in_bounds = c.loop-i-test.true }

pub returns-then-refusal-ne0 : goal.returns-then-refusal-ne0
returns-then-refusal-ne0 c = record {
  found = let l = c.loop-i in
      let a = c.args in
      loop-refused (Moves-window_cover a.moves.now a.b a.depth) (Moves-window_cover a.others.now a.other a.depth) a.ticks.now l.invariant
      c.meeting_at-m.result c.loop-i-test.true c.meeting_at-m.ensures.value c.if-refusal-ne0.true c.none.ensures.value;
}

pub add-next-requires : goal.add-next-requires
add-next-requires c =
    let l = c.loop-i in
    let a = c.args in
    loop-few (Moves-window_cover a.moves.now a.b a.depth) (Moves-window_cover a.others.now a.other a.depth) a.ticks.now l.invariant
    c.loop-i-test.true c.requires

pub loop-i-preserved : goal.loop-i-preserved
loop-i-preserved c =
    let l = c.loop-i in
    let a = c.args in
    loop-next (Moves-window_cover a.moves.now a.b a.depth) (Moves-window_cover a.others.now a.other a.depth) a.ticks.now l.invariant
    c.meeting_at-m.result c.loop-i-test.true c.requires c.meeting_at-m.ensures.value c.if-refusal-ne0.false c.add-next.ensures.value

pub returns : goal.returns
returns c = record {
  found = let l = c.loop-i in
      let a = c.args in
      loop-last (Moves-window_cover a.moves.now a.b a.depth)
      (Moves-window_cover a.others.now a.other a.depth) a.ticks.now l.invariant c.loop-i-test.false;
}
