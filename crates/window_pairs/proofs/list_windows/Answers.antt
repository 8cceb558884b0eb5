-- `list_windows` meets its contract: the tests, then what was found; the clauses follow from the answer (`windows-clauses`).
use mathlib.Core.Path.{refl, sym, ◌∙◌}
use borrow.Author.Rules.{rules}
use Rattle.window_meetings.specs.Windows.{refused, WindowsAnswer-left, windows_of, windows_from}
use Rattle.window_cover.specs.Kept.{Moves-window_cover}
use Rattle.window_pairs.proofs.Kept.{accepted-ticks, none_first, none-second, arguments-refused}
use Rattle.window_pairs.proofs.Kept.{windows-worked, found-refused, found-listed, windows-clauses}
use Rattle.window_pairs.proofs.list_windows.Goals as goal

pub returns-then-moves-eq0 : goal.returns-then-moves-eq0
unfolding WindowsAnswer-left
returns-then-moves-eq0 c = let a = c.args in let all = windows-clauses a.moves.now a.others.now a.b a.other a.depth a.ticks.now (refused 12) a.places.now a.places.now
    (none_first a.moves.now a.others.now a.b a.other a.depth a.ticks.now c.if-moves-eq0.true) refl refl refl in record { refusal = all.0; count = all.1.0; left = all.1.1.0; kept = all.1.1.1.0; apart = all.1.1.1.1.0; finer = all.1.1.1.1.1 }

pub returns-then-others-eq0 : goal.returns-then-others-eq0
unfolding WindowsAnswer-left
returns-then-others-eq0 c = let a = c.args in let all = windows-clauses a.moves.now a.others.now a.b a.other a.depth a.ticks.now (refused 12) a.places.now a.places.now
    (none-second a.moves.now a.others.now a.b a.other a.depth a.ticks.now c.if-moves-eq0.false c.if-others-eq0.true) refl refl refl in record { refusal = all.0; count = all.1.0; left = all.1.1.0; kept = all.1.1.1.0; apart = all.1.1.1.1.0; finer = all.1.1.1.1.1 }

pub returns-then-n-ne0 : goal.returns-then-n-ne0
unfolding WindowsAnswer-left
returns-then-n-ne0 c = let a = c.args in let all = windows-clauses a.moves.now a.others.now a.b a.other a.depth a.ticks.now (refused _) a.places.now a.places.now
    (arguments-refused a.moves.now a.others.now a.b a.other a.depth a.ticks.now
    c.if-moves-eq0.false c.if-others-eq0.false c.refusal-n.ensures.value c.if-n-ne0.true)
    refl refl refl in record { refusal = all.0; count = all.1.0; left = all.1.1.0; kept = all.1.1.1.0; apart = all.1.1.1.1.0; finer = all.1.1.1.1.1 }

pub find-found-requires : goal.find-found-requires
find-found-requires c =
    let a = c.args in
    accepted-ticks a.b a.other a.depth a.ticks.now (sym c.refusal-n.ensures.value ∙ c.if-n-ne0.false)

pub returns-then-met-ne0 : goal.returns-then-met-ne0
unfolding WindowsAnswer-left
returns-then-met-ne0 c = let a = c.args in let work = windows_from (Moves-window_cover a.moves.now a.b a.depth)
    (Moves-window_cover a.others.now a.other a.depth) 0 (windows_of a.ticks.now) in let all = windows-clauses a.moves.now a.others.now a.b a.other a.depth
    a.ticks.now (refused c.find-found.result.refusal) a.places.now a.places.now
    (windows-worked a.moves.now a.others.now a.b a.other a.depth a.ticks.now
    c.if-moves-eq0.false c.if-others-eq0.false (sym c.refusal-n.ensures.value ∙ c.if-n-ne0.false)
    ∙ found-refused work c.find-found.result c.find-found.ensures.found c.if-met-ne0.true)
    refl refl refl in record { refusal = all.0; count = all.1.0; left = all.1.1.0; kept = all.1.1.1.0; apart = all.1.1.1.1.0; finer = all.1.1.1.1.1 }

pub returns : goal.returns
returns c = let a = c.args in let work = windows_from (Moves-window_cover a.moves.now a.b a.depth)
    (Moves-window_cover a.others.now a.other a.depth) 0 (windows_of a.ticks.now) in let l = found-listed work c.find-found.result a.places.now c.find-found.ensures.found c.if-met-ne0.false in let all = windows-clauses a.moves.now a.others.now a.b a.other a.depth a.ticks.now work a.places.now c.find-found.result.places
    (windows-worked a.moves.now a.others.now a.b a.other a.depth a.ticks.now
    c.if-moves-eq0.false c.if-others-eq0.false (sym c.refusal-n.ensures.value ∙ c.if-n-ne0.false))
    (sym l.accepted) l.count l.places in record { refusal = all.0; count = all.1.0; left = all.1.1.0; kept = all.1.1.1.0; apart = all.1.1.1.1.0; finer = all.1.1.1.1.1 }
