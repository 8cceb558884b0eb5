-- The test of ticks is a test of neighbours: `rises`. A count that is refused: `count-refused`.
use mathlib.Core.Path.{◌≡◌, refl}
use mathlib.Core.Bool.{true, ◌||◌}
use mathlib.Core.List.{List}
use lib.Dec.{ltb}
use lib.ListN.{length}
use lib.Ieee.{Float, lt}
use Rattle.control_flow.proofs.Neighbours.{EachNext}
use Rattle.tick_list.specs.Ticks.{min_ticks, max_ticks, Ticks-rise, Ticks-refusal}

pub rises : EachNext lt Ticks-rise
unfolding Ticks-rise
rises = record { none = refl; single = λ t. refl; more = λ t u ticks. refl }

pub count-refused : (ticks : List Float) → (ltb (length ticks) min_ticks || ltb max_ticks (length ticks)) ≡ true → 21 ≡ Ticks-refusal ticks
unfolding Ticks-refusal
count-refused ticks e = rw e
