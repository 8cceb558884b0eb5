-- The last steps of the arc cosine: from what the code's calls give to the definition (`acos-value`), and where there is nothing to work out (`acos-outside`).
-- Its count likewise: `acos-counted`, `acos-uncounted`.
use mathlib.Core.Path.{◌≡◌, sym, ap, ◌∙◌}
use mathlib.Core.Bool.{true, false}
use Prim.Native.Nat.{ℕ, ◌^◌}
use lib.Ieee.{Float, nan, binary32, div, round, minus, of_bits}
use Rattle.trig.specs.Biased.{biased}
use Rattle.trig.proofs.Units.{biased-minus}
use Rattle.trig.proofs.Values.{taken, left, none}
use Rattle.arc_cosine.specs.Acos.{in_domain, least_angle, floor_units, acos}
use Rattle.arc_cosine.specs.Search.{search_cosines, acos_cosines}

pub acos-value : (c : Float) (w u : ℕ) (z : Float) → in_domain c ≡ true → minus w (2 ^ 30) ≡ floor_units c
    → u ≡ least_angle (minus w (2 ^ 30)) → z ≡ round binary32 false u (2 ^ 28) → z ≡ acos c
unfolding acos
acos-value c w u z h W U Z =
    Z ∙ ap (λ (v : ℕ). round binary32 false v (2 ^ 28)) (U ∙ ap least_angle W)
    ∙ taken (in_domain c) (round binary32 false (least_angle (floor_units c)) (2 ^ 28)) nan h

pub acos-outside : (c : Float) → in_domain c ≡ false → div binary32 (of_bits binary32 0) (of_bits binary32 0) ≡ acos c
unfolding acos
acos-outside c h = none ∙ left (in_domain c) (round binary32 false (least_angle (floor_units c)) (2 ^ 28)) nan h

pub acos-counted : (c : Float) (w k : ℕ) → in_domain c ≡ true → minus w (2 ^ 30) ≡ floor_units c → k ≡ search_cosines w → k ≡ acos_cosines c
unfolding acos_cosines
acos-counted c w k h W K = K ∙ ap search_cosines (sym (biased-minus w) ∙ ap biased W) ∙ taken (in_domain c) (search_cosines (biased (floor_units c))) 0 h

pub acos-uncounted : (c : Float) → in_domain c ≡ false → 0 ≡ acos_cosines c
unfolding acos_cosines
acos-uncounted c h = left (in_domain c) (search_cosines (biased (floor_units c))) 0 h
