-- H of the folded angle and of a quarter turn less it, with their signs (`sin-folded`, `cos-folded`).
use mathlib.Core.Path.{ap, ◌∙◌}
use Rattle.sine_table.specs.QuarterSine.{entry}
use Rattle.trig.specs.Units.{nearest_float}
use Rattle.trig.proofs.Quarters.{sin-folded, cos-folded}
use Rattle.trig.proofs.units_sin_cos.Goals as goal

pub returns : goal.returns
returns c = let a = c.args in let w = c.folded in let h = c.quarter_sin_cos_in-h in record {
  sin = c.units_float.ensures.value
      ∙ ap nearest_float (sin-folded (entry a.table.now) a.u w.result h.result.sin w.ensures.value a.negative h.ensures.sin);
  cos = c.units_float-2.ensures.value ∙ ap nearest_float (cos-folded (entry a.table.now) a.u w.result h.result.cos w.ensures.value h.ensures.cos);
}
