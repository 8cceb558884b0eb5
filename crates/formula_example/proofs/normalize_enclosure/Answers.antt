-- `normalize_enclosure` meets its contract: its calls are the formula's operations in working order, up to the first that is refused, and the reading encloses.
use Rattle.std.proofs.Common.{◌≡◌, ℕ, Result, Ok}
use Rattle.std.proofs.lemmas.Result.{IfOk-from_err}
use Rattle.interval.proofs.refusal.Outcome.{handed-on}
use Rattle.formula_example.specs.declared.IntervalVector2.{IntervalVector2}
use Rattle.formula_example.specs.Normalize.{JudgedVector2-outcome, Vector2-normalize_enclosure}
use Rattle.formula_example.proofs.Encloses.{normalize-encloses, normalize-steps}
use Rattle.formula_example.proofs.normalize_enclosure.Goals as goal

pub returns-in_err-xx : goal.returns-in_err-xx
returns-in_err-xx c = record {
  value = rw (
    handed-on _ _ c.from_residual.ensures,
    normalize-steps c.args.v,
    ← c.in_err-xx.ensures.value,
  );
  encloses = IfOk-from_err _ _ c.from_residual.ensures.0;
}

pub returns-in_err-yy : goal.returns-in_err-yy
returns-in_err-yy c = record {
  value = rw (
    handed-on _ _ c.from_residual-in_err-yy.ensures,
    normalize-steps c.args.v,
    ← c.in_ok-xx.ensures.value,
    ← c.in_err-yy.ensures.value,
  );
  encloses = IfOk-from_err _ _ c.from_residual-in_err-yy.ensures.0;
}

pub returns-in_err-d : goal.returns-in_err-d
returns-in_err-d c = record {
  value = rw (
    handed-on _ _ c.from_residual-in_err-d.ensures,
    normalize-steps c.args.v,
    ← c.in_ok-xx.ensures.value,
    ← c.in_ok-yy.ensures.value,
    ← c.in_err-d.ensures.value,
  );
  encloses = IfOk-from_err _ _ c.from_residual-in_err-d.ensures.0;
}

pub returns-in_err-n : goal.returns-in_err-n
returns-in_err-n c = record {
  value = rw (
    handed-on _ _ c.from_residual-in_err-n.ensures,
    normalize-steps c.args.v,
    ← c.in_ok-xx.ensures.value,
    ← c.in_ok-yy.ensures.value,
    ← c.in_ok-d.ensures.value,
    ← c.in_err-n.ensures.value,
  );
  encloses = IfOk-from_err _ _ c.from_residual-in_err-n.ensures.0;
}

pub returns-in_err-x : goal.returns-in_err-x
returns-in_err-x c = record {
  value = rw (
    handed-on _ _ c.from_residual-in_err-x.ensures,
    normalize-steps c.args.v,
    ← c.in_ok-xx.ensures.value,
    ← c.in_ok-yy.ensures.value,
    ← c.in_ok-d.ensures.value,
    ← c.in_ok-n.ensures.value,
    ← c.in_err-x.ensures.value,
  );
  encloses = IfOk-from_err _ _ c.from_residual-in_err-x.ensures.0;
}

pub returns-in_err-y : goal.returns-in_err-y
returns-in_err-y c = record {
  value = rw (
    handed-on _ _ c.from_residual-in_err-y.ensures,
    normalize-steps c.args.v,
    ← c.in_ok-xx.ensures.value,
    ← c.in_ok-yy.ensures.value,
    ← c.in_ok-d.ensures.value,
    ← c.in_ok-n.ensures.value,
    ← c.in_ok-x.ensures.value,
    ← c.in_err-y.ensures.value,
  );
  encloses = IfOk-from_err _ _ c.from_residual-in_err-y.ensures.0;
}

pub returns : goal.returns
returns c = let e : ◌≡◌ {A = Result IntervalVector2 ℕ} (Ok (record { x = c.in_ok-x.x; y = c.in_ok-y.y }))
    (JudgedVector2-outcome (Vector2-normalize_enclosure 0 c.args.v)) = rw (
      normalize-steps c.args.v,
      ← c.in_ok-xx.ensures.value,
      ← c.in_ok-yy.ensures.value,
      ← c.in_ok-d.ensures.value,
      ← c.in_ok-n.ensures.value,
      ← c.in_ok-x.ensures.value,
      ← c.in_ok-y.ensures.value,
    ) in record { value = e; encloses = normalize-encloses c.args.v _ e }
