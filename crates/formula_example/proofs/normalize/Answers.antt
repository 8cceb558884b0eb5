-- `normalize` meets its contract: its operations are the formula's, in floats.
use Rattle.formula_example.proofs.normalize.Goals as goal

pub returns : goal.returns
returns c = record { value = cc }
