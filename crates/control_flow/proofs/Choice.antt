-- What both cases of a choice have, the choice has: `cond-keeps`.
use mathlib.Core.Bool.{Bool, true, false, cond}

pub cond-keeps : {A : Type 0} (P : A → Type 0) (b : Bool) (x y : A) → P x → P y → P (cond b x y)
cond-keeps P true x y p q = p
cond-keeps P false x y p q = q
