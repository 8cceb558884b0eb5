-- A refusal's number, from 1 on: document 01, Refusals, and document 02. Of a result the number is 0 where nothing is refused. Definitions only.
use Rattle.std.specs.Prelude.{ℕ, Result, Ok, Err}
use Rattle.refusal.specs.declared.Refusal.{Refusal}
use Rattle.refusal.specs.declared.Refusal.TheVariants

-- made by tools/numbers --write
abbrev pub Refusal-number : Refusal → ℕ
Refusal-number TheVariants.PoseNotFinite = 1
Refusal-number TheVariants.BottomRow = 2
Refusal-number TheVariants.Times = 3
Refusal-number TheVariants.ZeroPivot = 4
Refusal-number TheVariants.NotFinite = 5
Refusal-number TheVariants.Query = 6
Refusal-number TheVariants.Corners = 7
Refusal-number TheVariants.Depth = 8
Refusal-number TheVariants.NinthZero = 9
Refusal-number TheVariants.SquaredLength = 10
Refusal-number TheVariants.File = 11
Refusal-number TheVariants.Chain = 12
Refusal-number TheVariants.TimeList = 13
Refusal-number TheVariants.Set = 14
Refusal-number TheVariants.Room = 15
Refusal-number TheVariants.Pad = 16
Refusal-number TheVariants.NotRigid = 17
Refusal-number TheVariants.Determinant = 18
Refusal-number TheVariants.Place = 19
Refusal-number TheVariants.Mismatch = 20
Refusal-number TheVariants.Ticks = 21
Refusal-number TheVariants.Day = 22

-- end of what tools/numbers makes

abbrev pub refusal_number : {A : Type 0} → Result A Refusal → ℕ
refusal_number (Ok a) = 0
refusal_number (Err r) = Refusal-number r

-- A result by its number.
abbrev pub numbered : {A : Type 0} → Result A Refusal → Result A ℕ
numbered (Ok a) = Ok a
numbered (Err r) = Err (Refusal-number r)
