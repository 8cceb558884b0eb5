-- What the library's functions over a kept chain answer, from the arrays that they are lent: the definitions of `chain_rows` and `chain_trial` at the poses,
-- points and boxes that the arrays hold; and the numbers of the layout in which all of it crosses and of the library's version. Definitions only.
use Rattle.std.specs.Prelude.{ℕ, List, Float}
use Rattle.file_reader.specs.matrix4x4.Rows.{Rows}
use Rattle.file_reader.specs.bounds3.List.{Point3f-of_list, Bounds3f-of_list}
use Rattle.lent_arrays.specs.transform.Answer.{PointAnswer}
use Rattle.lent_arrays.specs.transform.declared.BoundsAnswer.{BoundsAnswer}
use Rattle.lent_arrays.specs.Arrays.{Pose-of_list}
use Rattle.chain_rows.specs.motion_chain.Times.{PointsAnswer}
use Rattle.window_cover.specs.Kept.{Moves-window_cover}
use Rattle.window_pairs.specs.window_meetings.Windows.{WindowsAnswer}
use Rattle.window_pairs.specs.Kept.{Moves-windows}
use Rattle.chain_rows.specs.Kept.{Moves-transform_point, Moves-transform_points, Moves-cover}
use Rattle.chain_trial.specs.Try.{Moves-try}

-- A pose of 18 floats, a move of 45 rows with its kind, a chain of up to 31 moves.
abbrev pub layout_number : ℕ
layout_number = 3

-- Version 2.0.0, as 10000 * major + 100 * minor + patch.
abbrev pub version_number : ℕ
version_number = 20000

abbrev pub Moves-point : List Rows → Float → List Float → PointAnswer
Moves-point rows time p = Moves-transform_point rows time (Point3f-of_list p)

abbrev pub Moves-points : List Rows → List Float → List Float → ℕ → PointsAnswer
Moves-points rows times p places = Moves-transform_points rows times (Point3f-of_list p) places

abbrev pub Moves-cover_of : List Rows → List Float → ℕ → BoundsAnswer
Moves-cover_of rows b depth = Moves-cover rows (Bounds3f-of_list b) depth

abbrev pub Moves-try_of : List Rows → ℕ → List Float → List Float → ℕ → BoundsAnswer
Moves-try_of rows place pose b depth = Moves-try rows place (Pose-of_list pose) (Bounds3f-of_list b) depth

abbrev pub Moves-window_cover_of : List Rows → List Float → ℕ → Float → Float → BoundsAnswer
Moves-window_cover_of rows b depth earlier later = Moves-window_cover rows (Bounds3f-of_list b) depth (record { earlier = earlier; later = later })

abbrev pub Moves-windows_of : List Rows → List Rows → List Float → List Float → ℕ → List Float → WindowsAnswer
Moves-windows_of rows rows' b b' depth ticks = Moves-windows rows rows' (Bounds3f-of_list b) (Bounds3f-of_list b') depth ticks
