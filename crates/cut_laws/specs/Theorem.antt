-- What is promised of a box's parts, of what stands in the first n places: each lies in the box and is one that no query refuses, `PartsWithin`; every point of
-- the box is inside some part, `PartsCover`. The statements of `parts_within` and `parts-cover`.
--
--   part_at places i       the box whose coordinates stand in place i                below
--   Bounds3f-refusal      6 or 7 of a box, 0 is none                                crates/bounds_query/specs/Query.antt
--   Subset, Inside        by IEEE 754's order on each axis                          crates/bounds3/specs/Inside.antt
use Rattle.std.specs.Prelude.{ℕ, ◌<◌, ◌≡◌, List, [], get_or, Float}
use Rattle.bounds_query.specs.bounds3.declared.Point3f.{Point3f}
use Rattle.bounds_query.specs.bounds3.declared.Bounds3f.{Bounds3f}
use Rattle.bounds_query.specs.bounds3.List.{Bounds3f-of_list}
use Rattle.bounds_query.specs.bounds3.Inside.{Inside, Subset}
use Rattle.bounds_query.specs.Query.{Bounds3f-refusal}

abbrev pub part_at : List (List Float) → ℕ → Bounds3f
part_at places i = Bounds3f-of_list (get_or places i [])

pub record PartWithin (b part : Bounds3f) : Type 0 where
  pub subset : Subset part b
  pub accepted : Bounds3f-refusal part ≡ 0

abbrev pub PartsWithin : Bounds3f → ℕ → List (List Float) → Type 0
PartsWithin b n places = (i : ℕ) → i < n → PartWithin b (part_at places i)

pub record SomePart (n : ℕ) (places : List (List Float)) (p : Point3f) : Type 0 where
  pub place : ℕ
  pub among : place < n
  pub inside : Inside (part_at places place) p

abbrev pub PartsCover : Bounds3f → ℕ → List (List Float) → Type 0
PartsCover b n places = (p : Point3f) → Inside b p → SomePart n places p
