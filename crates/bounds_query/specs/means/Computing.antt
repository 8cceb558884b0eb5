-- What has to unfold for a given box to be judged and given answers to be joined by computing, as one group: a case says `unfolding computing`.
use Rattle.bounds3.specs.means.Computing as bounds3
use Rattle.bounds_query.specs.Query.{Bounds3f-is_ordered, Bounds3f-refusal, cover_refusal, BoundsAnswer-union_bounds}
use Rattle.bounds_query.specs.Zeros.{Bounds3f-positive_zeros, BoundsAnswer-positive_zeros}

unfoldable pub computing : Unit {0}
unfolding bounds3.computing Bounds3f-is_ordered Bounds3f-refusal cover_refusal BoundsAnswer-union_bounds Bounds3f-positive_zeros BoundsAnswer-positive_zeros
computing = tt
