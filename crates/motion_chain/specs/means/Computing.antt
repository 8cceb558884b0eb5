-- What has to unfold for a chain of given poses to be built and asked by computing, as one group: a case says `unfolding computing`.
use Rattle.bounds_answers.specs.animated_transform.means.Computing as building
use Rattle.bounds_answers.specs.motion_point.means.Computing as point
use Rattle.bounds_answers.specs.motion_cover.means.Computing as cover
use Rattle.motion_chain.specs.Chain.{neighbours, every, first_number, Pose-number, Pair-number, kind_stage, chain_refusal, ChainAnswer-from_moves}
use Rattle.motion_chain.specs.Chain.{Chain-new, move_from, Chain-move_at, Chain-transform_point, union_covers, Chain-cover}
use Rattle.motion_chain.specs.Times.{times_are_numbers, never_falls, list_refusal, PointsAnswer-cons}
use Rattle.motion_chain.specs.Times.{points_at, Chain-transform_points, Points-list, PointsAnswer-left}
use Rattle.motion_chain.specs.Stretches.{count_up_to, stretches_from, Chain-stretches}

unfoldable pub computing : Unit {0}
unfolding building.computing point.computing cover.computing neighbours every first_number Pose-number Pair-number kind_stage chain_refusal ChainAnswer-from_moves
    Chain-new move_from Chain-move_at Chain-transform_point union_covers Chain-cover times_are_numbers never_falls list_refusal PointsAnswer-cons points_at
    Chain-transform_points Points-list PointsAnswer-left count_up_to stretches_from Chain-stretches
computing = tt
