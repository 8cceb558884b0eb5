-- The guarantee for a chain: "a point of the box is inside it at every time but NaN, now of the whole chain" (document 02, "Poses in a chain").
-- `ChainContainsMotion`, the statement of `chain-contains`.
--
-- Take any poses from which a chain is built, any box, and any depth at which the chain's cover of the box is accepted. Then at every time but NaN,
-- both infinities included, and for every point of the box, the chain's point query answers a moved point, and that point is inside the cover on
-- all three axes, by itself and less and plus the pad of the move that the time belongs to, each rounded.
--
--   BuiltChain c             c is what building gives, unrefused, for poses of binary32 times and pads    crates/motion_chain/specs/Built.antt
--   BoundsAnswer-refusal r   the cover's number, 0 where it is accepted; `BoundsAnswer-bounds r` its box  crates/transform/specs/Answer.antt
--   Chain-transform_point     the point query of the move that the time belongs to                         crates/motion_chain/specs/Chain.antt
--   Chain-pad_at              the pad of that move at the time                                             crates/motion_chain/specs/Chain.antt
--   MovedInside, Inside      a moved point; low ≤ value ≤ high on all three axes                          crates/motion_cover/specs/Theorem.antt,
--                                                                                                         crates/bounds3/specs/Inside.antt
--
-- And that a finer cover of a chain is never a wider one: `ChainCoverFiner`, the statement of `chain-cover-finer`.
use Rattle.std.specs.Prelude.{ℕ, ◌+◌, ◌≤◌, ◌≡◌, not, T, Float}
use Rattle.std.specs.Float.Ieee.{is_nan}
use Rattle.bounds_answers.specs.bounds3.declared.Point3f.{Point3f}
use Rattle.bounds_answers.specs.bounds3.declared.Bounds3f.{Bounds3f}
use Rattle.bounds_answers.specs.bounds3.Inside.{Inside}
use Rattle.bounds_answers.specs.transform.declared.BoundsAnswer.{BoundsAnswer}
use Rattle.bounds_answers.specs.transform.Answer.{BoundsAnswer-refusal, BoundsAnswer-bounds}
use Rattle.bounds_answers.specs.bounds_query.Query.{max_depth}
use Rattle.bounds_answers.specs.motion_cover.Theorem.{MovedInside}
use Rattle.bounds_answers.specs.cover_depth.Finer.{Within}
use Rattle.motion_chain.specs.Chain.{Chain, Chain-transform_point, Chain-pad_at, Chain-cover}
use Rattle.motion_chain.specs.Built.{BuiltChain}

-- c is the chain, b the box of points, r what the cover query answered.
abbrev pub ChainContainsMotion : Chain → Bounds3f → BoundsAnswer → Type 0
ChainContainsMotion c b r =
    (time : Float) (p : Point3f)
    → BuiltChain c → BoundsAnswer-refusal r ≡ 0 → T (not (is_nan time)) → Inside b p
    → MovedInside (BoundsAnswer-bounds r) (Chain-pad_at c time) (Chain-transform_point c time p)

-- document 02, "A finer cover is never a wider one": "For the same chain and box, where the cover at a depth is accepted,
-- the cover at each greater depth up to 12 is accepted and lies inside it on every axis"
abbrev pub ChainCoverFiner : Chain → Bounds3f → Type 0
ChainCoverFiner c b =
    (d n : ℕ)
    → BuiltChain c → d + n ≤ max_depth → BoundsAnswer-refusal (Chain-cover c b d) ≡ 0
    → Within (Chain-cover c b (d + n)) (BoundsAnswer-bounds (Chain-cover c b d))
