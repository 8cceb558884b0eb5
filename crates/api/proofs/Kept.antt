-- A kept move is the move that was built: what building leaves holds it (`build-clauses`), the point query of the rows is the move's (`kept-point`), and
-- the cover of the rows holds what the point query of the rows answers, and is no narrower than a finer one (`cover-clauses`); the last also of a kept
-- chain (`moves-cover-clauses`), also in a window of times (`moves-window-clauses`), and what it shows of a pose that is tried (`moves-try-clauses`).
use Prim.Native.Nat.{ℕ, ◌+◌, ◌-◌}
use mathlib.Core.Path.{◌≡◌, ap, sym, subst, ◌∙◌}
use mathlib.Core.Bool.{Bool}
use mathlib.Core.List.{List}
use native.Mathlib.Omega.{arith}
use lib.Ieee.{Float}
use Rattle.file_reader.specs.matrix4x4.Rows.{Rows}
use Rattle.file_reader.specs.bounds3.declared.Point3f.{Point3f}
use Rattle.lent_arrays.specs.transform.declared.BoundsAnswer.{BoundsAnswer}
use Rattle.lent_arrays.specs.transform.Answer.{BoundsAnswer-refusal, BoundsAnswer-bounds}
use Rattle.lent_arrays.specs.pose_pair.declared.Pose.{Pose}
use Rattle.animated_transform.specs.declared.AnimatedTransform.{AnimatedTransform}
use Rattle.animated_transform.specs.New.{AnimatedTransformAnswer}
use Rattle.animated_transform.specs.Built.{Built}
use Rattle.animated_transform.specs.New.{AnimatedTransform-new}
use Rattle.motion_rows.specs.motion_point.TransformPoint.{AnimatedTransform-transform_point}
use Rattle.chain_rows.proofs.motion_cover.NonZero.{cover-answered}
use Rattle.chain_rows.proofs.motion_cover.Contains.{cover-contains}
use Rattle.chain_rows.specs.cover_depth.Finer.{Within}
use Rattle.chain_rows.proofs.cover_depth.Finer.{cover-finer}
use Rattle.file_reader.specs.bounds3.List.{Bounds3f-list, Bounds3f-of_list}
use Rattle.window_times.specs.declared.Window.{Window}
use Rattle.window_cover.specs.Kept.{Moves-window_cover, KeptWindowContainsMotion, KeptWindowFiner}
use Rattle.window_cover.proofs.Kept.{kept-window, kept-window-contains, kept-window-finer, kept-window-numbered}
use Rattle.lent_arrays.specs.Arrays.{Pose-of_list, BoundsAnswer-left}
use Rattle.motion_rows.specs.Rows.{AnimatedTransform-to_rows, AnimatedTransform-from_rows, AnimatedTransformAnswer-left}
use Rattle.motion_rows.specs.Holds.{Rows-Holds}
use Rattle.motion_rows.specs.TransformPoint.{Rows-transform_point}
use Rattle.motion_rows.proofs.RoundTrip.{from-rows-inverse, transform-point-kept}
use Rattle.chain_rows.specs.motion_chain.Chain.{Chain}
use Rattle.chain_rows.specs.Theorem.{Moves-Holds, KeptChainContainsMotion}
use Rattle.chain_rows.specs.Finer.{KeptChainFiner}
use Rattle.chain_rows.proofs.Kept.{kept-cover}
use Rattle.chain_rows.proofs.Contains as chain
use Rattle.chain_trial.specs.changed_chain.Trial.{Chain-try}
use Rattle.chain_trial.specs.Theorem.{TrialContainsMotion}
use Rattle.chain_trial.proofs.Try.{try-answered}
use Rattle.chain_trial.proofs.Kept.{kept-try}
use Rattle.api.specs.Answers.{Rows-cover}
use Rattle.api.specs.Chains.{Moves-cover_of, Moves-try_of}
use Rattle.api.specs.Kept.{KeptCoverContainsMotion, KeptCoverFiner, BoundsAnswer-Is, KeptCover, KeptWindowCover}

-- Of what building gives for two poses: its number, what it leaves, and that this holds the move where the number is 0.
pub build-clauses : (rigid : Bool) (s e : Pose) (a : AnimatedTransformAnswer) (r : ℕ) (rows old : Rows)
    → a ≡ AnimatedTransform-new rigid s e → (a.refusal ≡ 0 → Built a.value)
    → r ≡ a.refusal → rows ≡ AnimatedTransformAnswer-left a old
    → (r ≡ (AnimatedTransform-new rigid s e).refusal) × ((rows ≡ AnimatedTransformAnswer-left (AnimatedTransform-new rigid s e) old)
    × (r ≡ 0 → Rows-Holds rows (AnimatedTransform-new rigid s e).value))
unfolding AnimatedTransformAnswer-left
build-clauses rigid s e a r rows old same built number left = rw (← same) (number, (left, holds))
  where
    holds : r ≡ 0 → Rows-Holds rows a.value
    holds none = let accepted : a.refusal ≡ 0 = sym number ∙ none in record { built = built accepted; same = rw left (rw accepted) }

pub kept-point : (rows : Rows) (m : AnimatedTransform) (time : Float) (p : Point3f) → rows ≡ AnimatedTransform-to_rows m
    → Rows-transform_point rows time p ≡ AnimatedTransform-transform_point m time p
kept-point rows m time p e = rw e (transform-point-kept m time p)

-- The four clauses of the cover, from its number and what it leaves: number 0 is a box, and the array holds it.
pub cover-clauses : (rows : Rows) (b : List Float) (d r : ℕ) (bounds old : List Float)
    → r ≡ BoundsAnswer-refusal (Rows-cover rows b d) → bounds ≡ BoundsAnswer-left (Rows-cover rows b d) old
    → (r ≡ BoundsAnswer-refusal (Rows-cover rows b d)) × ((bounds ≡ BoundsAnswer-left (Rows-cover rows b d) old)
    × ((r ≡ 0 → KeptCoverContainsMotion rows b bounds)
    × (r ≡ 0 → KeptCoverFiner rows b d bounds)))
cover-clauses rows b d r bounds old number left = (number, (left, (contains, finer)))
  where
    box-left : r ≡ 0 → bounds ≡ Bounds3f-list (BoundsAnswer-bounds (Rows-cover rows b d))
    box-left none =
        left ∙ ap (λ (c : BoundsAnswer). BoundsAnswer-left c old) (cover-answered (AnimatedTransform-from_rows rows) (Bounds3f-of_list b) d (sym number ∙ none))

    contains : r ≡ 0 → KeptCoverContainsMotion rows b bounds
    contains none m time p holds nan inside =
        let move : AnimatedTransform-from_rows rows ≡ m = rw holds.same (from-rows-inverse m) in
        let accepted : BoundsAnswer-refusal (Rows-cover rows b d) ≡ 0 = sym number ∙ none in
        let box = box-left none in
        let built : Built (AnimatedTransform-from_rows rows) = rw move holds.built in
        let point : Rows-transform_point rows time p ≡ AnimatedTransform-transform_point (AnimatedTransform-from_rows rows) time p =
        rw move (kept-point rows m time p holds.same) in
        rw (← move, point, box) (cover-contains (AnimatedTransform-from_rows rows) (Bounds3f-of_list b) d time p built accepted nan inside)

    finer : r ≡ 0 → KeptCoverFiner rows b d bounds
    finer none m k holds l most =
        let own = BoundsAnswer-bounds (Rows-cover rows b d) in
        let same : d + (k - d) ≡ k = omega (arith, l) in
        let built : Built (AnimatedTransform-from_rows rows) =
        subst Built (sym (from-rows-inverse m) ∙ ap AnimatedTransform-from_rows (sym holds.same)) holds.built in
        let deeper : Within (Rows-cover rows b (d + (k - d))) own =
        cover-finer (AnimatedTransform-from_rows rows) (Bounds3f-of_list b) d (k - d) built (omega (arith, same, most)) (sym number ∙ none) in
        rw (box-left none) (subst (λ (x : ℕ). Within (Rows-cover rows b x) own) same deeper)

answered-as : {a own : BoundsAnswer} {r : ℕ} {old bounds : List Float}
    → r ≡ BoundsAnswer-refusal a → bounds ≡ BoundsAnswer-left a old → a ≡ own → BoundsAnswer-Is own r old bounds
answered-as {old = old} number left same = record {
  refusal = number ∙ ap BoundsAnswer-refusal same;
  left = left ∙ ap (λ (x : BoundsAnswer). BoundsAnswer-left x old) same;
}

pub moves-cover-clauses : (rows : List Rows) (b : List Float) (d r : ℕ) (bounds old : List Float)
    → r ≡ BoundsAnswer-refusal (Moves-cover_of rows b d) → bounds ≡ BoundsAnswer-left (Moves-cover_of rows b d) old
    → (r ≡ BoundsAnswer-refusal (Moves-cover_of rows b d)) × ((bounds ≡ BoundsAnswer-left (Moves-cover_of rows b d) old)
    × (KeptCover rows b d r old bounds
    × ((r ≡ 0 → KeptChainContainsMotion rows (Bounds3f-of_list b) (Bounds3f-of_list bounds))
    × (r ≡ 0 → KeptChainFiner rows (Bounds3f-of_list b) d (Bounds3f-of_list bounds)))))
moves-cover-clauses rows b d r bounds old number left =
    (number, (left, (λ c e. answered-as number left (kept-cover rows c (Bounds3f-of_list b) d e), (contains, finer))))
  where
    box-left : r ≡ 0 → bounds ≡ Bounds3f-list (BoundsAnswer-bounds (Moves-cover_of rows b d))
    box-left none = left ∙ ap (λ (c : BoundsAnswer). BoundsAnswer-left c old) (chain.cover-answered rows (Bounds3f-of_list b) d (sym number ∙ none))

    contains : r ≡ 0 → KeptChainContainsMotion rows (Bounds3f-of_list b) (Bounds3f-of_list bounds)
    contains none = rw (box-left none) (chain.kept-contains rows (Bounds3f-of_list b) d (sym number ∙ none))

    finer : r ≡ 0 → KeptChainFiner rows (Bounds3f-of_list b) d (Bounds3f-of_list bounds)
    finer none = rw (box-left none) (chain.kept-finer rows (Bounds3f-of_list b) d (sym number ∙ none))

pub moves-try-clauses : (rows : List Rows) (place : ℕ) (pose b : List Float) (d r : ℕ) (bounds old : List Float) (shown : BoundsAnswer)
    → shown ≡ Moves-try_of rows place pose b d
    → (BoundsAnswer-refusal shown ≡ 0 → TrialContainsMotion rows place (Pose-of_list pose) (Bounds3f-of_list b) (BoundsAnswer-bounds shown))
    → r ≡ BoundsAnswer-refusal shown → bounds ≡ BoundsAnswer-left shown old
    → (r ≡ BoundsAnswer-refusal (Moves-try_of rows place pose b d)) × ((bounds ≡ BoundsAnswer-left (Moves-try_of rows place pose b d) old)
    × (((c : Chain) → Moves-Holds rows c → Moves-try_of rows place pose b d ≡ Chain-try c place (Pose-of_list pose) (Bounds3f-of_list b) d)
    × (r ≡ 0 → TrialContainsMotion rows place (Pose-of_list pose) (Bounds3f-of_list b) (Bounds3f-of_list bounds))))
moves-try-clauses rows place pose b d r bounds old shown value contains number left = (
  number ∙ ap BoundsAnswer-refusal value,
  (
    left ∙ ap (λ (a : BoundsAnswer). BoundsAnswer-left a old) value,
    (λ c h. kept-try rows c h place (Pose-of_list pose) (Bounds3f-of_list b) d, λ none. rw (box-left none) (contains (sym number ∙ none))),
  ),
)
  where
    box-left : r ≡ 0 → bounds ≡ Bounds3f-list (BoundsAnswer-bounds shown)
    box-left none =
        let answered = try-answered rows place (Pose-of_list pose) (Bounds3f-of_list b) d (ap BoundsAnswer-refusal (sym value) ∙ (sym number ∙ none)) in
        left ∙ (ap (λ (a : BoundsAnswer). BoundsAnswer-left a old) (value ∙ answered)
        ∙ ap (λ (a : BoundsAnswer). Bounds3f-list (BoundsAnswer-bounds a)) (sym value))

pub moves-window-clauses : (rows : List Rows) (b : List Float) (d : ℕ) (w : Window) (r : ℕ) (bounds old : List Float)
    → r ≡ BoundsAnswer-refusal (Moves-window_cover rows (Bounds3f-of_list b) d w)
    → bounds ≡ BoundsAnswer-left (Moves-window_cover rows (Bounds3f-of_list b) d w) old
    → (r ≡ BoundsAnswer-refusal (Moves-window_cover rows (Bounds3f-of_list b) d w))
    × ((bounds ≡ BoundsAnswer-left (Moves-window_cover rows (Bounds3f-of_list b) d w) old)
    × (KeptWindowCover rows b d w r old bounds
    × ((r ≡ 0 → KeptWindowContainsMotion rows (Bounds3f-of_list b) w (Bounds3f-of_list bounds))
    × (r ≡ 0 → KeptWindowFiner rows (Bounds3f-of_list b) d w (Bounds3f-of_list bounds)))))
moves-window-clauses rows b d w r bounds old number left =
    (number, (left, (λ c e. answered-as number left (kept-window rows c (Bounds3f-of_list b) d w e), (contains, finer))))
  where
    box-left : r ≡ 0 → bounds ≡ Bounds3f-list (BoundsAnswer-bounds (Moves-window_cover rows (Bounds3f-of_list b) d w))
    box-left none = left ∙ ap (λ (c : BoundsAnswer). BoundsAnswer-left c old) ((kept-window-numbered rows (Bounds3f-of_list b) d w).none (sym number ∙ none))

    contains : r ≡ 0 → KeptWindowContainsMotion rows (Bounds3f-of_list b) w (Bounds3f-of_list bounds)
    contains none = rw (box-left none) (kept-window-contains rows (Bounds3f-of_list b) d w (sym number ∙ none))

    finer : r ≡ 0 → KeptWindowFiner rows (Bounds3f-of_list b) d w (Bounds3f-of_list bounds)
    finer none = rw (box-left none) (kept-window-finer rows (Bounds3f-of_list b) d w (sym number ∙ none))
