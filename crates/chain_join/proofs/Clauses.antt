-- What joining gives to its caller, in the three ways that it ends: `no-moves`, `not-joined`, `all-joined`. The rows of
-- the chain that was made of two are the rows of the two, so that what holds of the chains holds of the rows: `kept-join`.
use Prim.Native.Nat.{ℕ, zero, suc, ◌+◌, ◌≤◌, ◌<◌}
use mathlib.Core.Path.{◌≡◌, refl, sym, ap, subst, ◌∙◌}
use mathlib.Core.Bool.{Bool, true, false, not, ◌||◌, cond, false≢true}
use mathlib.Core.List.{List, [], ◌∷◌, ◌++◌, map}
use native.Mathlib.Omega.{arith}
use borrow.Author.Tests.{ne_eqb, eqb-false, ltb-false}
use lib.Dec.{T, eqb, ltb}
use lib.ListN.{length, take, drop, length-append, length-map}
use lib.Seq.{take-append_seam}
use lib.Ieee.{Float, le}
use Rattle.refusal.proofs.First.{first-zero}
use Rattle.refusal.specs.First.{first_refusal}
use Rattle.pose_bits.specs.matrix4x4.Rows.{Rows}
use Rattle.pose_bits.specs.bounds3.declared.Point3f.{Point3f}
use Rattle.pose_bits.specs.transform.Answer.{PointAnswer}
use Rattle.pose_bits.specs.pose_pair.declared.Pose.{Pose}
use Rattle.kept_poses.specs.animated_transform.declared.AnimatedTransform.{AnimatedTransform}
use Rattle.kept_poses.specs.motion_rows.Rows.{AnimatedTransform-to_rows}
use Rattle.chain_build.specs.pad_query.PadQuery.{AnimatedTransform-pad}
use Rattle.kept_poses.specs.motion_chain.Chain.{max_poses, Chain, Chain-moves, ChainAnswer, built, refused, ChainAnswer-refusal, Chain-transform_point}
use Rattle.kept_poses.specs.motion_chain.Built.{Each}
use Rattle.kept_poses.specs.motion_chain.Times.{list_refusal, PointsAnswer, PointsAnswer-append, points_at}
use Rattle.kept_poses.proofs.motion_chain.Built.{refused-built, built-same}
use Rattle.kept_poses.proofs.motion_chain.Times.{query-accepted}
use Rattle.kept_poses.specs.built_poses.Poses.{AnimatedTransform-end_pose, Chain-poses}
use Rattle.chain_build.specs.chain_rows.Kept.{Chain-to_rows, Moves-chain, Moves-transform_point, Moves-transform_points, Chain-pad}
use Rattle.chain_build.specs.chain_rows.Theorem.{Moves-Holds}
use Rattle.chain_build.proofs.chain_rows.Kept.{kept-chain, kept-point, kept-points, kept-pad, kept-cover}
use Rattle.chain_build.specs.Build.{blocks_left, ChainAnswer-left}
use Rattle.joined_chains.specs.Join.{Chain-last_pose, Chain-first_pose, Chain-joined_poses}
use Rattle.joined_chains.specs.Join.{mismatch_refusal, count_refusal, rise_refusal, Chain-join_refusal, Chain-join}
use Rattle.joined_chains.specs.Theorem.{Chain-append, AnswersAs, shared_time}
use Rattle.joined_chains.proofs.Built.{map-append, joins}
use Rattle.joined_chains.proofs.Answers.{join-answers}
use Rattle.chain_join.specs.Rows.{Moves-join_refusal, Moves-join_left}
use Rattle.chain_join.specs.Theorem.{KeptAs, UpTo, Above, KeptJoin, Joined}

-- ---- the count
poses-length : (rows : List Rows) → (length rows ≡ 0 → ⊥) → length (Chain-moves (Moves-chain rows)) ≡ length rows
unfolding Moves-chain
poses-length [] h = absurd (h refl)
poses-length (r ∷ rows) h = rw (length-map rows _)

joined-count : (first second : List Rows) → (length first ≡ 0 → ⊥) → (length second ≡ 0 → ⊥)
    → length (Chain-joined_poses (Moves-chain first) (Moves-chain second)) ≡ length first + length second + 1
unfolding Chain-joined_poses Chain-poses
joined-count first second f s =
    let c = Moves-chain first in
    let d = Moves-chain second in
    let n = length-map (Chain-moves c) AnimatedTransform-end_pose ∙ poses-length first f in
    let m = length-map (Chain-moves d) AnimatedTransform-end_pose ∙ poses-length second s in
    let e = length-append (map AnimatedTransform-end_pose (Chain-moves c)) (map AnimatedTransform-end_pose (Chain-moves d)) in
    omega (arith, n, m, e)

either-empty : (n m : ℕ) → (eqb n 0 || eqb m 0) ≡ false → (n ≡ 0 → ⊥) × (m ≡ 0 → ⊥)
either-empty n m = go (eqb n 0) (eqb m 0) (eqb-false n 0) (eqb-false m 0)
  where
    go : (a b : Bool) → (a ≡ false → n ≡ 0 → ⊥) → (b ≡ false → m ≡ 0 → ⊥) → (a || b) ≡ false → (n ≡ 0 → ⊥) × (m ≡ 0 → ⊥)
    go true b f g e = absurd (false≢true (sym e))
    go false b f g e = (f refl, g e)

above_zero : (n : ℕ) → (n ≡ 0 → ⊥) → 0 < n
above_zero zero f = absurd (f refl)
above_zero (suc n) f = omega arith

pub some-blocks : (n m : ℕ) → (eqb n 0 || eqb m 0) ≡ false → (0 < n) × (0 < m)
some-blocks n m e = let (f, g) = either-empty n m e in (above_zero n f, above_zero m g)

module _ (first second : List Rows) (some : (eqb (length first) 0 || eqb (length second) 0) ≡ false) where
  refusal-of : {mismatch count rise : ℕ} → mismatch ≡ mismatch_refusal (Moves-chain first) (Moves-chain second)
      → count ≡ count_refusal (length first + length second + 1)
      → rise ≡ rise_refusal (Chain-joined_poses (Moves-chain first) (Moves-chain second))
      → first_refusal mismatch (first_refusal count rise) ≡ Moves-join_refusal first second
  unfolding Moves-join_refusal Chain-join_refusal
  refusal-of e f g = let (n, m) = either-empty (length first) (length second) some in rw (some, joined-count first second n m, ← e, ← f, ← g)

-- ---- rows that building left
module _ (first second : List Rows) (c d : Chain) (h : Moves-Holds first c) (k : Moves-Holds second d) where
  not-empty : (rows : List Rows) (e : Chain) → rows ≡ Chain-to_rows e → eqb (length rows) 0 ≡ false
  not-empty rows e same = ap (λ (l : List Rows). eqb (length l) 0) same ∙ ne_eqb (length (Chain-to_rows e)) 0 (λ z. absurd (omega (arith, z)))

  own-refusal : Moves-join_refusal first second ≡ Chain-join_refusal c d
  unfolding Moves-join_refusal
  own-refusal = rw (not-empty first c h.same, not-empty second d k.same, kept-chain first c h.same, kept-chain second d k.same)

  rows_append : first ++ second ≡ Chain-to_rows (Chain-append c d)
  rows_append = rw (h.same, k.same) (sym (map-append AnimatedTransform-to_rows (Chain-moves c) (Chain-moves d)))

  same-pads : {e : Chain} {other : Chain} {time : Float} → AnswersAs e other time → Chain-pad e time ≡ Chain-pad other time
  unfolding Chain-pad
  same-pads {e} {other} {time} a = ap (λ (m : AnimatedTransform). AnimatedTransform-pad m time) a.move

  kept-as : (rows other : List Rows) (e o : Chain) (time : Float) → rows ≡ Chain-to_rows e → other ≡ Chain-to_rows o → AnswersAs e o time → KeptAs rows other time
  kept-as rows other e o time same own a = record {
    point = λ p. kept-point rows e time p same ∙ a.point p ∙ sym (kept-point other o time p own);
    pad = kept-pad rows e time same ∙ same-pads a ∙ sym (kept-pad other o time own);
  }

  same-query : (rows : List Rows) (e : Chain) (p : Point3f) → rows ≡ Chain-to_rows e
      → ◌≡◌ {A = Float → PointAnswer} (λ t. Chain-transform_point e t p) (λ t. Moves-transform_point rows t p)
  same-query rows e p same i t = sym (kept-point rows e t p same) i

  kept-join : (rows : List Rows) → rows ≡ first ++ second → KeptJoin first second rows
  kept-join rows own =
      let e = Chain-append c d in
      let same = own ∙ rows_append in
      let chain = kept-chain first c h.same in
      let a = join-answers c d h.built in
      record {
        up_to = λ time l. kept-as rows first e c time same h.same (a.up_to time (rw chain at l));
        above = λ time l. kept-as rows second e d time same k.same (a.above time (rw chain at l));
        times = λ early late p places l u z.
            kept-points rows e (early ++ late) p places same
            ∙ query-accepted e (early ++ late) p places z
            ∙ a.times early late p (subst (λ (x : Chain). Each (λ t. T (le t (shared_time x))) early) chain l)
            (subst (λ (x : Chain). Each (λ t. T (not (le t (shared_time x)))) late) chain u)
            ∙ ap (λ (f : Float → PointAnswer). PointsAnswer-append (points_at f early) (points_at (λ t. Chain-transform_point d t p) late))
            (same-query first c p h.same)
            ∙ ap (λ (f : Float → PointAnswer). PointsAnswer-append (points_at (λ t. Moves-transform_point first t p) early) (points_at f late))
            (same-query second d p k.same);
        cover = λ b depth.
            kept-cover rows e b depth same ∙ a.cover b depth ∙ sym (rw (kept-cover first c b depth h.same, kept-cover second d b depth k.same));
      }

-- ---- the clauses
abbrev pub Clauses : List Rows → List Rows → List Rows → List Rows → ℕ → Type 0
Clauses first second old new r =
    (r ≡ Moves-join_refusal first second)
    × ((new ≡ Moves-join_left first second old)
    × ((c d : Chain) → Moves-Holds first c → Moves-Holds second d → Joined first second old new r c d))

refused-clauses : (first second old : List Rows) {r : ℕ} → r ≡ Moves-join_refusal first second → (r ≡ 0 → ⊥) → Clauses first second old old r
unfolding Moves-join_left Chain-join
refused-clauses first second old {r} e f = (
  e,
  (
    rw (← e, ne_eqb r 0 f),
    λ c d h k.
        let n : r ≡ Chain-join_refusal c d = e ∙ own-refusal first second c d h k in
        let same : Chain-join c d ≡ refused r = rw (← n, ne_eqb r 0 f) in
        record {
          refusal = sym (ap ChainAnswer-refusal same);
          left = sym (ap (λ (a : ChainAnswer). ChainAnswer-left a old) same);
          holds = λ x b. absurd (refused-built (sym same ∙ b));
          answers = λ z. absurd (f z);
        },
  ),
)

pub no-moves : (first second old : List Rows) → (eqb (length first) 0 || eqb (length second) 0) ≡ true → Clauses first second old old 12
no-moves first second old e = refused-clauses first second old (unfold Moves-join_refusal in rw e) (λ z. absurd (omega (arith, z)))

module _ (first second old : List Rows) (some : (eqb (length first) 0 || eqb (length second) 0) ≡ false)
    {mismatch count rise later r : ℕ} (e : mismatch ≡ mismatch_refusal (Moves-chain first) (Moves-chain second))
    (f : count ≡ count_refusal (length first + length second + 1))
    (g : rise ≡ rise_refusal (Chain-joined_poses (Moves-chain first) (Moves-chain second)))
    (l : later ≡ first_refusal count rise)
    (n : r ≡ first_refusal mismatch later) where
  number_of : r ≡ Moves-join_refusal first second
  number_of = n ∙ ap (first_refusal mismatch) l ∙ refusal-of first second some e f g

  pub not-joined : (r ≡ 0 → ⊥) → Clauses first second old old r
  not-joined h = refused-clauses first second old number_of h

  pub has_room : r ≡ 0 → length first + length second ≤ 31
  has_room z = go (ltb max_poses (length first + length second + 1))
      (ltb-false max_poses (length first + length second + 1)) (sym f ∙ (first-zero count rise (sym l ∙ (first-zero mismatch later (sym n ∙ z)).1)).0)
    where
      go : (b : Bool) → (b ≡ false → length first + length second + 1 ≤ max_poses) → ◌≡◌ {A = ℕ} (cond b 12 0) 0 → length first + length second ≤ 31
      go true t x = absurd (omega (arith, x))
      go false t x = let y = t refl in omega (arith, y)

  pub all-joined : (mismatch ≡ 0 → Chain-last_pose (Moves-chain first) ≡ Chain-first_pose (Moves-chain second))
      → r ≡ 0 → {new : List Rows} → new ≡ blocks_left (first ++ second) old → Clauses first second old new 0
  unfolding Moves-join_left
  all-joined same z {new} w =
      let number : 0 ≡ Moves-join_refusal first second = sym z ∙ number_of in
      let poses = same (first-zero mismatch later (sym n ∙ z)).0 in
      (number, (rw (← number) w, λ c d h k. joined number poses w c d h k))
    where
      joined : 0 ≡ Moves-join_refusal first second → Chain-last_pose (Moves-chain first) ≡ Chain-first_pose (Moves-chain second)
          → {new : List Rows} → new ≡ blocks_left (first ++ second) old
          → (c d : Chain) → Moves-Holds first c → Moves-Holds second d → Joined first second old new 0 c d
      joined number poses {new} w c d h k =
          let shared : Chain-last_pose c ≡ Chain-first_pose d = rw (← kept-chain first c h.same, ← kept-chain second d k.same) poses in
          let (made, chain) = joins c d h.built k.built shared (sym (number ∙ own-refusal first second c d h k)) in
          let rows = rows_append first second c d h k in
          let size : length first + length second ≡ length (first ++ second) = sym (length-append first second) in
          let front-rows : take (length first + length second) new ≡ first ++ second =
          rw (w, size) (take-append_seam (first ++ second) (drop (length (first ++ second)) old)) in
          record {
            refusal = sym (ap ChainAnswer-refusal made);
            left = w ∙ ap (λ (l : List Rows). blocks_left l old) rows ∙ sym (ap (λ (a : ChainAnswer). ChainAnswer-left a old) made);
            holds = λ x b. subst (λ (y : Chain). Moves-Holds (take (length first + length second) new) y)
                (built-same (sym made ∙ b)) (record { built = chain; same = front-rows ∙ rows });
            answers = λ _. kept-join first second c d h k (take (length first + length second) new) front-rows;
          }
