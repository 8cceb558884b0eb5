-- The promises of the query in the words of who keeps the chain, of the masks that are left: `kept-dry`, `kept-dry-always`, `kept-finer`, `kept-covered`. And the
-- clauses of the query, return by return: `no-moves`, `arguments-refused`, `windows-refused`, `reach-done`.
use Prim.Native.Nat.{ℕ, zero, suc, ◌+◌, ◌-◌, ◌≤◌, ◌<◌}
use mathlib.Core.Path.{◌≡◌, refl, sym, ap, subst, ◌∙◌}
use mathlib.Core.Bool.{Bool, true, false, cond}
use mathlib.Core.List.{List, [], ◌∷◌, ◌++◌, map, Memᴰ}
use native.Mathlib.Omega.{arith}
use borrow.Author.Tests.{eq-eqb, ne_eqb}
use lib.Dec.{eqb}
use lib.ListN.{length, get_or, take, replicate, length-map}
use lib.Seq.{take-append_seam}
use lib.Ieee.{Float}
use Rattle.reached_rows.specs.refusal_below.First.{first_refusal}
use Rattle.reached_rows.proofs.refusal_below.First.{first-stands, first-left, first-zero}
use Rattle.bounds_query.specs.matrix4x4.Rows.{Rows}
use Rattle.bounds_query.specs.bounds3.declared.Point3f.{Point3f}
use Rattle.bounds_query.specs.bounds3.declared.Bounds3f.{Bounds3f}
use Rattle.bounds_query.specs.bounds3.Inside.{Inside}
use Rattle.bounds_query.specs.transform.declared.BoundsAnswer.{BoundsAnswer}
use Rattle.bounds_query.specs.bounds3.Bounds3f.{Bounds3f-from_point}
use Rattle.bounds_query.specs.transform.Answer.{PointAnswer, origin, PointAnswer-refusal, BoundsAnswer-bounds}
use Rattle.reached_rows.specs.bounds_overlap.Meets.{Bounds3f-meets}
use Rattle.reached_rows.specs.motion_chain.Chain.{Chain, Chain-transform_point, stage}
use Rattle.reached_rows.specs.motion_chain.Built.{BuiltChain}
use Rattle.reached_rows.specs.motion_chain.TwoPoses.{Chain-single}
use Rattle.reached_rows.specs.chain_rows.Kept.{Chain-to_rows, Moves-chain, Moves-transform_point, Moves-pad_at}
use Rattle.reached_rows.specs.chain_rows.Theorem.{Moves-Built, chain-built, move-built}
use Rattle.reached_rows.proofs.chain_rows.Kept.{kept-chain, kept-point}
use Rattle.reached_rows.specs.chain_window.Theorem.{BuiltMoves, built-chain, built-move}
use Rattle.reached_rows.specs.window_meetings.Windows.{windows_of}
use Rattle.window_times.specs.declared.Window.{Window}
use Rattle.reached_rows.specs.chain_window.Cover.{Chain-window_cover}
use Rattle.reached_rows.specs.window_meetings.Theorem.{padded, tick_window}
use Rattle.reached_rows.specs.window_cover.Kept.{Moves-window_cover}
use Rattle.lent_laws.specs.Front.{in_front}
use Rattle.lent_laws.proofs.Front.{front_at}
use Rattle.reached_rows.specs.Theorem.{row_at, RowApart}
use Rattle.reach_window.specs.reach_rows.Named.{max_rows}
use Rattle.reach_window.specs.reach_laws.Reach.{bit, arguments_refusal, covers_refusal, Chain-reach_refusal, row_mask, Chain-reach}
use Rattle.reach_window.specs.reach_laws.Theorem.{Dry}
use Rattle.reach_window.proofs.reach_laws.Reach.{reach-dry, reach-covered, reach-finer}
use Rattle.reach_window.proofs.reach_laws.Always.{reach-dry-always}
use Rattle.reach_window.specs.Named.{Moves-window_refusal}
use Rattle.reach_kept.specs.Kept.{Moves-reach_refusal, Moves-reach_left, mask_at, KeptReachDry, KeptReachDryAlways, KeptReachFiner, KeptReachCovered}
use Rattle.reach_kept.specs.declared.Found.{Found}
use Rattle.reach_kept.specs.means.Masks.{Found-Is}
use Rattle.reach_kept.proofs.Judged.{Passed, passed, covers-passed, windows-covers}

-- ---- what building has left
record KeptMoves (moves : List Rows) : Type 0 where
  chain : Chain
  built : BuiltMoves chain
  same : moves ≡ Chain-to_rows chain

kept-moves : {moves : List Rows} → Moves-Built moves → KeptMoves moves
kept-moves (chain-built c h) = record { chain = c; built = built-chain h.built; same = h.same }
kept-moves (move-built block m e h) =
    record { chain = Chain-single m; built = built-move m refl h.built; same = e ∙ ap (λ (r : Rows). r ∷ []) h.same }

dry-apart : {moves : List Rows} (k : KeptMoves moves) (time : Float) (p : Point3f) (row : Bounds3f) → Dry (Moves-chain moves) time p row → RowApart moves time p row
dry-apart {moves} k time p row d =
    let point : Moves-transform_point moves time p ≡ Chain-transform_point (Moves-chain moves) time p =
    kept-point moves k.chain time p k.same ∙ ap (λ (c : Chain). Chain-transform_point c time p) (sym (kept-chain moves k.chain k.same)) in
    record {
      answered = ap PointAnswer-refusal point ∙ d.answered;
      apart = λ q i j. d.apart q (subst (λ (a : PointAnswer). Inside (padded (Moves-pad_at moves time) a) q) point i) j;
    }

-- ---- the masks
map_at : {A B : Type 0} (f : A → B) (items : List A) (i : ℕ) (x : B) (y : A) → i < length items → get_or (map f items) i x ≡ f (get_or items i y)
map_at f [] i x y h = absurd (omega (arith, h))
map_at f (a ∷ items) zero x y h = refl
map_at f (a ∷ items) (suc i) x y h = map_at f items i x y (omega (arith, h))

member-at : {A : Type 0} (items : List A) (i : ℕ) (x : A) → i < length items → Memᴰ (get_or items i x) items
member-at [] i x h = absurd (omega (arith, h))
member-at (a ∷ items) zero x h = Memᴰ.head refl
member-at (a ∷ items) (suc i) x h = Memᴰ.tail (member-at items i x (omega (arith, h)))

module _ (moves : List Rows) (boxes : List Bounds3f) (depth : ℕ) (ticks : List Float) (rows : List Bounds3f) where
  abbrev c : Chain
  c = Moves-chain moves

  reach-masks : Chain-reach_refusal c boxes depth ticks rows ≡ 0 → Chain-reach c boxes depth ticks rows ≡ map (row_mask c boxes depth ticks) rows
  unfolding Chain-reach
  reach-masks e = rw (eq-eqb (Chain-reach_refusal c boxes depth ticks rows) 0 e)

  kept-number : (length moves ≡ 0 → ⊥) → Moves-reach_refusal moves boxes depth ticks rows ≡ Chain-reach_refusal c boxes depth ticks rows
  unfolding Moves-reach_refusal
  kept-number some = rw (ne_eqb (length moves) 0 some)

module _ (moves : List Rows) (boxes : List Bounds3f) (depth : ℕ) (ticks : List Float) (rows : List Bounds3f) (some : length moves ≡ 0 → ⊥)
    (accepted : Chain-reach_refusal (Moves-chain moves) boxes depth ticks rows ≡ 0) (old : List ℕ) (few : length rows ≤ max_rows) (room : length old ≡ max_rows) where
  abbrev chain : Chain
  chain = Moves-chain moves

  abbrev masks : List ℕ
  masks = map (row_mask chain boxes depth ticks) rows

  abbrev left : List ℕ
  left = in_front masks old

  left_at : (i : ℕ) → i < length rows → mask_at left i ≡ row_mask chain boxes depth ticks (row_at rows i)
  left_at i h =
      let size = length-map rows (row_mask chain boxes depth ticks) in
      front_at masks old 0 i (omega (arith, h, size)) (omega (arith, h, few, room)) ∙ map_at (row_mask chain boxes depth ticks) rows i 0 (Bounds3f-from_point origin) h

  own : (k : KeptMoves moves) → BuiltMoves chain
  own k = subst BuiltMoves (sym (kept-chain moves k.chain k.same)) k.built

  pub kept-dry : KeptReachDry moves boxes ticks rows left
  kept-dry i k b time p built h mb l off t inside =
      let m = kept-moves built in
      dry-apart m time p (row_at rows i)
      (reach-dry chain boxes depth ticks rows (row_at rows i) b k time p (own m) accepted (member-at rows i (Bounds3f-from_point origin) h) mb l
      (ap (bit k) (sym (left_at i h)) ∙ off) t inside)

  pub kept-dry-always : KeptReachDryAlways moves boxes ticks rows left
  kept-dry-always i b time p built h mb first last off number inside =
      let m = kept-moves built in
      dry-apart m time p (row_at rows i)
      (reach-dry-always chain boxes depth ticks rows (row_at rows i) b time p (own m) accepted (member-at rows i (Bounds3f-from_point origin) h) mb first last
      (sym (left_at i h) ∙ off) number inside)

  cover-same : (b : Bounds3f) (w : Window) → Chain-window_cover chain b depth w ≡ Moves-window_cover moves b depth w
  unfolding Moves-window_cover
  cover-same b w = rw (ne_eqb (length moves) 0 some)

  pub kept-covered : KeptReachCovered moves boxes depth ticks rows left
  kept-covered i k h l on =
      let v = reach-covered chain boxes depth ticks rows (row_at rows i) k accepted (member-at rows i (Bounds3f-from_point origin) h) l (ap (bit k) (sym (left_at i h)) ∙ on) in
      record {
        box = v.box;
        member = v.member;
        meets = ap (λ (r : BoundsAnswer). Bounds3f-meets (BoundsAnswer-bounds r) (row_at rows i)) (sym (cover-same v.box (tick_window ticks k))) ∙ v.meets;
      }

  pub kept-finer : KeptReachFiner moves boxes depth ticks rows left
  kept-finer c finer h l most =
      let n = finer - depth in
      let same : depth + n ≡ finer = omega (arith, l) in
      let built = subst BuiltChain (sym (kept-chain moves c h.same)) h.built in
      let v = reach-finer chain boxes ticks rows depth n built (omega (arith, same, most)) accepted in
      let deeper : Chain-reach_refusal chain boxes finer ticks rows ≡ 0 = subst (λ (d : ℕ). Chain-reach_refusal chain boxes d ticks rows ≡ 0) same v.accepted in
      record {
        accepted = kept-number moves boxes finer ticks rows some ∙ deeper;
        bits = λ i k b.
            let own-mask : mask_at (Chain-reach chain boxes finer ticks rows) i ≡ row_mask chain boxes finer ticks (row_at rows i) =
            ap (λ (m : List ℕ). mask_at m i) (reach-masks moves boxes finer ticks rows deeper)
            ∙ map_at (row_mask chain boxes finer ticks) rows i 0 (Bounds3f-from_point origin) b in
            let fewer : bit k (row_mask chain boxes finer ticks (row_at rows i)) ≤ bit k (row_mask chain boxes depth ticks (row_at rows i)) =
            subst (λ (d : ℕ). bit k (row_mask chain boxes d ticks (row_at rows i)) ≤ bit k (row_mask chain boxes depth ticks (row_at rows i))) same
            (v.bits (row_at rows i) (member-at rows i (Bounds3f-from_point origin) b) k) in
            rw (own-mask, left_at i b) fewer;
      }

-- ---- the clauses
module _ (moves : List Rows) (boxes : List Bounds3f) (depth : ℕ) (ticks : List Float) (rows : List Bounds3f) (old : List ℕ) where
  abbrev Clauses : ℕ → List ℕ → Type 0
  Clauses number new =
      (number ≡ Moves-reach_refusal moves boxes depth ticks rows)
      × ((new ≡ Moves-reach_left moves boxes depth ticks rows old)
      × ((number ≡ 0 → KeptReachDry moves boxes ticks rows new)
      × ((number ≡ 0 → KeptReachDryAlways moves boxes ticks rows new)
      × ((number ≡ 0 → KeptReachFiner moves boxes depth ticks rows new)
      × (number ≡ 0 → KeptReachCovered moves boxes depth ticks rows new)))))

  refused : {number : ℕ} → number ≡ Moves-reach_refusal moves boxes depth ticks rows → (number ≡ 0 → ⊥) → Clauses number old
  unfolding Moves-reach_left
  refused {number} e z = (e, (rw (← e, ne_eqb number 0 z), ((λ k. absurd (z k)), ((λ k. absurd (z k)), ((λ k. absurd (z k)), λ k. absurd (z k))))))

  pub no-moves : length moves ≡ 0 → Clauses 12 old
  no-moves h = refused (number h) (λ e. absurd (omega (arith, e)))
    where
      number : length moves ≡ 0 → 12 ≡ Moves-reach_refusal moves boxes depth ticks rows
      number h = unfold Moves-reach_refusal in rw (eq-eqb (length moves) 0 h) refl

  module _ (some : length moves ≡ 0 → ⊥) where
    pub arguments-refused : {number : ℕ} → number ≡ arguments_refusal boxes depth ticks rows → (number ≡ 0 → ⊥) → Clauses number old
    arguments-refused {number} e z = refused (e ∙ same ∙ sym (kept-number moves boxes depth ticks rows some)) z
      where
        same : arguments_refusal boxes depth ticks rows ≡ Chain-reach_refusal (Moves-chain moves) boxes depth ticks rows
        same = unfold Chain-reach_refusal in first-stands (arguments_refusal boxes depth ticks rows) _ (λ k. z (e ∙ k))

    module _ (none : arguments_refusal boxes depth ticks rows ≡ 0) {found : Found} (f : Found-Is moves boxes depth ticks rows found) where
      pass : Passed boxes depth ticks rows
      pass = passed boxes depth ticks rows none

      pub rows_few : length rows ≤ max_rows
      rows_few = pass.few-rows

      covers : found.refusal ≡ covers_refusal (Moves-chain moves) boxes depth (windows_of ticks)
      covers =
          f.number
          ∙ windows-covers moves boxes depth rows some pass.few-boxes pass.few-rows (covers-passed depth pass.shallow boxes pass.each-box) ticks pass.rise

      whole : covers_refusal (Moves-chain moves) boxes depth (windows_of ticks) ≡ Chain-reach_refusal (Moves-chain moves) boxes depth ticks rows
      unfolding Chain-reach_refusal
      whole = first-left (arguments_refusal boxes depth ticks rows) _ none

      pub windows-refused : (found.refusal ≡ 0 → ⊥) → Clauses found.refusal old
      windows-refused z = refused (covers ∙ whole ∙ sym (kept-number moves boxes depth ticks rows some)) z

      pub reach-done : {new : List ℕ} {n : ℕ} → found.refusal ≡ 0 → n ≡ length rows → length old ≡ max_rows → new ≡ in_front (take n found.masks) old → Clauses 0 new
      reach-done {new} {n} z count room e =
          let accepted : Chain-reach_refusal (Moves-chain moves) boxes depth ticks rows ≡ 0 = sym whole ∙ sym covers ∙ z in
          let number : Moves-reach_refusal moves boxes depth ticks rows ≡ 0 = kept-number moves boxes depth ticks rows some ∙ accepted in
          let mask = row_mask (Moves-chain moves) boxes depth ticks in
          let size : n ≡ length (map mask rows) = count ∙ sym (length-map rows mask) in
          let front : take n found.masks ≡ map mask rows =
          rw (f.masks z, size) (take-append_seam (map mask rows) (replicate (max_rows - length rows) 0)) in
          let same : new ≡ in_front (map mask rows) old = e ∙ ap (λ (l : List ℕ). in_front l old) front in
          let few = pass.few-rows in (
            sym number,
            (
              same ∙ sym (left-all number accepted),
              (
                (λ _. rw same (kept-dry moves boxes depth ticks rows some accepted old few room)),
                (
                  (λ _. rw same (kept-dry-always moves boxes depth ticks rows some accepted old few room)),
                  (
                    (λ _. rw same (kept-finer moves boxes depth ticks rows some accepted old few room)),
                    λ _. rw same (kept-covered moves boxes depth ticks rows some accepted old few room),
                  ),
                ),
              ),
            ),
          )
        where
          left-all : Moves-reach_refusal moves boxes depth ticks rows ≡ 0 → Chain-reach_refusal (Moves-chain moves) boxes depth ticks rows ≡ 0
              → Moves-reach_left moves boxes depth ticks rows old ≡ in_front (map (row_mask (Moves-chain moves) boxes depth ticks) rows) old
          left-all k a = unfold Moves-reach_left in
              rw (eq-eqb (Moves-reach_refusal moves boxes depth ticks rows) 0 k) (ap (λ (l : List ℕ). in_front l old) (reach-masks moves boxes depth ticks rows a))
