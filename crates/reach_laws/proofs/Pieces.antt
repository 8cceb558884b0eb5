-- One window and one box of the boom. A row that none of the window's boxes meets is dry (`row-dry`), since one of them holds the padded point
-- (chain_window's `window-box`); a row that one of them meets meets their union (`row-covered`). Each box at a greater depth lies in some box at the lesser
-- (chain_window's `boxes-finer`), so that it meets no more rows (`row-finer`).
use Prim.Native.Nat.{ℕ, ◌+◌}
use mathlib.Core.Path.{◌≡◌, subst}
use mathlib.Core.List.{Memᴰ}
use lib.Dec.{T}
use lib.Ieee.{Float}
use Rattle.reach_rows.specs.rounding.Order.{◌≼◌}
use Rattle.reach_rows.specs.bounds3.declared.Point3f.{Point3f}
use Rattle.reach_rows.specs.bounds3.declared.Bounds3f.{Bounds3f}
use Rattle.reach_rows.specs.bounds3.Bounds3f.{Bounds3f-default}
use Rattle.reach_rows.specs.bounds3.Finite.{Bounds3f-is_finite}
use Rattle.reach_rows.specs.bounds3.Inside.{Inside, Subset}
use Rattle.reach_rows.proofs.bounds3.Union.{subset-inside, finite-self}
use Rattle.reach_rows.specs.transform.declared.BoundsAnswer.{BoundsAnswer}
use Rattle.reach_rows.specs.transform.declared.BoundsAnswer.TheVariants.{Bounds, Refused}
use Rattle.reach_rows.specs.transform.Answer.{BoundsAnswer-refusal, BoundsAnswer-bounds}
use Rattle.reach_rows.specs.bounds_overlap.Meets.{Bounds3f-meets}
use Rattle.reach_rows.proofs.bounds_overlap.Overlap.{shared-meets}
use Rattle.window_meetings.specs.bounds_query.Query.{max_depth}
use Rattle.window_meetings.proofs.motion_cover.Contains.{cover-box}
use Rattle.window_meetings.proofs.motion_cover.Proper.{BoxRefines, box-refines}
use Rattle.window_meetings.proofs.cover_depth.Finer.{BoxWithin, within-subset}
use Rattle.window_meetings.specs.motion_chain.Chain.{Chain, Chain-moves, Chain-transform_point, Chain-pad_at}
use Rattle.window_meetings.specs.motion_chain.Built.{BuiltChain}
use Rattle.window_meetings.specs.window_times.declared.Window.{Window}
use Rattle.window_meetings.specs.chain_window.Cover.{window_boxes, Chain-enclose_window, Chain-window_cover}
use Rattle.window_meetings.specs.chain_window.Theorem.{InWindow, BuiltMoves}
use Rattle.window_meetings.proofs.chain_window.Parts.{default-valued, union-parts}
use Rattle.window_meetings.proofs.chain_window.Boxes.{boxes-valued}
use Rattle.window_meetings.proofs.chain_window.Contains.{window-accepted, window-box}
use Rattle.window_meetings.proofs.chain_window.Numbers.{window-numbered}
use Rattle.window_meetings.proofs.chain_window.Finer.{window-rises, WithinSome, boxes-finer}
use Rattle.reach_rows.proofs.bounds_overlap.Wider.{meets-mono}
use Rattle.window_meetings.proofs.Apart.{moved-reached}
use Rattle.reach_laws.specs.Reach.{meets_row}
use Rattle.reach_laws.specs.Theorem.{Dry}
use Rattle.reach_rows.specs.Named.{some}
use Rattle.reach_rows.proofs.Some.{some_of, some-found}

-- ---- dry
pub row-dry : (c : Chain) (b : Bounds3f) (d : ℕ) (w : Window) (row : Bounds3f) (time : Float) (p : Point3f)
    → BuiltMoves c → BoundsAnswer-refusal (Chain-window_cover c b d w) ≡ 0 → (T (some (meets_row row) (window_boxes c b d w)) → ⊥)
    → InWindow w time → Inside b p → Dry c time p row
row-dry c b d w row time p built e off t i =
    let s = window-box c b d w time p built e t i in
    record {
      answered = s.moved.accepted;
      apart = λ q j k.
          off (some_of (meets_row row) (window_boxes c b d w) (Bounds s.box) s.member
          (shared-meets s.box row q (subset-inside (moved-reached c time p s.moved) j) k));
    }

-- ---- what an accepted window says of its boxes
pub record WindowParts (c : Chain) (b : Bounds3f) (d : ℕ) (w : Window) : Type 0 where
  pub rises : w.earlier ≼ w.later
  pub refines : BoxRefines b
  pub parts : (r : BoundsAnswer) → Memᴰ r (window_boxes c b d w) → BoxWithin r (BoundsAnswer-bounds (Chain-window_cover c b d w))

pub window-parts : (c : Chain) (b : Bounds3f) (d : ℕ) (w : Window) → BoundsAnswer-refusal (Chain-window_cover c b d w) ≡ 0 → WindowParts c b d w
unfolding Chain-enclose_window
window-parts c b d w e =
    let box = BoundsAnswer-bounds (Chain-window_cover c b d w) in
    let a = window-accepted c b d w box ((window-numbered c b d w).none e) in
    record {
      rises = window-rises w a.window;
      refines = box-refines b (cover-box b d a.arguments);
      parts = λ r m.
          within-subset ((union-parts (Bounds Bounds3f-default) (window_boxes c b d w) a.worked default-valued (boxes-valued c b d w) a.work).1 r m) a.around;
    }

-- A row that an answer meets is met by whatever the answer lies in.
meets-wider : (row : Bounds3f) {box : Bounds3f} (r : BoundsAnswer) → T (Bounds3f-is_finite row) → BoxWithin r box → T (meets_row row r) → T (Bounds3f-meets box row)
meets-wider row r f v t = meets-mono v.subset (finite-self f) (subst (λ (s : BoundsAnswer). T (meets_row row s)) v.accepted t)

pub row-covered : (c : Chain) (b : Bounds3f) (d : ℕ) (w : Window) (row : Bounds3f)
    → T (Bounds3f-is_finite row) → BoundsAnswer-refusal (Chain-window_cover c b d w) ≡ 0 → T (some (meets_row row) (window_boxes c b d w))
    → T (Bounds3f-meets (BoundsAnswer-bounds (Chain-window_cover c b d w)) row)
row-covered c b d w row f e t =
    let s = some-found (meets_row row) (window_boxes c b d w) t in
    meets-wider row s.item f ((window-parts c b d w e).parts s.item s.member) s.holds

-- ---- finer
module _ {c : Chain} (built : BuiltChain c) (b : Bounds3f) (w : Window) (d n : ℕ) (accepted : BoundsAnswer-refusal (Chain-window_cover c b d w) ≡ 0) where
  all : WindowParts c b d w
  all = window-parts c b d w accepted

  -- One of the boxes at the lesser depth.
  abbrev Coarse : Bounds3f → Type 0
  Coarse whole = Memᴰ (Bounds whole) (window_boxes c b d w)

  own-wider : (r : BoundsAnswer) → Memᴰ r (window_boxes c b d w) → WithinSome Coarse r
  own-wider r m =
      let v = all.parts r m in
      record {
        whole = v.box;
        kind = subst (λ (s : BoundsAnswer). Memᴰ s (window_boxes c b d w)) v.accepted m;
        within = record {
          box = v.box;
          accepted = v.accepted;
          subset = finite-self ((boxes-valued c b d w r m).values v.box v.accepted).finite;
        };
      }

  pub row-finer : (row : Bounds3f) → T (Bounds3f-is_finite row)
      → T (some (meets_row row) (window_boxes c b (d + n) w)) → T (some (meets_row row) (window_boxes c b d w))
  row-finer row f t =
      let s = some-found (meets_row row) (window_boxes c b (d + n) w) t in
      let v = boxes-finer b all.refines w all.rises d n Coarse built own-wider s.item s.member in
      some_of (meets_row row) (window_boxes c b d w) (Bounds v.whole) v.kind (meets-wider row s.item f v.within s.holds)
