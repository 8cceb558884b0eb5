-- Which move of a built chain a time belongs to, `move_at`, and that its place does not fall where the time does not, `move-index`. A
-- time that belongs to a later move is above the end time of every earlier one, since the times rise along the chain (`starts-later`).
use Prim.Native.Nat.{suc, ◌≤◌}
use mathlib.Core.Path.{◌≡◌, refl, subst}
use mathlib.Core.Bool.{Bool, true, false, not, cond}
use mathlib.Core.List.{List, [], ◌∷◌}
use native.Mathlib.Omega.{arith}
use lib.Dec.{T}
use lib.ListN.{length, get_or}
use lib.Ieee.{Float, le}
use lib.Ieee.Bits.{is_true}
use Rattle.bounds_answers.specs.rounding.Order.{◌≼◌, Number}
use Rattle.bounds_answers.proofs.rounding.Order.{≼_refl, ≼_trans, number-right, lt-≼}
use Rattle.bounds_answers.specs.animated_transform.declared.AnimatedTransform.{AnimatedTransform}
use Rattle.motion_chain.specs.Chain.{Chain, move_from, Chain-move_at}
use Rattle.motion_chain.specs.Built.{BuiltChain, Each, Contiguous}
use Rattle.motion_chain.specs.MoveAt.{last_from, index_from, MoveAt, MoveIndex}
use Rattle.motion_chain.proofs.Built.{built-moves}

-- ---- starts along a chain
starts-later : (time : Float) (moves : List AnimatedTransform) → Number time → Contiguous time moves → Each (λ m. time ≼ m.start_time) moves
starts-later time [] n c = tt
starts-later time (m ∷ moves) n (s, r, c) =
    let rise = lt-≼ m.start_time m.end_time r in
    let up : time ≼ m.end_time = subst (λ (t : Float). t ≼ m.end_time) s rise in
    (rw s (≼_refl time n), later moves up (starts-later m.end_time moves (number-right rise) c))
  where
    later : (ms : List AnimatedTransform) → time ≼ m.end_time → Each (λ x. m.end_time ≼ x.start_time) ms → Each (λ x. time ≼ x.start_time) ms
    later [] up h = tt
    later (x ∷ ms) up (h, hs) = (≼_trans up h, later ms up hs)

-- Above a start time is above every time up to it.
pub above_earlier : {t s : Float} (time : Float) → T (not (le time s)) → t ≼ s → le time t ≡ false
above_earlier {t} {s} time h k = go (le time t) (λ e. (≼_trans {x = time} (record { holds = e }) k).holds)
  where
    go : (b : Bool) → (T b → T (le time s)) → b ≡ false
    go false f = refl
    go true f = absurd (subst (λ (x : Bool). T (not x)) (is_true (le time s) (f tt)) h)

-- ---- the move
module _ (time : Float) where
  pub first-move : (m : AnimatedTransform) (moves : List AnimatedTransform) → T (le time m.end_time) → move_from m moves time ≡ m
  unfolding move_from
  first-move m [] h = refl
  first-move m (next ∷ moves) h = rw (is_true (le time m.end_time) h)

  pub later-move : (m next : AnimatedTransform) (moves : List AnimatedTransform)
      → le time m.end_time ≡ false → move_from m (next ∷ moves) time ≡ move_from next moves time
  unfolding move_from
  later-move m next moves h = rw h

  abbrev Belongs : AnimatedTransform → AnimatedTransform → Type 0
  Belongs answer m = T (not (le time m.start_time)) → T (le time m.end_time) → answer ≡ m

  inner-move : (s : Float) (m : AnimatedTransform) (moves : List AnimatedTransform)
      → Contiguous s (m ∷ moves) → Each (Belongs (move_from m moves time)) (m ∷ moves)
  inner-move s m [] c = (λ _ h. first-move m [] h, tt)
  inner-move s m (next ∷ moves) (e, r, c) =
      let n = number-right (lt-≼ m.start_time m.end_time r) in
      (λ _ h. first-move m (next ∷ moves) h, later (next ∷ moves) (starts-later m.end_time (next ∷ moves) n c) (inner-move m.end_time next moves c))
    where
      later : (ms : List AnimatedTransform) → Each (λ x. m.end_time ≼ x.start_time) ms → Each (Belongs (move_from next moves time)) ms
          → Each (Belongs (move_from m (next ∷ moves) time)) ms
      later [] k b = tt
      later (x ∷ ms) (k, ks) (b, bs) = (λ h l. rw (later-move m next moves (above_earlier time h k)) (b h l), later ms ks bs)

  each_last : (P : AnimatedTransform → Type 0) (m : AnimatedTransform) (moves : List AnimatedTransform) → Each P (m ∷ moves) → P (last_from m moves)
  unfolding last_from
  each_last P m [] (h, _) = h
  each_last P m (next ∷ moves) (h, hs) = each_last P next moves hs

  last-move : (s : Float) (m : AnimatedTransform) (moves : List AnimatedTransform)
      → Contiguous s (m ∷ moves) → T (not (le time (last_from m moves).start_time))
      → move_from m moves time ≡ last_from m moves
  unfolding last_from move_from
  last-move s m [] c h = refl
  last-move s m (next ∷ moves) (e, r, c) h =
      let n = number-right (lt-≼ m.start_time m.end_time r) in
      let k = each_last (λ (x : AnimatedTransform). m.end_time ≼ x.start_time) next moves (starts-later m.end_time (next ∷ moves) n c) in
      rw (above_earlier time h k) (last-move m.end_time next moves c h)

pub move_at : {c : Chain} → BuiltChain c → (time : Float) → MoveAt c time
unfolding Chain-move_at
move_at {c} built time =
    let k = (built-moves built).contiguous in
    record {
      first = first-move time c.first c.rest;
      inner = inner-move time c.first.start_time c.first c.rest k;
      last = last-move time c.first.start_time c.first c.rest k;
    }

-- ---- its place
index_below : (m : AnimatedTransform) (moves : List AnimatedTransform) (time : Float) → index_from m moves time ≤ length moves
unfolding index_from
index_below m [] time = omega arith
index_below m (next ∷ moves) time = go (le time m.end_time) (index_below next moves time)
  where
    go : (b : Bool) → index_from next moves time ≤ length moves → cond b 0 (suc (index_from next moves time)) ≤ suc (length moves)
    go true h = omega arith
    go false h = omega (arith, h)

index-move : (m : AnimatedTransform) (moves : List AnimatedTransform) (time : Float) (d : AnimatedTransform)
    → move_from m moves time ≡ get_or (m ∷ moves) (index_from m moves time) d
unfolding index_from move_from
index-move m [] time d = refl
index-move m (next ∷ moves) time d = go (le time m.end_time) (index-move next moves time d)
  where
    go : (b : Bool) → move_from next moves time ≡ get_or (next ∷ moves) (index_from next moves time) d
        → cond b m (move_from next moves time) ≡ get_or (m ∷ next ∷ moves) (cond b 0 (suc (index_from next moves time))) d
    go true h = refl
    go false h = h

index-rises : (m : AnimatedTransform) (moves : List AnimatedTransform) (t u : Float) → t ≼ u → index_from m moves t ≤ index_from m moves u
unfolding index_from
index-rises m [] t u h = omega arith
index-rises m (next ∷ moves) t u h =
    go (le t m.end_time) (le u m.end_time) (λ k. (≼_trans h (record { holds = k })).holds) (index-rises next moves t u h)
  where
    go : (b c : Bool) → (T c → T b) → index_from next moves t ≤ index_from next moves u
        → cond b 0 (suc (index_from next moves t)) ≤ cond c 0 (suc (index_from next moves u))
    go true c f h = omega arith
    go false true f h = absurd (f tt)
    go false false f h = omega (arith, h)

pub move-index : (c : Chain) → MoveIndex c
unfolding Chain-move_at
move-index c = record {
  below = λ time. let h = index_below c.first c.rest time in omega (arith, h);
  move = λ time. index-move c.first c.rest time c.first;
  rises = index-rises c.first c.rest;
}
