-- Where `inverse` stands after i rounds: `Reached`. It holds at the start (`reached-start`) and after a round whose pivot is not zero (`reached-next`);
-- a zero pivot settles the answer (`reached-zero_pivot`), and so does the fourth round (`reached-end`).
use mathlib.Core.Path.{◌≡◌, refl}
use mathlib.Core.Bool.{true, false}
use mathlib.Core.List.{List, [], ◌∷◌}
use mathlib.Core.Logic.{⊎_elim}
use Prim.Native.Nat.{ℕ, zero, suc, ◌+◌, ◌≤◌, ◌<◌}
use native.Mathlib.Nat.{eq-or-lt_of_le, le_of_suc-le-suc}
use native.Mathlib.Numerals.{add-one}
use native.Mathlib.Omega.{arith}
use lib.ListN.{get_or, set}
use lib.Ieee.{eq}
use Rattle.matrix4x4.specs.Rows.{Rows, at, positive_zero}
use Rattle.matrix_inverse.specs.declared.Pivot.{Pivot}
use Rattle.control_flow.specs.Loop.{loop}
use Rattle.matrix_inverse.specs.Pivot.{Pivot-search}
use Rattle.matrix_inverse.specs.Eliminate.{swap_rows, eliminate}
use Rattle.matrix_inverse.specs.RestoreColumns.{restore_columns}
use Rattle.matrix_inverse.specs.Inverse.{Elimination, zero_pivot, running, zeros, elimination_round, refused}
use Rattle.matrix_inverse.specs.Inverse.{InverseAnswer-judged, finish, Matrix4x4-inverse, AllBelow}
use Rattle.matrix_inverse.proofs.InRange.{InRange}

-- After i rounds on m₀: the matrix, the counts and the index arrays; the indices are below 4 and the counts at most i.
pub record Reached (m₀ : Rows) (i : ℕ) (m : Rows) (ipiv indxr indxc : List ℕ) : Type 0 where
  pub state : loop elimination_round i (running m₀ zeros zeros zeros) ≡ running m ipiv indxr indxc
  pub rows : AllBelow 4 indxr
  pub columns : AllBelow 4 indxc
  pub counts : AllBelow (suc i) ipiv

set_below : (n : ℕ) (xs : List ℕ) (i v : ℕ) → v < n → AllBelow n xs → AllBelow n (set xs i v)
set_below n [] i v h a k = a k
set_below n (x ∷ xs) zero v h a zero = h
set_below n (x ∷ xs) zero v h a (suc k) = a (suc k)
set_below n (x ∷ xs) (suc i) v h a zero = a zero
set_below n (x ∷ xs) (suc i) v h a (suc k) = set_below n xs i v h (λ j. a (suc j)) k

zeros-below : (n : ℕ) → AllBelow (suc n) zeros
zeros-below n zero = omega arith
zeros-below n (suc zero) = omega arith
zeros-below n (suc (suc zero)) = omega arith
zeros-below n (suc (suc (suc zero))) = omega arith
zeros-below n (suc (suc (suc (suc k)))) = omega arith

pub reached-start : (m : Rows) → Reached m 0 m zeros zeros zeros
unfolding loop
reached-start m = record { state = refl; rows = zeros-below 3; columns = zeros-below 3; counts = zeros-below 0 }

-- Once stopped, the rounds that are left change nothing.
loop-stopped : (i n : ℕ) (s : Elimination) → i ≤ n → loop elimination_round i s ≡ zero_pivot → loop elimination_round n s ≡ zero_pivot
unfolding loop elimination_round
loop-stopped i zero s h e = let z : i ≡ 0 = omega arith in rw z at e
loop-stopped i (suc n) s h e =
    ⊎_elim (λ z. rw z at e) (λ l. rw (loop-stopped i n s (le_of_suc-le-suc l) e)) (eq-or-lt_of_le h)

module _ {m₀ : Rows} {i : ℕ} {m : Rows} {ipiv indxr indxc : List ℕ} (r : Reached m₀ i m ipiv indxr indxc) where
  pub reached-end : i ≡ 4 → Matrix4x4-inverse m₀ ≡ InverseAnswer-judged (restore_columns m indxr indxc)
  unfolding Matrix4x4-inverse finish
  reached-end e = rw (rw e at r.state)

  module _ (p : Pivot) (s : Rows) (found : p ≡ Pivot-search m ipiv) (swapped : s ≡ swap_rows m p.irow p.icol) where
    pub reached-zero_pivot : i < 4 → eq (at s p.icol p.icol) positive_zero ≡ true → Matrix4x4-inverse m₀ ≡ refused 4
    unfolding Matrix4x4-inverse finish loop elimination_round
    reached-zero_pivot l z =
        rw (loop-stopped (suc i) 4 (running m₀ zeros zeros zeros) l (rw (r.state, ← found, ← swapped, z)))

    pub reached-next : (e : Rows) → InRange p → eq (at s p.icol p.icol) positive_zero ≡ false → e ≡ eliminate s p.icol
        → Reached m₀ (i + 1) e (set ipiv p.icol (get_or ipiv p.icol 0 + 1)) (set indxr i p.irow) (set indxc i p.icol)
    unfolding loop elimination_round
    reached-next e b z w =
        rw (add-one i)
        (record {
          state = rw (r.state, ← found, ← swapped, z, w);
          rows = set_below 4 indxr i p.irow b.0 r.rows;
          columns = set_below 4 indxc i p.icol b.1 r.columns;
          counts = set_below (suc (suc i)) ipiv p.icol (get_or ipiv p.icol 0 + 1) (omega (arith, r.counts p.icol)) (λ k. omega (arith, r.counts k));
        })
