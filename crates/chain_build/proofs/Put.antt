-- The rows of pairs put one after the other, `put`, one more of them, `put_next`, are at the front places, `put_front`, where there are places enough.
use Prim.Native.Nat.{ℕ, suc, ◌+◌, ◌-◌, ◌≤◌}
use mathlib.Core.Path.{◌≡◌, refl, ap, ◌∙◌}
use mathlib.Core.Bool.{Bool}
use mathlib.Core.List.{List, [], ◌∷◌, ◌++◌, map, append_assoc}
use native.Mathlib.Omega.{arith}
use lib.ListN.{length, set, drop, length-map}
use lib.Seq.{set-append_seam, append_snoc}
use Rattle.lent_arrays.specs.matrix4x4.Rows.{Rows}
use Rattle.lent_arrays.specs.pose_pair.declared.Pose.{Pose}
use Rattle.chain_build.specs.Build.{blocks_left}
use Rattle.chain_build.specs.means.Pairs.{Pair-rows}

-- The rows of each pair's move, from place i on.
unfoldable pub put : Bool → List Rows → ℕ → List (Pose × Pose) → List Rows
put rigid blocks i [] = blocks
put rigid blocks i (pair ∷ pairs) = put rigid (set blocks i (Pair-rows rigid pair)) (suc i) pairs

length-behind : (done : List Rows) (x : Rows) → length (done ++ x ∷ []) ≡ suc (length done)
length-behind [] x = refl
length-behind (d ∷ done) x = ap suc (length-behind done x)

put-behind : (rigid : Bool) (pairs : List (Pose × Pose)) (done rest : List Rows) → length pairs ≤ length rest
    → put rigid (done ++ rest) (length done) pairs ≡ done ++ (map (Pair-rows rigid) pairs ++ drop (length pairs) rest)
unfolding put
put-behind rigid [] done rest h = refl
put-behind rigid (pair ∷ pairs) done [] h = absurd (omega (arith, h))
put-behind rigid (pair ∷ pairs) done (y ∷ rest) h =
    let x = Pair-rows rigid pair in
    let all = map (Pair-rows rigid) pairs ++ drop (length pairs) rest in
    rw (set-append_seam done y rest x, ← append_snoc done x rest, ← length-behind done x)
    (put-behind rigid pairs (done ++ x ∷ []) rest (omega (arith, h)) ∙ append_assoc done (x ∷ []) all)

pub put_front : (rigid : Bool) (pairs : List (Pose × Pose)) (old : List Rows)
    → length pairs ≤ length old → put rigid old 0 pairs ≡ blocks_left (map (Pair-rows rigid) pairs) old
put_front rigid pairs old h = rw (length-map pairs (Pair-rows rigid)) (put-behind rigid pairs [] old h)

-- The loop's i is the place of the pair's second pose.
pub put_next : (rigid : Bool) (blocks : List Rows) (i : ℕ) (pair : Pose × Pose) (pairs : List (Pose × Pose)) {u : List Rows}
    → 1 ≤ i → u ≡ set blocks (i - 1) (Pair-rows rigid pair)
    → put rigid u (i + 1 - 1) pairs ≡ put rigid blocks (i - 1) (pair ∷ pairs)
unfolding put
put_next rigid blocks i pair pairs l e = let n : i + 1 - 1 ≡ suc (i - 1) = omega (arith, l) in rw (n, e)
