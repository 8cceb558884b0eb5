-- A box cut into 1 to 16 parts along its longest axis. Definitions only. Quotations are of docs/SPECIFICATION.md, "Added: reach".
-- A width that overflows is +infinity, and the longest; then every inner face is the high end and the first part is the box.
use Rattle.std.specs.Prelude.{ℕ, zero, suc, Bool, false, not, ◌||◌, cond, List, [], ◌∷◌, ◌++◌, eqb, ltb, Float}
use Rattle.std.specs.Float.{binary32}
use Rattle.std.specs.Float.Ieee.{lt, round}
use Rattle.own_rounding.specs.float32.Operators.{◌⊕◌, ◌⊖◌, ◌⊗◌}
use Rattle.own_rounding.specs.float32.MinMax.{min_num}
use Rattle.bounds_query.specs.bounds3.declared.Point3f.{Point3f}
use Rattle.bounds_query.specs.bounds3.declared.Bounds3f.{Bounds3f}
use Rattle.bounds_query.specs.bounds3.List.{Bounds3f-list}
use Rattle.bounds_query.specs.Query.{Bounds3f-refusal}
use Rattle.lent_laws.specs.Front.{in_front}

-- "a number n of parts, 1 to 16"
abbrev pub max_parts : ℕ
max_parts = 16

-- "14 for n of 0 or above 16, then 6 and 7 of the box"; 0 is none
unfoldable pub cut_refusal : Bounds3f → ℕ → ℕ
cut_refusal b n = cond (eqb n 0 || ltb max_parts n) 14 (Bounds3f-refusal b)

-- "i / n", rounded
unfoldable pub fraction : ℕ → ℕ → Float
fraction n i = round binary32 false i n

-- "least(low + (high - low) * (i / n), high), each operation rounded to nearest even"
unfoldable pub inner_face : Float → Float → Float → Float
inner_face low high q = min_num (low ⊕ (high ⊖ low) ⊗ q) high

-- "Face 0 is the low end, face n the high end, face i between them"
unfoldable pub face : Float → Float → ℕ → ℕ → Float
face low high n i = cond (eqb i 0) low (cond (eqb i n) high (inner_face low high (fraction n i)))

-- "the greatest of high - low, rounded, the first of equals": whether x is the longest axis, and where it isn't whether y is
unfoldable pub longest_x : Bounds3f → Bool
longest_x b =
    let l = b.p_min in
    let h = b.p_max in
    not (lt (h.x ⊖ l.x) (h.y ⊖ l.y) || lt (h.x ⊖ l.x) (h.z ⊖ l.z))

unfoldable pub longest_y : Bounds3f → Bool
longest_y b =
    let l = b.p_min in
    let h = b.p_max in
    not (lt (h.y ⊖ l.y) (h.z ⊖ l.z))

-- The box from low to high on one axis, and as b on the others.
abbrev pub with_x : Bounds3f → Float → Float → Bounds3f
with_x b low high = record {
  p_min = record { x = low; y = b.p_min.y; z = b.p_min.z };
  p_max = record { x = high; y = b.p_max.y; z = b.p_max.z };
}

abbrev pub with_y : Bounds3f → Float → Float → Bounds3f
with_y b low high = record {
  p_min = record { x = b.p_min.x; y = low; z = b.p_min.z };
  p_max = record { x = b.p_max.x; y = high; z = b.p_max.z };
}

abbrev pub with_z : Bounds3f → Float → Float → Bounds3f
with_z b low high = record {
  p_min = record { x = b.p_min.x; y = b.p_min.y; z = low };
  p_max = record { x = b.p_max.x; y = b.p_max.y; z = high };
}

-- "Part i goes from face i to face i + 1 on that axis and is the box on the others."
unfoldable pub Bounds3f-part : Bounds3f → ℕ → ℕ → Bounds3f
Bounds3f-part b n i =
    let l = b.p_min in
    let h = b.p_max in
    cond (longest_x b) (with_x b (face l.x h.x n i) (face l.x h.x n (suc i)))
    (cond (longest_y b) (with_y b (face l.y h.y n i) (face l.y h.y n (suc i)))
    (with_z b (face l.z h.z n i) (face l.z h.z n (suc i))))

-- The first k of n parts, as coordinates.
unfoldable pub Bounds3f-parts : Bounds3f → ℕ → ℕ → List (List Float)
Bounds3f-parts b n zero = []
Bounds3f-parts b n (suc k) = Bounds3f-parts b n k ++ (Bounds3f-list (Bounds3f-part b n k) ∷ [])

-- What is left in lent places that had `old`: the parts in the first, the others as they came; a refusal leaves all as they came.
unfoldable pub Bounds3f-cut : Bounds3f → ℕ → List (List Float) → List (List Float)
Bounds3f-cut b n old = cond (eqb (cut_refusal b n) 0) (in_front (Bounds3f-parts b n n) old) old
