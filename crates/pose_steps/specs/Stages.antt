-- The steps of pbrt's `interpolate` and `transform_point`, matrix half, as formulas: each stands beside the Rust's own lines, in their order of operations.
-- A stage has its inputs numbered in the order in which its readings list them. A matrix is three rows of four: the bottom row is the constants 0 0 0 1.
-- Definitions only.
use Rattle.std.specs.Prelude.{ℕ, ◌+◌, [], ◌∷◌}
use Rattle.std.specs.Float.{binary32}
use Rattle.std.specs.Float.Ieee.{of_bits}
use Rattle.matrix4x4.specs.float32.Operators as float
use Rattle.formula.specs.Program.{Expr, var, con, Program, ◌>>=◌, give, ◌⊕◌, ◌⊖◌, ◌⊗◌, ◌⊘◌, sqrt, sin, cos}

-- ---- names for inputs: i is the number of the first
pub record VectorExpr : Type 0 where
  pub x : Expr
  pub y : Expr
  pub z : Expr

abbrev pub vector : ℕ → VectorExpr
vector i = record { x = var i; y = var (i + 1); z = var (i + 2) }

pub record QuaternionExpr : Type 0 where
  pub x : Expr
  pub y : Expr
  pub z : Expr
  pub w : Expr

abbrev pub quaternion : ℕ → QuaternionExpr
quaternion i = record { x = var i; y = var (i + 1); z = var (i + 2); w = var (i + 3) }

pub record RowExpr : Type 0 where
  pub c0 : Expr
  pub c1 : Expr
  pub c2 : Expr
  pub c3 : Expr

abbrev pub row : ℕ → RowExpr
row i = record { c0 = var i; c1 = var (i + 1); c2 = var (i + 2); c3 = var (i + 3) }

-- ---- constants
abbrev pub zero : Expr
zero = con (of_bits binary32 0)

abbrev pub one : Expr
one = con float.one

abbrev pub two : Expr
two = con float.two

abbrev pub bottom : RowExpr
bottom = record { c0 = zero; c1 = zero; c2 = zero; c3 = one }

-- ---- `interpolate`: let trans = self.t[0] * (1.0 - dt) + self.t[1] * dt
abbrev pub translation : VectorExpr → VectorExpr → Expr → Program
translation t0 t1 dt = do
  s ← one ⊖ dt
  give (t0.x ⊗ s ⊕ t1.x ⊗ dt ∷ t0.y ⊗ s ⊕ t1.y ⊗ dt ∷ t0.z ⊗ s ⊕ t1.z ⊗ dt ∷ [])

abbrev pub translation_stage : Program
translation_stage = translation (vector 0) (vector 3) (var 6)

-- ---- `Quaternion::dot`: self.v.dot(&q1.v) + self.w * q1.w
abbrev pub dot : QuaternionExpr → QuaternionExpr → Expr
dot q q1 = q.x ⊗ q1.x ⊕ q.y ⊗ q1.y ⊕ q.z ⊗ q1.z ⊕ q.w ⊗ q1.w

-- `Quaternion::normalize`: *self / self.dot(self).sqrt(), and go on with it
abbrev pub normalize : QuaternionExpr → (QuaternionExpr → Program) → Program
normalize q k = do
  n ← sqrt (dot q q)
  x ← q.x ⊘ n
  y ← q.y ⊘ n
  z ← q.z ⊘ n
  w ← q.w ⊘ n
  k (record { x = x; y = y; z = z; w = w })

-- ---- `slerp`, cos_theta > 0.9995: (*q1 * (1.0 - t) + *q2 * t).normalize()
abbrev pub slerp_near : QuaternionExpr → QuaternionExpr → Expr → Program
slerp_near q1 q2 t = do
  s ← one ⊖ t
  x ← q1.x ⊗ s ⊕ q2.x ⊗ t
  y ← q1.y ⊗ s ⊕ q2.y ⊗ t
  z ← q1.z ⊗ s ⊕ q2.z ⊗ t
  w ← q1.w ⊗ s ⊕ q2.w ⊗ t
  normalize (record { x = x; y = y; z = z; w = w }) (λ q. give (q.x ∷ q.y ∷ q.z ∷ q.w ∷ []))

abbrev pub slerp_near_stage : Program
slerp_near_stage = slerp_near (quaternion 0) (quaternion 4) (var 8)

-- ---- `slerp`, else: let thetap = theta * t; let qperp = (*q2 - *q1 * cos_theta).normalize(); *q1 * thetap.cos() + qperp * thetap.sin()
abbrev pub slerp_far : QuaternionExpr → QuaternionExpr → Expr → Expr → Expr → Program
slerp_far q1 q2 cos_theta theta t = do
  thetap ← theta ⊗ t
  x ← q2.x ⊖ q1.x ⊗ cos_theta
  y ← q2.y ⊖ q1.y ⊗ cos_theta
  z ← q2.z ⊖ q1.z ⊗ cos_theta
  w ← q2.w ⊖ q1.w ⊗ cos_theta
  normalize (record { x = x; y = y; z = z; w = w }) (λ qperp. do
    c ← cos thetap
    s ← sin thetap
    give (q1.x ⊗ c ⊕ qperp.x ⊗ s ∷ q1.y ⊗ c ⊕ qperp.y ⊗ s ∷ q1.z ⊗ c ⊕ qperp.z ⊗ s ∷ q1.w ⊗ c ⊕ qperp.w ⊗ s ∷ []))

abbrev pub slerp_far_stage : Program
slerp_far_stage = slerp_far (quaternion 0) (quaternion 4) (var 8) (var 9) (var 10)

-- ---- `interpolate`: scale.m[i][j] = lerp(dt, self.s[0].m[i][j], self.s[1].m[i][j]), row i; `Matrix4x4::default` leaves 0 in its last column
-- document 01, Numbers: "lerp(t, a, b) = (1−t)·a + t·b"
abbrev pub lerp : Expr → Expr → Expr → Expr
lerp t a b = (one ⊖ t) ⊗ a ⊕ t ⊗ b

abbrev pub scale_row : VectorExpr → VectorExpr → Expr → Program
scale_row s0 s1 dt = give (lerp dt s0.x s1.x ∷ lerp dt s0.y s1.y ∷ lerp dt s0.z s1.z ∷ zero ∷ [])

abbrev pub scale_row_stage : Program
scale_row_stage = scale_row (vector 0) (vector 3) (var 6)

-- ---- `From<Quaternion> for Transform`: its matrix m is the inverse half; transposed, row by row, it is the matrix half
abbrev pub rotation : QuaternionExpr → Program
rotation q = do
  xx ← q.x ⊗ q.x
  yy ← q.y ⊗ q.y
  zz ← q.z ⊗ q.z
  xy ← q.x ⊗ q.y
  xz ← q.x ⊗ q.z
  yz ← q.y ⊗ q.z
  wx ← q.x ⊗ q.w
  wy ← q.y ⊗ q.w
  wz ← q.z ⊗ q.w
  m00 ← one ⊖ two ⊗ (yy ⊕ zz)
  m01 ← two ⊗ (xy ⊕ wz)
  m02 ← two ⊗ (xz ⊖ wy)
  m10 ← two ⊗ (xy ⊖ wz)
  m11 ← one ⊖ two ⊗ (xx ⊕ zz)
  m12 ← two ⊗ (yz ⊕ wx)
  m20 ← two ⊗ (xz ⊕ wy)
  m21 ← two ⊗ (yz ⊖ wx)
  m22 ← one ⊖ two ⊗ (xx ⊕ yy)
  give (m00 ∷ m10 ∷ m20 ∷ zero ∷ m01 ∷ m11 ∷ m21 ∷ zero ∷ m02 ∷ m12 ∷ m22 ∷ zero ∷ [])

abbrev pub rotation_stage : Program
rotation_stage = rotation (quaternion 0)

-- ---- `Matrix4x4::mul`: m1.m[i][0] * m2.m[0][j] + m1.m[i][1] * m2.m[1][j] + m1.m[i][2] * m2.m[2][j] + m1.m[i][3] * m2.m[3][j], row i
abbrev pub mul_row : RowExpr → RowExpr → RowExpr → RowExpr → RowExpr → Program
mul_row a r0 r1 r2 r3 =
    give
    (a.c0 ⊗ r0.c0 ⊕ a.c1 ⊗ r1.c0 ⊕ a.c2 ⊗ r2.c0 ⊕ a.c3 ⊗ r3.c0
    ∷ a.c0 ⊗ r0.c1 ⊕ a.c1 ⊗ r1.c1 ⊕ a.c2 ⊗ r2.c1 ⊕ a.c3 ⊗ r3.c1
    ∷ a.c0 ⊗ r0.c2 ⊕ a.c1 ⊗ r1.c2 ⊕ a.c2 ⊗ r2.c2 ⊕ a.c3 ⊗ r3.c2
    ∷ a.c0 ⊗ r0.c3 ⊕ a.c1 ⊗ r1.c3 ⊕ a.c2 ⊗ r2.c3 ⊕ a.c3 ⊗ r3.c3
    ∷ [])

abbrev pub mul_row_stage : Program
mul_row_stage = mul_row (row 0) (row 4) (row 8) (row 12) bottom

-- ---- `Transform::transform_point`: x*self.m.m[i][0] + y*self.m.m[i][1] + z*self.m.m[i][2] + self.m.m[i][3]; with this bottom row wp is 1
abbrev pub moved : RowExpr → VectorExpr → Expr
moved r p = p.x ⊗ r.c0 ⊕ p.y ⊗ r.c1 ⊕ p.z ⊗ r.c2 ⊕ r.c3

abbrev pub transform_point : RowExpr → RowExpr → RowExpr → VectorExpr → Program
transform_point r0 r1 r2 p = give (moved r0 p ∷ moved r1 p ∷ moved r2 p ∷ [])

abbrev pub transform_point_stage : Program
transform_point_stage = transform_point (row 0) (row 4) (row 8) (vector 12)
