-- At inputs that are intervals of one number each, the interval reading is the float reading, bit for bit: `point-reading`. So a point query is the cover's
-- own definition on intervals of no width. Nothing is asked of the numbers but that sine and cosine are asked of angles (`Program-valid`).
use mathlib.Core.Path.{◌≡◌, refl, ap, ap₂, ◌∙◌, subst, subst₂}
use Prim.Native.Nat.{ℕ}
use mathlib.Core.List.{List, [], ◌∷◌, ◌++◌, map}
use lib.ListN.{length, length-map, get_or-map}
use lib.Dec.{T}
use lib.Ieee.{Float, nan}
use lib.Ieee.Fits.{and_l, and_r}
use Rattle.interval.specs.declared.Interval.{Interval}
use Rattle.interval.specs.Interval.{Interval-point}
use Rattle.interval.specs.Enclosure.{Judged-judge, Judged-add_enclosure, Judged-sub_enclosure, Judged-mul_enclosure}
use Rattle.interval.specs.Enclosure.{Judged-div_enclosure, Judged-sqrt_enclosure, Judged-sin_enclosure, Judged-cos_enclosure}
use Rattle.interval.proofs.Points.{add-point, sub-point, mul-point, div-point, sqrt-point, point-angle, sin-point, cos-point}
use Rattle.formula.specs.Program.{Binary, sum, difference, product, quotient, Unary, root, sine}
use Rattle.formula.specs.Program.{cosine, Expr, var, con, binary, unary, Program, ◌>>=◌, give}
use Rattle.formula.specs.Eval.{Binary-eval, Unary-eval, Expr-eval, Expr-eval_all, Program-eval}
use Rattle.formula.specs.Enclose.{Binary-enclose, Unary-enclose, Expr-enclose, Enclosure, enclosure, Expr-enclose_all}
use Rattle.formula.specs.Enclose.{extend, Program-enclose, Unary-valid, Expr-valid, Expr-valid_all, Program-valid}

abbrev points : List Float → List Interval
points ρ = map Interval-point ρ

binary-point : (o : Binary) (m : ℕ) (x y : Float) → (Binary-enclose o m (Interval-point x) (Interval-point y)).interval ≡ Interval-point (Binary-eval o x y)
unfolding Judged-add_enclosure Judged-sub_enclosure Judged-mul_enclosure Judged-div_enclosure Judged-judge
binary-point sum m x y = add-point x y
binary-point difference m x y = sub-point x y
binary-point product m x y = mul-point x y
binary-point quotient m x y = div-point x y

unary-point : (o : Unary) (m : ℕ) (x : Float) → T (Unary-valid o (Interval-point x))
    → (Unary-enclose o m (Interval-point x)).interval ≡ Interval-point (Unary-eval o x)
unfolding Judged-sqrt_enclosure Judged-sin_enclosure Judged-cos_enclosure Judged-judge
unary-point root m x v = sqrt-point x
unary-point sine m x v = sin-point (point-angle x v)
unary-point cosine m x v = cos-point (point-angle x v)

expr-point : (m : ℕ) (ρ : List Float) (e : Expr) → T (Expr-valid m (points ρ) e) → (Expr-enclose m (points ρ) e).interval ≡ Interval-point (Expr-eval ρ e)
unfolding Expr-enclose
expr-point m ρ (var i) v = get_or-map Interval-point ρ i nan
expr-point m ρ (con x) v = refl
expr-point m ρ (binary o a b) v =
    let p = Expr-enclose m (points ρ) a in
    let q = Expr-enclose p.refusal (points ρ) b in
    let L = Expr-valid m (points ρ) a in
    let R = Expr-valid p.refusal (points ρ) b in
    ap₂ (λ (X Y : Interval). (Binary-enclose o q.refusal X Y).interval) (expr-point m ρ a (and_l L R v)) (expr-point p.refusal ρ b (and_r L R v))
    ∙ binary-point o q.refusal (Expr-eval ρ a) (Expr-eval ρ b)
expr-point m ρ (unary o a) v =
    let p = Expr-enclose m (points ρ) a in
    let L = Expr-valid m (points ρ) a in
    let R = Unary-valid o p.interval in
    let e = expr-point m ρ a (and_l L R v) in
    ap (λ (X : Interval). (Unary-enclose o p.refusal X).interval) e
    ∙ unary-point o p.refusal (Expr-eval ρ a) (subst (λ (X : Interval). T (Unary-valid o X)) e (and_r L R v))

all-point : (m : ℕ) (ρ : List Float) (es : List Expr) → T (Expr-valid_all m (points ρ) es)
    → (Expr-enclose_all m (points ρ) es).intervals ≡ points (Expr-eval_all ρ es)
unfolding Expr-enclose_all
all-point m ρ [] v = refl
all-point m ρ (e ∷ es) v =
    let n = (Expr-enclose m (points ρ) e).refusal in
    let L = Expr-valid m (points ρ) e in
    let R = Expr-valid_all n (points ρ) es in
    ap₂ ◌∷◌ (expr-point m ρ e (and_l L R v)) (all-point n ρ es (and_r L R v))

points-append : (ρ : List Float) (x : Float) → points ρ ++ Interval-point x ∷ [] ≡ points (ρ ++ x ∷ [])
points-append [] x = refl
points-append (y ∷ ρ) x = ap {B = List Interval} (λ l. Interval-point y ∷ l) (points-append ρ x)

pub point-reading : (p : Program) (m : ℕ) (ρ : List Float) → T (Program-valid (enclosure m (map Interval-point ρ)) p)
    → (Program-enclose (enclosure m (map Interval-point ρ)) p).intervals ≡ map Interval-point (Program-eval ρ p)
unfolding Program-enclose
point-reading (give es) m ρ v = all-point m ρ es v
point-reading (e >>= k) m ρ v =
    let x = Expr-eval ρ e in
    let j = Expr-enclose m (points ρ) e in
    let L = Expr-valid m (points ρ) e in
    let R = Program-valid (extend (points ρ) j) (k (var (length (points ρ)))) in
    let h : extend (points ρ) j ≡ enclosure j.refusal (points (ρ ++ x ∷ [])) =
    ap (λ (X : Interval). enclosure j.refusal (points ρ ++ X ∷ [])) (expr-point m ρ e (and_l L R v)) ∙ ap (enclosure j.refusal) (points-append ρ x) in
    let l : length (points ρ) ≡ length ρ = length-map ρ Interval-point in
    ap₂ (λ (c : Enclosure) (n : ℕ). (Program-enclose c (k (var n))).intervals) h l
    ∙ point-reading (k (var (length ρ))) j.refusal (ρ ++ x ∷ []) (subst₂ (λ (c : Enclosure) (n : ℕ). T (Program-valid c (k (var n)))) h l (and_r L R v))
