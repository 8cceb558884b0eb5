-- Whether a place lies from one angle's u to the other's, as code tests it: without least and greatest (`lies-is`), and with a u
-- that is held at a bound beyond the place. So what an end's u, sine and cosine say is the sine and the cosine of the interval:
-- `sin-range`, `cos-range`. `from-sin-cos` makes an end of what is at hand.
use Rattle.std.proofs.Common.{◌≡◌, ℕ, ◌*◌, ◌^◌, ◌<◌, ◌≤◌, min, max, Bool, true, false, not, ◌&&◌, ◌||◌, T, leb, refl, ◌∙◌, ap₂, arith, le→leb, leb→le}
use lib.Dec.{nleb→lt}
use lib.Ieee.{Float}
use Rattle.trig.specs.sine_table.Table.{quarter_turn}
use Rattle.trig.specs.declared.SinCos.{SinCos}
use Rattle.trig.specs.Units.{angle_units}
use Rattle.trig.specs.SinCos.{sin, cos}
use Rattle.trig.specs.Range.{lies, sin_low, sin_high, cos_low, cos_high}
use Rattle.interval.specs.Enclosure.{Interval-sin_enclosure, Interval-cos_enclosure}
use Rattle.interval.specs.declared.EndAngle.{EndAngle}
use Rattle.interval.specs.means.EndAngle.{EndAngle-from_sin_cos, EndAngle-new, EndAngle-sin_range, EndAngle-cos_range}

same_test : (x y : Bool) → (T x → T y) → (T y → T x) → x ≡ y
same_test true true h k = refl
same_test true false h k = absurd (h tt)
same_test false true h k = absurd (k tt)
same_test false false h k = refl

-- a ≤ b or c ≤ d is x ≤ y
either-le : (a b c d x y : ℕ) → (a ≤ b → x ≤ y) → (c ≤ d → x ≤ y) → (b < a → x ≤ y → c ≤ d) → (leb a b || leb c d) ≡ leb x y
either-le a b c d x y f g h =
    same_test (leb a b || leb c d) (leb x y) (λ t. le→leb x y (split (leb a b) (leb c d) (λ l. f (leb→le a b l)) (λ l. g (leb→le c d l)) t))
    (λ t. join (leb a b) (leb c d) (λ n. le→leb c d (h (nleb→lt a b n) (leb→le x y t))))
  where
    split : (p q : Bool) → (T p → x ≤ y) → (T q → x ≤ y) → T (p || q) → x ≤ y
    split true q k l t = k tt
    split false q k l t = l t

    join : (p q : Bool) → (T (not p) → T q) → T (p || q)
    join true q k = tt
    join false q k = k tt

pub lies-is : (w u v : ℕ) → ((leb u w || leb v w) && (leb w u || leb w v)) ≡ lies w u v
lies-is w u v =
    ap₂ ◌&&◌ (either-le u w v w (min u v) w (λ h. omega arith) (λ h. omega arith) (λ h k. omega arith))
    (either-le w u w v w (max u v) (λ h. omega arith) (λ h. omega arith) (λ h k. omega arith))

leb-same : (a b c d : ℕ) → (a ≤ b → c ≤ d) → (c ≤ d → a ≤ b) → leb a b ≡ leb c d
leb-same a b c d f g = same_test (leb a b) (leb c d) (λ t. le→leb c d (f (leb→le a b t))) (λ t. le→leb a b (g (leb→le c d t)))

lies-capped : (w u v c : ℕ) → w < c → lies w (min u c) (min v c) ≡ lies w u v
lies-capped w u v c h =
    ap₂ ◌&&◌ (leb-same (min (min u c) (min v c)) w (min u v) w (λ l. omega arith) (λ l. omega arith))
    (leb-same w (max (min u c) (min v c)) w (max u v) (λ l. omega arith) (λ l. omega arith))

pub from-sin-cos : (a : Float) (at : SinCos) {p : EndAngle} → p ≡ EndAngle-from_sin_cos a at → at.sin ≡ sin a → at.cos ≡ cos a → p ≡ EndAngle-new a
unfolding EndAngle-new
from-sin-cos a at e s c = e ∙ ap₂ (λ (x y : Float). EndAngle-from_sin_cos a (record { sin = x; cos = y })) s c

pub sin-range : (a b : Float) → EndAngle-sin_range (EndAngle-new a) (EndAngle-new b) ≡ Interval-sin_enclosure (record { low = a; high = b })
unfolding EndAngle-new EndAngle-sin_range Interval-sin_enclosure sin_low sin_high
sin-range a b =
    let u = angle_units a in
    let v = angle_units b in
    rw (lies-capped (3 * quarter_turn) u v (2 ^ 52) (omega arith), lies-capped quarter_turn u v (2 ^ 52) (omega arith))

pub cos-range : (a b : Float) → EndAngle-cos_range (EndAngle-new a) (EndAngle-new b) ≡ Interval-cos_enclosure (record { low = a; high = b })
unfolding EndAngle-new EndAngle-cos_range Interval-cos_enclosure cos_low cos_high
cos-range a b =
    let u = angle_units a in
    let v = angle_units b in
    rw (
      lies-capped (2 * quarter_turn) u v (2 ^ 52) (omega arith),
      lies-capped 0 u v (2 ^ 52) (omega arith),
      lies-capped (4 * quarter_turn) u v (2 ^ 52) (omega arith),
    )
