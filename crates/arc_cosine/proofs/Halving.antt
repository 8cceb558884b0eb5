-- The arc cosine's search by halving. `Halving` is what holds of a bracket with k halvings left: the cosine of its lower end is carried, and is above n
-- unless that end is 0; that of its upper end is not. Halving keeps it (`halving-halves`), and where the bracket is no longer open it shows the least angle
-- (`halving-ends`, `halving-zero`). `Searching` is the invariant of the code's loop. At most 31 cosines are worked out (`acos-cosines-le`).
use mathlib.Core.Path.{◌≡◌, refl, sym, ap, subst, ◌∙◌}
use mathlib.Core.Logic.{◌⊎◌, inl, inr}
use mathlib.Core.Bool.{Bool, true, false, cond, ◌&&◌, true≢false}
use Prim.Native.Nat.{ℕ, zero, suc, ◌+◌, ◌-◌, ◌*◌, ◌/◌, ◌^◌, ◌≤◌, ◌<◌}
use native.Mathlib.Nat.{pow-succ'}
use native.Mathlib.Omega.{arith}
use borrow.Author.Tests.{ltb-true, ltb-false, lt-ltb, le-ltb}
use lib.Dec.{ltb, lit<, lit≤}
use lib.Ieee.{Float, minus}
use Rattle.sine_table.specs.Table.{quarter_turn}
use Rattle.arc_cosine.specs.declared.Bracket.{Bracket}
use Rattle.trig.specs.Units.{cos_units}
use Rattle.arc_cosine.specs.Acos.{least_angle, in_domain, floor_units}
use Rattle.trig.specs.Biased.{biased}
use Rattle.arc_cosine.specs.Search.{Bracket-Carries, Bracket-Inside, Bracket-first, Bracket-middle}
use Rattle.arc_cosine.specs.Search.{Bracket-upper, Bracket-lower, Bracket-half, Bracket-halve}
use Rattle.arc_cosine.specs.Search.{Bracket-is_open, Bracket-halvings, search_cosines, acos_cosines}
use Rattle.trig.proofs.Units.{cos-half-turn}
use Rattle.arc_cosine.proofs.Least.{least_angle-unique}

pub record Halving (n k : ℕ) (b : Bracket) : Type 0 where
  pub order : b.low < b.high
  pub inside : b.high ≤ 2 * quarter_turn
  pub reach : b.high - b.low ≤ 2 ^ k
  pub carried : Bracket-Carries b
  pub above : (n < b.cos_low) ⊎ (b.low ≡ 0)
  pub below : biased (cos_units b.high) ≤ n

halving-starts : (n : ℕ) → Halving n 30 Bracket-first
halving-starts n = record {
  order = lit< tt;
  inside = lit≤ tt;
  reach = lit≤ tt;
  carried = refl;
  above = inr refl;
  below = rw cos-half-turn (omega arith);
}

-- ---- one halving

module _ (n : ℕ) (b : Bracket) (c : ℕ) (cosine : c ≡ biased (cos_units (Bracket-middle b))) where
  pub halve-upper : n < c → Bracket-upper b c ≡ Bracket-halve n b
  unfolding Bracket-halve
  halve-upper h = sym (ap (λ (t : Bool). cond t (Bracket-upper b c) (Bracket-lower b)) (lt-ltb n c h)) ∙ ap (Bracket-half n b) cosine

  pub halve-lower : c ≤ n → Bracket-lower b ≡ Bracket-halve n b
  unfolding Bracket-halve
  halve-lower h = sym (ap (λ (t : Bool). cond t (Bracket-upper b c) (Bracket-lower b)) (le-ltb n c h)) ∙ ap (Bracket-half n b) cosine

-- What holds of the upper half where the cosine in the middle is above n, and of the lower where it is not, holds of the one chosen.
halve-picks : (P : Bracket → Type 0) (n : ℕ) (b : Bracket) → let c = biased (cos_units (Bracket-middle b)) in
    (n < c → P (Bracket-upper b c)) → (c ≤ n → P (Bracket-lower b)) → P (Bracket-halve n b)
unfolding Bracket-halve
halve-picks P n b upper lower = let c = biased (cos_units (Bracket-middle b)) in go (ltb n c) (ltb-true n c) (ltb-false n c)
  where
    go : (t : Bool) → (t ≡ true → n < biased (cos_units (Bracket-middle b))) → (t ≡ false → biased (cos_units (Bracket-middle b)) ≤ n)
        → P (cond t (Bracket-upper b (biased (cos_units (Bracket-middle b)))) (Bracket-lower b))
    go true above below = upper (above refl)
    go false above below = lower (below refl)

module _ {n k : ℕ} {b : Bracket} (i : Halving n (suc k) b) (apart : 1 < b.high - b.low) where
  reached : (d : ℕ) → d ≤ (b.high - b.low + 1) / 2 → d ≤ 2 ^ k
  reached d h = let p = pow-succ' 2 k in omega (arith, i.reach, p)

  halving-halves : Halving n k (Bracket-halve n b)
  halving-halves = halve-picks (Halving n k) n b upper lower
    where
      upper : n < biased (cos_units (Bracket-middle b)) → Halving n k (Bracket-upper b (biased (cos_units (Bracket-middle b))))
      upper h = record {
        order = omega (arith, i.order);
        inside = i.inside;
        reach = reached (b.high - Bracket-middle b) (omega (arith, i.order));
        carried = refl;
        above = inl h;
        below = i.below;
      }

      lower : biased (cos_units (Bracket-middle b)) ≤ n → Halving n k (Bracket-lower b)
      lower h = record {
        order = omega (arith, i.order);
        inside = omega (arith, i.inside);
        reach = reached (Bracket-middle b - b.low) (omega (arith, i.order));
        carried = i.carried;
        above = i.above;
        below = h;
      }

  halving-closer : (Bracket-halve n b).high - (Bracket-halve n b).low < b.high - b.low
  halving-closer =
      halve-picks (λ (r : Bracket). r.high - r.low < b.high - b.low) n b (λ h. omega (arith, apart, i.order)) (λ h. omega (arith, apart, i.order))

-- ---- where it is open, and where not

is_open : (n : ℕ) (b : Bracket) → Bracket-is_open n b ≡ true → 1 < b.high - b.low
is_open n b h = go (ltb n b.cos_low) (ltb 1 (b.high - b.low)) h (ltb-true 1 (b.high - b.low))
  where
    go : (p q : Bool) → (p && q) ≡ true → (q ≡ true → 1 < b.high - b.low) → 1 < b.high - b.low
    go true true h apart = apart refl
    go true false h apart = absurd (true≢false (sym h))
    go false q h apart = absurd (true≢false (sym h))

halvings-open : (n k : ℕ) (b : Bracket) → Bracket-is_open n b ≡ true → Bracket-halvings n (suc k) b ≡ 1 + Bracket-halvings n k (Bracket-halve n b)
unfolding Bracket-halvings
halvings-open n k b h = ap (λ (t : Bool). cond t (1 + Bracket-halvings n k (Bracket-halve n b)) 0) h

halvings-closed : (n k : ℕ) (b : Bracket) → Bracket-is_open n b ≡ false → Bracket-halvings n k b ≡ 0
unfolding Bracket-halvings
halvings-closed n zero b h = refl
halvings-closed n (suc k) b h = ap (λ (t : Bool). cond t (1 + Bracket-halvings n k (Bracket-halve n b)) 0) h

pub halving-ends : {n k : ℕ} {b : Bracket} → Halving n k b → n < b.cos_low → Bracket-is_open n b ≡ false → b.low + 1 ≡ least_angle (minus n (2 ^ 30))
halving-ends {n} {k} {b} i above closed =
    let l : b.high - b.low ≤ 1 = ltb-false 1 (b.high - b.low) (rw (lt-ltb n b.cos_low above) at closed) in
    let e : b.high ≡ b.low + 1 = omega (arith, i.order) in
    let before = subst (λ (x : ℕ). n < x) i.carried above in
    sym (least_angle-unique n (b.low + 1) (rw e at i.inside) (rw e at i.below)
    (λ k f. subst (λ (u : ℕ). n < biased (cos_units u)) (let g : b.low ≡ k = omega (arith, f) in g) before))

pub halving-zero : {n k : ℕ} {b : Bracket} → Halving n k b → b.cos_low ≤ n → b.low ≡ least_angle (minus n (2 ^ 30))
halving-zero {n} {k} {b} i h = elim i.above [
  | inl l ↦ absurd (omega (arith, l))
  | inr z ↦
      let passes = subst (λ (u : ℕ). biased (cos_units u) ≤ n) z (subst (λ (x : ℕ). x ≤ n) i.carried h) in
      z ∙ sym (least_angle-unique n 0 (omega arith) passes (λ k e. absurd (omega (arith, e))))
]

-- ---- the loop, with as many halvings left as cosines to 31

-- After c cosines: those and the halvings that are left make the whole count.
pub record Searching (n c : ℕ) (b : Bracket) : Type 0 where
  pub halving : Halving n (31 - c) b
  pub count : c + Bracket-halvings n (31 - c) b ≡ search_cosines n

pub searching-starts : (n : ℕ) {c u : ℕ} → c ≡ 1 → u ≡ biased (cos_units 0) → Searching n c (record { low = 0; high = 2 * quarter_turn; cos_low = u })
searching-starts n e f = rw (e, f) (record { halving = halving-starts n; count = refl })

-- What an open bracket has left to be halved.
record Left (n c : ℕ) (b : Bracket) : Type 0 where
  k : ℕ
  is : suc k ≡ 31 - c
  halving : Halving n (suc k) b
  count : c + Bracket-halvings n (suc k) b ≡ search_cosines n

left : {n c : ℕ} {b : Bracket} → Searching n c b → 1 < b.high - b.low → Left n c b
left {n} {c} {b} s apart = go (31 - c) refl s.halving s.count
  where
    go : (k : ℕ) → k ≡ 31 - c → Halving n k b → c + Bracket-halvings n k b ≡ search_cosines n → Left n c b
    go zero e i g = absurd (omega (arith, i.reach, apart))
    go (suc k) e i g = record { k = k; is = e; halving = i; count = g }

module _ {n c : ℕ} {b : Bracket} (s : Searching n c b) (opened : Bracket-is_open n b ≡ true) where
  pub searching-inside : Bracket-Inside b
  searching-inside = record { low = omega (arith, s.halving.order, s.halving.inside); high = s.halving.inside }

  pub searching-counts : c < 31
  searching-counts = let l = (left s (is_open n b opened)).is in omega (arith, l)

  pub searching-again : {r : Bracket} {d : ℕ} → r ≡ Bracket-halve n b → d ≡ c + 1 → Searching n d r
  searching-again {r} {d} e f =
      let l = left s (is_open n b opened) in
      let fewer : l.k ≡ 31 - d = omega (arith, f, l.is) in
      let opens = halvings-open n l.k b opened in
      let counts = l.count in
      let count : d + Bracket-halvings n l.k (Bracket-halve n b) ≡ search_cosines n = omega (arith, f, opens, counts) in
      let halved = halving-halves l.halving (is_open n b opened) in
      subst (Searching n d) (sym e) (record {
        halving = subst (λ (k : ℕ). Halving n k (Bracket-halve n b)) fewer halved;
        count = subst (λ (k : ℕ). d + Bracket-halvings n k (Bracket-halve n b) ≡ search_cosines n) fewer count;
      })

  pub searching-closer : {r : Bracket} → r ≡ Bracket-halve n b → r.high - r.low < b.high - b.low
  searching-closer e =
      let apart = is_open n b opened in
      subst (λ (x : Bracket). x.high - x.low < b.high - b.low) (sym e) (halving-closer (left s apart).halving apart)

pub searching-counted : {n c : ℕ} {b : Bracket} → Searching n c b → Bracket-is_open n b ≡ false → c ≡ search_cosines n
searching-counted {n} {c} {b} s h = let e = halvings-closed n (31 - c) b h in let g = s.count in omega (arith, e, g)

-- ---- how many cosines are worked out

halvings-le : (n k : ℕ) (b : Bracket) → Bracket-halvings n k b ≤ k
unfolding Bracket-halvings
halvings-le n zero b = omega arith
halvings-le n (suc k) b = go (Bracket-is_open n b) (halvings-le n k (Bracket-halve n b))
  where
    go : (t : Bool) → Bracket-halvings n k (Bracket-halve n b) ≤ k → cond t (1 + Bracket-halvings n k (Bracket-halve n b)) 0 ≤ suc k
    go true l = omega (arith, l)
    go false l = omega arith

pub acos-cosines-le : (c : Float) → acos_cosines c ≤ 31
unfolding acos_cosines
acos-cosines-le c = let n = biased (floor_units c) in let l = halvings-le n 30 Bracket-first in go (in_domain c) (omega (arith, l))
  where
    go : (t : Bool) → search_cosines (biased (floor_units c)) ≤ 31 → cond t (search_cosines (biased (floor_units c))) 0 ≤ 31
    go true l = l
    go false l = omega arith
