-- The bytes before the first b: `before_is`, as many as stand in front that are another.
use Rattle.std.proofs.Common.{ℕ, ◌≡◌, refl, sym, List, [], ◌∷◌, Bool, true, false, cond, not, nat_eq, suc, ◌+◌, arith}
use Rattle.std.specs.List.{prefix_len}
use borrow.Author.Tests.{eq-eqb, ne_eqb, eqb-true, eqb-false}
use Rattle.hexadecimal.specs.Digit.{position}

eqb-swap : (b x : ℕ) → nat_eq b x ≡ nat_eq x b
eqb-swap b x = go (nat_eq x b) refl
  where
    go : (t : Bool) → nat_eq x b ≡ t → nat_eq b x ≡ t
    go true e = eq-eqb b x (sym (eqb-true x b e))
    go false e = ne_eqb b x (λ h. eqb-false x b e (sym h))

pub before_is : (b : ℕ) (s : List ℕ) → prefix_len (λ x. not (nat_eq x b)) s ≡ position b s
unfolding position
before_is b [] = refl
before_is b (x ∷ s) = rw (eqb-swap b x, before_is b s) (go (nat_eq x b))
  where
    go : (t : Bool) → cond (not t) (1 + position b s) 0 ≡ cond t 0 (suc (position b s))
    go true = refl
    go false = omega arith
