-- `add_window` meets its contract. The invariant: the masks before i have their digit.
use native.Mathlib.Omega.{arith}
use Rattle.reach_kept.proofs.Masks.{adding-first, adding-below, adding-next, adding-last}
use Rattle.reach_kept.proofs.add_window.Goals as goal

pub loop-i-init : goal.loop-i-init
loop-i-init c = adding-first _ _ _

pub add_digit-requires : goal.add_digit-requires
add_digit-requires c = let t = c.loop-i-test.true in let masks = c.well_formed.0.1.0.1 in let names = c.well_formed.1.1.0.1.0.1 in record { k_bound = c.requires.k_bound; mask_bound = adding-below _ _ _ c.loop-i.invariant c.requires.below (omega (arith, t, masks)) (omega (arith, t, names)) }

pub loop-i-preserved : goal.loop-i-preserved
loop-i-preserved c =
    let t = c.loop-i-test.true in
    let masks = c.well_formed.0.1.0.1 in
    let names = c.well_formed.1.1.0.1.0.1 in
    adding-next _ _ _ c.loop-i.invariant (omega (arith, t, masks)) (omega (arith, t, names)) c.add_digit.ensures.value

pub returns : goal.returns
returns c = record { value = adding-last _ _ _ c.loop-i.invariant (let e = c.well_formed.1.1.0.1.0.1 in omega (arith, e, c.loop-i-test.false)) }
