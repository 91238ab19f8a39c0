-- The variable of each pin that has a column pair. Assumes nothing.
use mathlib.Core.Path.{◌≡◌, refl, sym, ap, ◌∙◌}
use mathlib.Core.Logic.{⊎_elim}
use mathlib.Core.Bool.{Bool, true, false, not, ◌&&◌, ◌||◌}
use Prim.Native.Nat.{ℕ, ◌-◌, ◌≤◌, ◌<◌}
use native.Mathlib.Omega.{arith}
use lib.Dec.{eqb, ltb}
use borrow.Author.Tests.{ltb-true, eqb-true, le-ltb, ne_eqb}
use Rattle.basics.specs.Below.{all_below}
use Rattle.basics.proofs.Truth.{clash}
use Rattle.basics.proofs.Store.{below_or_not}
use Rattle.basics.proofs.Folds.{all_at}
use Rattle.pins.specs.Variables.{variable_pin}
use Rattle.device.specs.Device.{column_of, pair_of}
use Rattle.gal.specs.Map.{is_cell}
use Rattle.agree.proofs.Basic.{and_first, and_second}
use Rattle.agree.proofs.Positions.{is_in}

pub record Column (p : ℕ) : Type 0 where
  pub some : 0 < p
  pub low : p < 24
  pub few : pair_of p < 22
  pub pin : column_of (pair_of p) ≡ p

-- pin p has a column pair
abbrev paired : ℕ → Bool
paired p = is_in p || is_cell p

test : ℕ → Bool
test p = not (paired p) || (ltb 0 p && (ltb (pair_of p) 22 && eqb (column_of (pair_of p)) p))

tested : all_below test 24 ≡ true
unfolding test all_below pair_of column_of
tested = refl

paired_beyond : (p : ℕ) → 24 ≤ p → paired p ≡ false
paired_beyond p h = simp (le-ltb p 12 (omega arith), le-ltb p 24 h, ne_eqb p 13 (λ e. omega arith)) (go (ltb 1 p) (ltb 13 p))
  where
    go : (a b : Bool) → (((a && false) || false) || (b && false)) ≡ false
    go true true = refl
    go true false = refl
    go false true = refl
    go false false = refl

column : (p : ℕ) → paired p ≡ true → Column p
unfolding test
column p t =
    ⊎_elim
    (λ (h : p < 24).
    let q = sym (ap (λ (b : Bool). not b || (ltb 0 p && (ltb (pair_of p) 22 && eqb (column_of (pair_of p)) p))) t) ∙ all_at test 24 tested p h in
    let r = and_second (ltb 0 p) (ltb (pair_of p) 22 && eqb (column_of (pair_of p)) p) q in
    record {
      some = ltb-true 0 p (and_first (ltb 0 p) (ltb (pair_of p) 22 && eqb (column_of (pair_of p)) p) q);
      low = h;
      few = ltb-true (pair_of p) 22 (and_first (ltb (pair_of p) 22) (eqb (column_of (pair_of p)) p) r);
      pin = eqb-true (column_of (pair_of p)) p (and_second (ltb (pair_of p) 22) (eqb (column_of (pair_of p)) p) r);
    })
    (λ (h : 24 ≤ p). absurd (clash (sym t ∙ paired_beyond p h)))
    (below_or_not p 24)

pub column_in : (p : ℕ) → is_in p ≡ true → Column p
column_in p t = column p (ap (λ (b : Bool). b || is_cell p) t)

pub column_cell : (p : ℕ) → is_cell p ≡ true → Column p
column_cell p t = column p (go (is_in p) (is_cell p) t)
  where
    go : (a b : Bool) → b ≡ true → (a || b) ≡ true
    go true b e = refl
    go false b e = e

-- its variable is 21 less the number of its pair
pub variable_pin_lem : (p : ℕ) → Column p → variable_pin true (21 - pair_of p) ≡ p
unfolding variable_pin
variable_pin_lem p c = let h = c.few in let q : 21 - (21 - pair_of p) ≡ pair_of p = omega arith in ap column_of q ∙ c.pin

back : (i : ℕ) → i < 22 → 21 - pair_of (variable_pin true i) ≡ i
unfolding all_below pair_of variable_pin column_of
back i h = eqb-true (21 - pair_of (variable_pin true i)) i (all_at (λ i. eqb (21 - pair_of (variable_pin true i)) i) 22 refl i h)

-- each variable has a pin of its own
pub own_pin : (i j : ℕ) → i < 22 → j < 22 → variable_pin true i ≡ variable_pin true j → i ≡ j
own_pin i j h l e = sym (back i h) ∙ ap (λ (p : ℕ). 21 - pair_of p) e ∙ back j l
