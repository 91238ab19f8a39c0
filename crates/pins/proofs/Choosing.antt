-- The loop that collects the named variables. Assumes nothing.
use mathlib.Core.Path.{◌≡◌, refl, sym, ap, ap₂, ◌∙◌}
use mathlib.Core.Bool.{Bool, true, false}
use mathlib.Core.List.{List, [], ◌∷◌, ◌++◌}
use Prim.Native.Nat.{ℕ, zero, suc, ◌+◌, ◌*◌, ◌%◌, ◌^◌, ◌≤◌, ◌<◌}
use native.Mathlib.Numerals.{add-one}
use native.Mathlib.Nat.{pow-suc}
use native.Mathlib.Omega.{arith}
use lib.Dec.{ltb}
use borrow.Author.Tests.{ltb-true}
use lib.ListN.{length, set, take, length-set}
use Rattle.basics.specs.Choice.{bit, pick}
use Rattle.basics.specs.Below.{tally, all_below}
use Rattle.basics.proofs.Folds.{tally_next, all_at}
use Rattle.trees.specs.Layout.{Elements}
use Rattle.device.specs.Device.{column_of}
use Rattle.meaning.proofs.Ordering.{pushed, count_none}
use Rattle.pins.specs.Variables.{variable_pin, names_variable, chosen, mask_below}

chosen_next : (f : ℕ → Bool) (g : ℕ → ℕ) (i : ℕ) → chosen f g (i + 1) ≡ pick (f i) (chosen f g i ++ (g i ∷ [])) (chosen f g i)
unfolding chosen
chosen_next f g i = ap (chosen f g) (add-one i)

mask_next : (f : ℕ → Bool) (i : ℕ) → mask_below f (i + 1) ≡ pick (f i) (2 ^ i) 0 + mask_below f i
unfolding mask_below
mask_next f i = ap (mask_below f) (add-one i)

chosen_none : (f : ℕ → Bool) (g : ℕ → ℕ) → [] ≡ chosen f g 0
unfolding chosen
chosen_none f g = refl

mask_none : (f : ℕ → Bool) → 0 ≡ mask_below f 0
unfolding mask_below
mask_none f = refl

power_next : (i : ℕ) → 2 ^ (i + 1) ≡ 2 ^ i * 2
power_next i = ap (λ (k : ℕ). 2 ^ k) (add-one i) ∙ twice
  where
    twice : 2 ^ suc i ≡ 2 ^ i * 2
    twice = let a = pow-suc 2 i in omega arith

pub mask_small : (f : ℕ → Bool) (i : ℕ) → mask_below f i < 2 ^ i
unfolding mask_below
mask_small f zero = omega arith
mask_small f (suc i) = go (f i) (mask_small f i)
  where
    twice : 2 ^ suc i ≡ 2 ^ i * 2
    twice = let a = pow-suc 2 i in omega arith

    go : (b : Bool) → mask_below f i < 2 ^ i → pick b (2 ^ i) 0 + mask_below f i < 2 ^ suc i
    go true h = omega (arith, twice)
    go false h = omega (arith, twice)

pub power_small : (i : ℕ) → i < 22 → 2 ^ i < 4194304
unfolding all_below
power_small i h = ltb-true (2 ^ i) 4194304 (all_at (λ k. ltb (2 ^ k) 4194304) 22 refl i h)

pub pin_small : (rows : Bool) (i : ℕ) → i < 22 → variable_pin rows i < 24
unfolding all_below variable_pin column_of
pin_small true i h = ltb-true (variable_pin true i) 24 (all_at (λ k. ltb (variable_pin true k) 24) 22 refl i h)
pin_small false i h = ltb-true (variable_pin false i) 24 (all_at (λ k. ltb (variable_pin false k) 24) 22 refl i h)

-- n variables of those below i are named
pub record Choosing (e : Elements) (rows : Bool) (o : ℕ) (vars : List ℕ) (n mask i : ℕ) : Type 0 where
  pub size : length vars ≡ 22
  pub fits : n ≤ i
  pub pins : take n vars ≡ chosen (names_variable e rows o) (variable_pin rows) i
  pub count : n ≡ tally (names_variable e rows o) i
  pub which : mask ≡ mask_below (names_variable e rows o) i

pub choosing_start : (e : Elements) (rows : Bool) (o : ℕ) (vars : List ℕ) → length vars ≡ 22 → Choosing e rows o vars 0 0 0
choosing_start e rows o vars h = record { size = h; fits = omega arith; pins = chosen_none _ _; count = count_none _; which = mask_none _ }

weight : (i : ℕ) → i < 22 → 1 * 2 ^ i % 4294967296 ≡ 2 ^ i
weight i h = let d = power_small i h in omega arith

pub choosing_taken : (e : Elements) (rows : Bool) (o : ℕ) (vars vars' : List ℕ) (n n' mask mask' i p : ℕ) → i < 22 → Choosing e rows o vars n mask i
    → p ≡ variable_pin rows i → names_variable e rows o i ≡ true → vars' ≡ set vars n p → n' ≡ n + 1 → mask' ≡ mask + 1 * 2 ^ i % 4294967296
    → Choosing e rows o vars' n' mask' (i + 1)
choosing_taken e rows o vars vars' n n' mask mask' i p h c ep eb ev en em =
    let f = c.fits in
    let z = c.size in
    let w = weight i h in
    let one : n' ≡ 1 + n = omega arith in
    let more : mask' ≡ 2 ^ i + mask = omega arith in
    record {
      size = ap length ev ∙ length-set vars n p ∙ c.size;
      fits = omega arith;
      pins =
          ap₂ take en ev
          ∙ pushed vars n p (omega arith)
          ∙ ap₂ (λ (l : List ℕ) (x : ℕ). l ++ (x ∷ [])) c.pins ep
          ∙ ap (λ (x : Bool). pick x (chosen (names_variable e rows o) (variable_pin rows) i ++ (variable_pin rows i ∷ [])) (chosen (names_variable e rows o) (variable_pin rows) i)) (sym eb)
          ∙ sym (chosen_next (names_variable e rows o) (variable_pin rows) i);
      count = one ∙ ap₂ (λ (x : Bool) (y : ℕ). bit x + y) (sym eb) c.count ∙ sym (tally_next (names_variable e rows o) i);
      which = more ∙ ap₂ (λ (x : Bool) (y : ℕ). pick x (2 ^ i) 0 + y) (sym eb) c.which ∙ sym (mask_next (names_variable e rows o) i);
    }

pub choosing_left : (e : Elements) (rows : Bool) (o : ℕ) (vars vars' : List ℕ) (n n' mask mask' i : ℕ) → Choosing e rows o vars n mask i
    → names_variable e rows o i ≡ false → vars' ≡ vars → n' ≡ n → mask' ≡ mask → Choosing e rows o vars' n' mask' (i + 1)
choosing_left e rows o vars vars' n n' mask mask' i c eb ev en em =
    let f = c.fits in
    let none : n' ≡ 0 + n = omega arith in
    let same : mask' ≡ 0 + mask = omega arith in
    record {
      size = ap length ev ∙ c.size;
      fits = omega arith;
      pins =
          ap₂ take en ev
          ∙ c.pins
          ∙ ap (λ (x : Bool). pick x (chosen (names_variable e rows o) (variable_pin rows) i ++ (variable_pin rows i ∷ [])) (chosen (names_variable e rows o) (variable_pin rows) i)) (sym eb)
          ∙ sym (chosen_next (names_variable e rows o) (variable_pin rows) i);
      count = none ∙ ap₂ (λ (x : Bool) (y : ℕ). bit x + y) (sym eb) c.count ∙ sym (tally_next (names_variable e rows o) i);
      which = same ∙ ap₂ (λ (x : Bool) (y : ℕ). pick x (2 ^ i) 0 + y) (sym eb) c.which ∙ sym (mask_next (names_variable e rows o) i);
    }

pub mask_room : (e : Elements) (rows : Bool) (o : ℕ) (vars : List ℕ) (n mask i : ℕ) → i < 22 → Choosing e rows o vars n mask i → mask + 1 * 2 ^ i % 4294967296 < 8388608
mask_room e rows o vars n mask i h c = let a = mask_small (names_variable e rows o) i in let d = power_small i h in let w = weight i h in let f = c.which in omega arith
