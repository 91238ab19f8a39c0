-- The bits of a mask of tests are as many as the tests that pass. Assumes nothing.
use mathlib.Core.Path.{◌≡◌, refl, sym, ap, ◌∙◌}
use mathlib.Core.Bool.{Bool, true, false}
use mathlib.Core.List.{List, ◌∷◌}
use Prim.Native.Nat.{ℕ, zero, suc, ◌+◌, ◌*◌, ◌/◌, ◌%◌, ◌^◌, ◌<◌}
use native.Mathlib.Nat.{pow-suc}
use native.Mathlib.Omega.{arith}
use lib.Dec.{eqb}
use Rattle.basics.specs.Choice.{pick, bit}
use Rattle.basics.specs.Below.{tally}
use Rattle.sums.specs.Named.{count}
use Rattle.cover.specs.Sum.{bits_of}
use Rattle.trees.specs.Layout.{Elements}
use Rattle.pins.specs.Variables.{mask_below, names_variable, count_of, mask_of}
use Rattle.pins.proofs.Choosing.{mask_small}

count_bit : (b : Bool) (l : List Bool) → count (b ∷ l) ≡ bit b + count l
unfolding count
count_bit true l = let e : suc (count l) ≡ 1 + count l = omega arith in e
count_bit false l = let e : count l ≡ 0 + count l = omega arith in e

bits_suc : (k m : ℕ) → count (bits_of (suc k) m) ≡ bit (eqb (m % 2) 1) + count (bits_of k (m / 2))
unfolding bits_of
bits_suc k m = count_bit (eqb (m % 2) 1) (bits_of k (m / 2))

none : (m : ℕ) → count (bits_of 0 m) ≡ 0
unfolding bits_of count
none m = refl

twice : (n : ℕ) → 2 ^ suc n ≡ 2 ^ n * 2
twice n = let a = pow-suc 2 n in omega arith

-- a bit beyond the mask
low : (n m : ℕ) → m < 2 ^ n → count (bits_of (suc n) m) ≡ count (bits_of n m)
low zero m h =
    let a : m % 2 ≡ 0 = omega arith in
    let w : bit (eqb (m % 2) 1) ≡ 0 = ap (λ (x : ℕ). bit (eqb x 1)) a in
    let s = bits_suc 0 m in
    let p = none (m / 2) in
    let q = none m in
    omega arith
low (suc n) m h =
    let t = twice n in
    let q = low n (m / 2) (omega arith) in
    bits_suc (suc n) m ∙ ap (λ (x : ℕ). bit (eqb (m % 2) 1) + x) q ∙ sym (bits_suc n m)

-- and the bit just beyond it set
high : (n m : ℕ) → m < 2 ^ n → count (bits_of (suc n) (2 ^ n + m)) ≡ 1 + count (bits_of n m)
high zero m h =
    let a : (2 ^ 0 + m) % 2 ≡ 1 = omega arith in
    let w : bit (eqb ((2 ^ 0 + m) % 2) 1) ≡ 1 = ap (λ (x : ℕ). bit (eqb x 1)) a in
    let s = bits_suc 0 (2 ^ 0 + m) in
    let p = none ((2 ^ 0 + m) / 2) in
    let q = none m in
    omega arith
high (suc n) m h =
    let t = twice n in
    let a : (2 ^ suc n + m) % 2 ≡ m % 2 = omega arith in
    let b : (2 ^ suc n + m) / 2 ≡ 2 ^ n + m / 2 = omega arith in
    let q = high n (m / 2) (omega arith) in
    let s = bits_suc n m in
    let r = bits_suc (suc n) (2 ^ suc n + m) ∙ ap (λ (x : ℕ). bit (eqb x 1) + count (bits_of (suc n) ((2 ^ suc n + m) / 2))) a ∙ ap (λ (x : ℕ). bit (eqb (m % 2) 1) + count (bits_of (suc n) x)) b in
    omega arith

pub count_mask : (f : ℕ → Bool) (n : ℕ) → count (bits_of n (mask_below f n)) ≡ tally f n
unfolding mask_below tally
count_mask f zero = none 0
count_mask f (suc n) = go (f n) (count_mask f n) (mask_small f n)
  where
    go : (b : Bool) → count (bits_of n (mask_below f n)) ≡ tally f n → mask_below f n < 2 ^ n → count (bits_of (suc n) (pick b (2 ^ n) 0 + mask_below f n)) ≡ bit b + tally f n
    go true q h = high n (mask_below f n) h ∙ ap (λ (x : ℕ). 1 + x) q
    go false q h =
        let a : 0 + mask_below f n ≡ mask_below f n = omega arith in
        let b = ap (λ (x : ℕ). count (bits_of (suc n) x)) a ∙ low n (mask_below f n) h ∙ q in
        let r : count (bits_of (suc n) (0 + mask_below f n)) ≡ 0 + tally f n = omega (arith, b) in
        r

-- as many variables are named as the mask has bits
pub named_count : (e : Elements) (rows : Bool) (o : ℕ) → count (bits_of 22 (mask_of e rows o)) ≡ count_of e rows o
named_count e rows o = count_mask (names_variable e rows o) 22
