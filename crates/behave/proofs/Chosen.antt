-- What fitting chose for a cell, and the products that a cell of the emitted map then has.
-- Assumes nothing.
use mathlib.Core.Path.{◌≡◌, refl, sym, ap, ◌∙◌, subst}
use mathlib.Core.Bool.{Bool, true, false, not, ◌||◌}
use mathlib.Core.List.{List, [], ◌∷◌, map}
use Prim.Native.Nat.{ℕ, zero, suc, ◌-◌, ◌≤◌, ◌<◌}
use native.Mathlib.Omega.{arith}
use borrow.Author.Tests.{leb-true}
use lib.Dec.{eqb}
use lib.ListN.{length, get_or, replicate, length-map, get_or-append, get_or-map}
use Rattle.basics.specs.Choice.{pick}
use Rattle.basics.proofs.Truth.{clash, true_of, of_true, and_l}
use Rattle.sums.specs.Product.{Digit, prime, filter, products, primes}
use Rattle.sums.specs.Named.{keep}
use Rattle.sums.proofs.Named.{clean, keep_prime, Each, primes_long}
use Rattle.cover.specs.Mask.{mask}
use Rattle.cover.specs.Sum.{bits_of, over, padded}
use Rattle.cover.proofs.Joining.{bits_length}
use Rattle.device.specs.Device.{products_of}
use Rattle.fit.specs.Fit.{Programmed, primes_of, fits, taken, refused, opposite, inverted, fitted}
use Rattle.cells.specs.Map.{used, clocked}
use Rattle.behave.specs.Cells.{Kind, code, in_use, holds}
use Rattle.behave.specs.Cells.Kind.{unused, combinational, registered}

-- ---- kinds

pub used_is : (kinds : List ℕ) (k : ℕ) (c : Kind) → get_or kinds k 0 ≡ code c → used kinds k ≡ in_use c
used_is kinds k c e = ap (λ (x : ℕ). not (eqb x 0)) e ∙ go c
  where
    go : (c : Kind) → not (eqb (code c) 0) ≡ in_use c
    go unused = refl
    go combinational = refl
    go registered = refl

pub clocked_is : (kinds : List ℕ) (k : ℕ) (c : Kind) → get_or kinds k 0 ≡ code c → clocked kinds k ≡ holds c
clocked_is kinds k c e = ap (λ (x : ℕ). eqb x 2) e ∙ go c
  where
    go : (c : Kind) → eqb (code c) 2 ≡ holds c
    go unused = refl
    go combinational = refl
    go registered = refl

-- ---- the choice

-- the function whose primes are the cell's rows: f itself, or its opposite in a combinational cell with S0 = 0
abbrev pub in_rows : Bool → Bool → (List Bool → Bool) → List Bool → Bool
in_rows reg s0 f = pick (reg || s0) f (opposite f)

pub record Chosen (k : ℕ) (reg start : Bool) (named : ℕ) (f : List Bool → Bool) (s0 : Bool) (n : ℕ) (masks : List ℕ) : Type 0 where
  pub within : length (primes_of named (in_rows reg s0 f)) ≤ products_of k
  pub count : n ≡ length (primes_of named (in_rows reg s0 f))
  pub held : masks ≡ padded (map mask (primes_of named (in_rows reg s0 f)))
  pub own : reg ≡ true → s0 ≡ start

not_refused : (s0 : Bool) (n : ℕ) (masks : List ℕ) → refused ≡ record { ok = true; s0 = s0; n = n; masks = masks } → ⊥
not_refused s0 n masks e = clash (sym (ap (λ (x : Programmed). x.ok) e))

pub chosen : (k : ℕ) (reg start : Bool) (named : ℕ) (f : List Bool → Bool) (s0 : Bool) (n : ℕ) (masks : List ℕ)
    → fitted k reg start named f ≡ record { ok = true; s0 = s0; n = n; masks = masks } → Chosen k reg start named f s0 n masks
unfolding fitted inverted
chosen k r start named f s0 n masks e = go r (fits k (primes_of named f)) (fits k (primes_of named (opposite f))) refl refl e
  where
    go : (r a b : Bool) → fits k (primes_of named f) ≡ a → fits k (primes_of named (opposite f)) ≡ b
        → pick a (taken (pick r start true) (primes_of named f)) (pick r refused (pick b (taken false (primes_of named (opposite f))) refused)) ≡ record { ok = true; s0 = s0; n = n; masks = masks }
        → Chosen k r start named f s0 n masks
    go true true b ea eb h =
        subst (λ (x : Programmed). Chosen k true start named f x.s0 x.n x.masks) h
        (record { within = leb-true _ _ ea; count = refl; held = refl; own = λ q. refl })
    go false true b ea eb h =
        subst (λ (x : Programmed). Chosen k false start named f x.s0 x.n x.masks) h
        (record { within = leb-true _ _ ea; count = refl; held = refl; own = λ q. absurd (clash (sym q)) })
    go true false b ea eb h = absurd (not_refused s0 n masks h)
    go false false true ea eb h =
        subst (λ (x : Programmed). Chosen k false start named f x.s0 x.n x.masks) h
        (record { within = leb-true _ _ eb; count = refl; held = refl; own = λ q. absurd (clash (sym q)) })
    go false false false ea eb h = absurd (not_refused s0 n masks h)

-- ---- lists

pub each_at : {A : Type 0} (P : A → Type 0) (l : List A) (d : A) (i : ℕ) → Each P l → i < length l → P (get_or l i d)
unfolding Each
each_at P [] d i e h = absurd (omega arith)
each_at P (x ∷ l) d zero e h = e.0
each_at P (x ∷ l) d (suc i) e h = each_at P l d i e.1 (omega arith)

-- product i of a list of masks that is filled up with zeros
pub mask_at : (ps : List (List Digit)) (i : ℕ) → i < length ps → get_or (padded (map mask ps)) i 0 ≡ mask (get_or ps i [])
unfolding mask
mask_at ps i h =
    let l = length-map ps mask in
    get_or-append (map mask ps) (replicate (16 - length (map mask ps)) 0) 0 i (omega arith) ∙ get_or-map mask ps i []

filter_passes : {A : Type 0} (g : A → Bool) (l : List A) → Each (λ x. g x ≡ true) (filter g l)
unfolding Each filter
filter_passes g [] = tt
filter_passes {A} g (x ∷ l) = go (g x) refl (filter_passes g l)
  where
    go : (b : Bool) → g x ≡ b → Each (λ x. g x ≡ true) (filter g l) → Each (λ x. g x ≡ true) (pick b (x ∷ filter g l) (filter g l))
    go true e t = (e, t)
    go false e t = t

each_two : {A : Type 0} (P Q R : A → Type 0) (l : List A) → ((x : A) → P x → Q x → R x) → Each P l → Each Q l → Each R l
unfolding Each
each_two P Q R [] h p q = tt
each_two P Q R (x ∷ l) h p q = (h x p.0 q.0, each_two P Q R l h p.1 q.1)

-- a prime picks named variables only
pub primes_clean : (named : ℕ) (f : List Bool → Bool) → Each (λ p. clean (bits_of 22 named) p ≡ true) (primes_of named f)
unfolding primes_of primes
primes_clean named f =
    each_two (λ p. prime p (over named f) ≡ true) (λ p. length p ≡ 22) (λ p. clean (bits_of 22 named) p ≡ true) (filter (λ p. prime p (over named f)) (products 22)) one
    (filter_passes (λ p. prime p (over named f)) (products 22)) (long named f)
  where
    one : (p : List Digit) → prime p (over named f) ≡ true → length p ≡ 22 → clean (bits_of 22 named) p ≡ true
    one p e l =
        true_of _ (and_l (clean (bits_of 22 named) p) (prime (keep (bits_of 22 named) p) f) (of_true _ (sym (keep_prime (bits_of 22 named) p f (l ∙ sym (bits_length 22 named))) ∙ e)))

    long : (named : ℕ) (f : List Bool → Bool) → Each (λ p. length p ≡ 22) (filter (λ p. prime p (over named f)) (products 22))
    long named f = primes_long 22 (over named f)

pub primes_wide : (named : ℕ) (f : List Bool → Bool) → Each (λ p. length p ≡ 22) (primes_of named f)
unfolding primes_of
primes_wide named f = primes_long 22 (over named f)
