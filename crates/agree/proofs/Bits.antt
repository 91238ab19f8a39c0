-- The named variables as bits of a mask, as pins in their order, and as a setting's number. Assumes nothing.
use mathlib.Core.Path.{◌≡◌, refl, sym, ap, ap₂, ◌∙◌, subst}
use mathlib.Core.Bool.{Bool, true, false}
use mathlib.Core.List.{List, [], ◌∷◌, ◌++◌}
use Prim.Native.Nat.{ℕ, zero, suc, ◌+◌, ◌*◌, ◌/◌, ◌%◌, ◌^◌, ◌<◌}
use native.Mathlib.Nat.{pow-suc}
use native.Mathlib.Omega.{arith}
use lib.Dec.{eqb}
use lib.ListN.{length, get_or}
use borrow.Author.Tests.{eq-eqb, ne_eqb}
use Rattle.basics.specs.Choice.{bit, on, pick, xor}
use Rattle.basics.specs.Below.{tally}
use Rattle.trees.proofs.Stack.{on_bit}
use Rattle.sums.specs.Product.{number}
use Rattle.sums.specs.Named.{keep}
use Rattle.cover.specs.Sum.{bits_of}
use Rattle.pins.specs.Variables.{chosen, mask_below}
use Rattle.tables.specs.Tables.{set_bits}

abbrev after : {A : Type 0} → (ℕ → A) → ℕ → A
after f i = f (suc i)

-- ---- from the front

mask_front : (f : ℕ → Bool) (n : ℕ) → mask_below f (suc n) ≡ bit (f 0) + 2 * mask_below (after f) n
unfolding mask_below
mask_front f zero = go (f 0)
  where
    go : (b : Bool) → pick b (2 ^ 0) 0 + 0 ≡ bit b + 2 * 0
    go true = refl
    go false = refl
mask_front f (suc n) = go (f (suc n)) (mask_front f n)
  where
    double : 2 ^ suc n ≡ 2 ^ n * 2
    double = pow-suc 2 n

    go : (b : Bool) → mask_below f (suc n) ≡ bit (f 0) + 2 * mask_below (after f) n
        → pick b (2 ^ suc n) 0 + mask_below f (suc n) ≡ bit (f 0) + 2 * (pick b (2 ^ n) 0 + mask_below (after f) n)
    go true e = omega (arith, double, e)
    go false e = omega (arith, e)

tally_front : (f : ℕ → Bool) (n : ℕ) → tally f (suc n) ≡ bit (f 0) + tally (after f) n
unfolding tally
tally_front f zero = refl
tally_front f (suc n) = let e = tally_front f n in omega (arith, e)

chosen_front : (f : ℕ → Bool) (g : ℕ → ℕ) (n : ℕ) → chosen f g (suc n) ≡ pick (f 0) (g 0 ∷ chosen (after f) (after g) n) (chosen (after f) (after g) n)
unfolding chosen
chosen_front f g zero = go (f 0)
  where
    go : (b : Bool) → pick b ([] ++ (g 0 ∷ [])) [] ≡ pick b (g 0 ∷ []) []
    go true = refl
    go false = refl
chosen_front f g (suc n) = ap (λ (l : List ℕ). pick (f (suc n)) (l ++ (g (suc n) ∷ [])) l) (chosen_front f g n) ∙ go (f (suc n)) (f 0)
  where
    go : (b c : Bool)
        → pick b (pick c (g 0 ∷ chosen (after f) (after g) n) (chosen (after f) (after g) n) ++ (g (suc n) ∷ [])) (pick c (g 0 ∷ chosen (after f) (after g) n) (chosen (after f) (after g) n))
        ≡ pick c (g 0 ∷ pick b (chosen (after f) (after g) n ++ (g (suc n) ∷ [])) (chosen (after f) (after g) n)) (pick b (chosen (after f) (after g) n ++ (g (suc n) ∷ [])) (chosen (after f) (after g) n))
    go true true = refl
    go true false = refl
    go false true = refl
    go false false = refl

-- the bits of the mask are the tests
pub bits_front : (f : ℕ → Bool) (n : ℕ) → bits_of (suc n) (mask_below f (suc n)) ≡ f 0 ∷ bits_of n (mask_below (after f) n)
unfolding bits_of
bits_front f n = ap₂ (λ (b : Bool) (m : ℕ). b ∷ bits_of n m) (ap on low ∙ on_bit (f 0)) high
  where
    split : (b : Bool) (m : ℕ) → (bit b + 2 * m) % 2 ≡ bit b
    split true m = omega arith
    split false m = omega arith

    rest : (b : Bool) (m : ℕ) → (bit b + 2 * m) / 2 ≡ m
    rest true m = omega arith
    rest false m = omega arith

    low : mask_below f (suc n) % 2 ≡ bit (f 0)
    low = ap (λ (m : ℕ). m % 2) (mask_front f n) ∙ split (f 0) (mask_below (after f) n)

    high : mask_below f (suc n) / 2 ≡ mask_below (after f) n
    high = ap (λ (m : ℕ). m / 2) (mask_front f n) ∙ rest (f 0) (mask_below (after f) n)

pub bit_at : (f : ℕ → Bool) (n i : ℕ) → i < n → get_or (bits_of n (mask_below f n)) i false ≡ f i
bit_at f zero i h = absurd (omega arith)
bit_at f (suc n) zero h = ap (λ (l : List Bool). get_or l 0 false) (bits_front f n)
bit_at f (suc n) (suc i) h = ap (λ (l : List Bool). get_or l (suc i) false) (bits_front f n) ∙ bit_at (after f) n i (omega arith)

-- ---- the number of a setting of the named variables

abbrev pub number_in : (ℕ → Bool) → ℕ → List Bool → ℕ
number_in f n s = number (keep (bits_of n (mask_below f n)) s)

number_hit : (f : ℕ → Bool) (n : ℕ) (b : Bool) (s : List Bool) → f 0 ≡ true → number_in f (suc n) (b ∷ s) ≡ bit b + 2 * number_in (after f) n s
unfolding keep number
number_hit f n b s e = ap (λ (m : List Bool). number (keep m (b ∷ s))) (bits_front f n ∙ ap (λ (x : Bool). x ∷ bits_of n (mask_below (after f) n)) e)

number_miss : (f : ℕ → Bool) (n : ℕ) (b : Bool) (s : List Bool) → f 0 ≡ false → number_in f (suc n) (b ∷ s) ≡ number_in (after f) n s
unfolding keep
number_miss f n b s e = ap (λ (m : List Bool). number (keep m (b ∷ s))) (bits_front f n ∙ ap (λ (x : Bool). x ∷ bits_of n (mask_below (after f) n)) e)

pub number_small : (f : ℕ → Bool) (n : ℕ) (s : List Bool) → length s ≡ n → number_in f n s < 2 ^ tally f n
unfolding tally bits_of keep number
number_small f zero s z = omega arith
number_small f (suc n) [] z = absurd (omega (arith, z))
number_small f (suc n) (b ∷ s) z = go (f 0) refl (number_small (after f) n s (omega (arith, z)))
  where
    count-hit : f 0 ≡ true → tally f (suc n) ≡ suc (tally (after f) n)
    count-hit e = let q = tally_front f n ∙ ap (λ (x : Bool). bit x + tally (after f) n) e in omega (arith, q)

    count-miss : f 0 ≡ false → tally f (suc n) ≡ tally (after f) n
    count-miss e = let q = tally_front f n ∙ ap (λ (x : Bool). bit x + tally (after f) n) e in omega (arith, q)

    twofold : (b : Bool) (m w : ℕ) → m < w → bit b + 2 * m < w * 2
    twofold true m w h = omega arith
    twofold false m w h = omega arith

    go : (x : Bool) → f 0 ≡ x → number_in (after f) n s < 2 ^ tally (after f) n → number_in f (suc n) (b ∷ s) < 2 ^ tally f (suc n)
    go true e h =
        subst (λ (k : ℕ). number_in f (suc n) (b ∷ s) < 2 ^ k) (sym (count-hit e))
        (subst (λ (k : ℕ). k < 2 ^ suc (tally (after f) n)) (sym (number_hit f n b s e))
        (subst (λ (k : ℕ). bit b + 2 * number_in (after f) n s < k) (sym (pow-suc 2 (tally (after f) n))) (twofold b (number_in (after f) n s) (2 ^ tally (after f) n) h)))
    go false e h =
        subst (λ (k : ℕ). number_in f (suc n) (b ∷ s) < 2 ^ k) (sym (count-miss e)) (subst (λ (k : ℕ). k < 2 ^ tally (after f) n) (sym (number_miss f n b s e)) h)

-- ---- the pins that are set

module _ (flip : ℕ → Bool) where
  set_front : (st : ℕ → Bool) (x : ℕ) (xs : List ℕ) (b : Bool) (m k : ℕ) → k ≡ bit b + 2 * m
      → set_bits flip st (x ∷ xs) k ≡ set_bits flip (λ p. pick (eqb p x) (xor (flip x) b) (st p)) xs m
  unfolding set_bits
  set_front st x xs b m k e = ap₂ (λ (c : Bool) (j : ℕ). set_bits flip (λ p. pick (eqb p x) (xor (flip x) c) (st p)) xs j) (ap on low ∙ on_bit b) high
    where
      low : k % 2 ≡ bit b
      low = go b e
        where
          go : (b : Bool) → k ≡ bit b + 2 * m → k % 2 ≡ bit b
          go true e = omega (arith, e)
          go false e = omega (arith, e)

      high : k / 2 ≡ m
      high = go b e
        where
          go : (b : Bool) → k ≡ bit b + 2 * m → k / 2 ≡ m
          go true e = omega (arith, e)
          go false e = omega (arith, e)

  -- a pin that is no named variable's stays
  unset : (n : ℕ) (f : ℕ → Bool) (g : ℕ → ℕ) (s : List Bool) (st : ℕ → Bool) (p : ℕ) → length s ≡ n → ((i : ℕ) → i < n → f i ≡ true → g i ≡ p → ⊥)
      → set_bits flip st (chosen f g n) (number_in f n s) p ≡ st p
  unfolding set_bits chosen
  unset zero f g s st p z other = refl
  unset (suc n) f g [] st p z other = absurd (omega (arith, z))
  unset (suc n) f g (b ∷ s) st p z other = go (f 0) refl (λ st'. unset n (after f) (after g) s st' p (omega (arith, z)) (λ i h. other (suc i) (omega arith)))
    where
      go : (x : Bool) → f 0 ≡ x → ((st' : ℕ → Bool) → set_bits flip st' (chosen (after f) (after g) n) (number_in (after f) n s) p ≡ st' p)
          → set_bits flip st (chosen f g (suc n)) (number_in f (suc n) (b ∷ s)) p ≡ st p
      go true e ih =
          ap (λ (l : List ℕ). set_bits flip st l (number_in f (suc n) (b ∷ s)) p) (chosen_front f g n ∙ ap (λ (x : Bool). pick x (g 0 ∷ chosen (after f) (after g) n) (chosen (after f) (after g) n)) e)
          ∙ ap (λ (h : ℕ → Bool). h p) (set_front st (g 0) (chosen (after f) (after g) n) b (number_in (after f) n s) (number_in f (suc n) (b ∷ s)) (number_hit f n b s e))
          ∙ ih (λ q. pick (eqb q (g 0)) (xor (flip (g 0)) b) (st q))
          ∙ ap (λ (c : Bool). pick c (xor (flip (g 0)) b) (st p)) (ne_eqb p (g 0) (λ q. other 0 (omega arith) e (sym q)))
      go false e ih =
          ap₂ (λ (l : List ℕ) (k : ℕ). set_bits flip st l k p) (chosen_front f g n ∙ ap (λ (x : Bool). pick x (g 0 ∷ chosen (after f) (after g) n) (chosen (after f) (after g) n)) e) (number_miss f n b s e)
          ∙ ih st

  -- the pin of a named variable has the variable's value, complemented where flip says so
  pub set_at : (n : ℕ) (f : ℕ → Bool) (g : ℕ → ℕ) (s : List Bool) (st : ℕ → Bool) (i : ℕ) → length s ≡ n → i < n → f i ≡ true
      → ((a b : ℕ) → a < n → b < n → g a ≡ g b → a ≡ b)
      → set_bits flip st (chosen f g n) (number_in f n s) (g i) ≡ xor (flip (g i)) (get_or s i false)
  set_at zero f g s st i z h t one = absurd (omega arith)
  set_at (suc n) f g [] st i z h t one = absurd (omega (arith, z))
  set_at (suc n) f g (b ∷ s) st zero z h t one =
      ap (λ (l : List ℕ). set_bits flip st l (number_in f (suc n) (b ∷ s)) (g 0)) (chosen_front f g n ∙ ap (λ (x : Bool). pick x (g 0 ∷ chosen (after f) (after g) n) (chosen (after f) (after g) n)) t)
      ∙ ap (λ (h : ℕ → Bool). h (g 0)) (set_front st (g 0) (chosen (after f) (after g) n) b (number_in (after f) n s) (number_in f (suc n) (b ∷ s)) (number_hit f n b s t))
      ∙ unset n (after f) (after g) s (λ q. pick (eqb q (g 0)) (xor (flip (g 0)) b) (st q)) (g 0) (omega (arith, z))
      (λ j l u q. let w = one (suc j) 0 (omega arith) (omega arith) q in absurd (omega (arith, w)))
      ∙ ap (λ (c : Bool). pick c (xor (flip (g 0)) b) (st (g 0))) (eq-eqb (g 0) (g 0) refl)
  set_at (suc n) f g (b ∷ s) st (suc i) z h t one =
      go (f 0) refl
      (λ st'. set_at n (after f) (after g) s st' i (omega (arith, z)) (omega arith) t (λ x y l m q. let w = one (suc x) (suc y) (omega arith) (omega arith) q in omega (arith, w)))
    where
      go : (x : Bool) → f 0 ≡ x → ((st' : ℕ → Bool) → set_bits flip st' (chosen (after f) (after g) n) (number_in (after f) n s) (g (suc i)) ≡ xor (flip (g (suc i))) (get_or s i false))
          → set_bits flip st (chosen f g (suc n)) (number_in f (suc n) (b ∷ s)) (g (suc i)) ≡ xor (flip (g (suc i))) (get_or s i false)
      go true e ih =
          ap (λ (l : List ℕ). set_bits flip st l (number_in f (suc n) (b ∷ s)) (g (suc i))) (chosen_front f g n ∙ ap (λ (x : Bool). pick x (g 0 ∷ chosen (after f) (after g) n) (chosen (after f) (after g) n)) e)
          ∙ ap (λ (h : ℕ → Bool). h (g (suc i))) (set_front st (g 0) (chosen (after f) (after g) n) b (number_in (after f) n s) (number_in f (suc n) (b ∷ s)) (number_hit f n b s e))
          ∙ ih (λ q. pick (eqb q (g 0)) (xor (flip (g 0)) b) (st q))
      go false e ih =
          ap₂ (λ (l : List ℕ) (k : ℕ). set_bits flip st l k (g (suc i))) (chosen_front f g n ∙ ap (λ (x : Bool). pick x (g 0 ∷ chosen (after f) (after g) n) (chosen (after f) (after g) n)) e) (number_miss f n b s e)
          ∙ ih st
