-- Digits written from the last to the first. Assumes nothing.
use mathlib.Core.Path.{◌≡◌, refl, sym, ap, subst, ◌∙◌}
use mathlib.Core.Bool.{Bool, true, false}
use mathlib.Core.List.{List, [], ◌∷◌, ◌++◌, append_assoc}
use Prim.Native.Nat.{ℕ, zero, suc, ◌+◌, ◌*◌, ◌-◌, ◌/◌, ◌%◌, ◌^◌, ◌≤◌, ◌<◌}
use native.Mathlib.Nat.{pow-suc}
use native.Mathlib.Omega.{arith}
use lib.ListN.{length, drop, set, length-set, length-append, drop_of_length-le}
use lib.Dec.{eqb}
use borrow.Author.Tests.{ne_eqb}
use Rattle.basics.specs.Choice.{pick}
use Rattle.basics.specs.Text.{text}
use Rattle.lines.specs.Decimal.{spell, decimal, refusal_line}

-- what stands from a place on, once it is stored there
pub drop_set : (l : List ℕ) (i x : ℕ) → i < length l → drop i (set l i x) ≡ x ∷ drop (suc i) l
drop_set [] i x h = absurd (omega arith)
drop_set (y ∷ l) zero x h = refl
drop_set (y ∷ l) (suc i) x h = drop_set l i x (omega arith)

-- The digits still to come before those that stand from i on are those of `rest`.
pub record Spells (n : ℕ) (l : List ℕ) (i rest : ℕ) : Type 0 where
  pub size : length l ≡ 20
  pub below : i ≤ 19
  pub fits : rest < 10 ^ i
  pub whole : spell i rest ++ drop i l ≡ decimal n

-- the last digit
pub spells_start : (n : ℕ) (l : List ℕ) → length l ≡ 20 → n / 10 < 10 ^ 19 → Spells n (set l 19 (48 + n % 10)) 19 (n / 10)
unfolding decimal
spells_start n l h k = record {
  size = length-set l 19 (48 + n % 10) ∙ h;
  below = omega arith;
  fits = k;
  whole = ap (λ (t : List ℕ). spell 19 (n / 10) ++ t) (drop_set l 19 (48 + n % 10) (omega arith) ∙ ap {B = List ℕ} (λ t. (48 + n % 10) ∷ t) (drop_of_length-le l {i = 20} (omega arith)));
}

-- there is room for another digit
pub spells_room : (n : ℕ) (l : List ℕ) (i rest : ℕ) → Spells n l i rest → 0 < rest → 1 ≤ i
spells_room n l zero rest s h = let k = s.fits in absurd (omega arith)
spells_room n l (suc i) rest s h = omega arith

-- a digit more
pub spells_more : (n : ℕ) (l : List ℕ) (i rest : ℕ) → Spells n l i rest → 0 < rest → Spells n (set l (i - 1) (48 + rest % 10)) (i - 1) (rest / 10)
unfolding spell
spells_more n l zero rest s h = let k = s.fits in absurd (omega arith)
spells_more n l (suc i) rest s h =
    let z : length l ≡ 20 = s.size in
    let b : suc i ≤ 19 = s.below in
    let p : i ≡ suc i - 1 = omega arith in
    let q : rest ≡ 0 → ⊥ = (λ d. omega arith) in
    let f : rest / 10 < 10 ^ i = let k = s.fits in let t : 10 ^ suc i ≡ 10 ^ i * 10 = pow-suc 10 i in omega arith in
    let w : spell i (rest / 10) ++ drop i (set l i (48 + rest % 10)) ≡ decimal n =
    ap (λ (t : List ℕ). spell i (rest / 10) ++ t) (drop_set l i (48 + rest % 10) (omega arith))
    ∙ sym (append_assoc (spell i (rest / 10)) ((48 + rest % 10) ∷ []) (drop (suc i) l))
    ∙ ap (λ (t : Bool). pick t [] (spell i (rest / 10) ++ ((48 + rest % 10) ∷ [])) ++ drop (suc i) l) (sym (ne_eqb _ _ q))
    ∙ s.whole in
    subst (λ (j : ℕ). Spells n (set l j (48 + rest % 10)) j (rest / 10)) p
    (record { size = length-set l i (48 + rest % 10) ∙ z; below = omega arith; fits = f; whole = w })

-- all digits stand
pub spells_end : (n : ℕ) (l : List ℕ) (i rest : ℕ) → Spells n l i rest → rest ≡ 0 → drop i l ≡ decimal n
spells_end n l i rest s e = ap (λ (t : List ℕ). t ++ drop i l) (sym (nought i) ∙ ap (spell i) (sym e)) ∙ s.whole
  where
    nought : (k : ℕ) → spell k 0 ≡ []
    nought zero = unfold spell in refl
    nought (suc k) = unfold spell in refl

-- how long they are
pub length_spell : (k n : ℕ) → length (spell k n) ≤ k
unfolding spell
length_spell zero n = omega arith
length_spell (suc k) n = go (eqb n 0) (length_spell k (n / 10))
  where
    go : (b : Bool) → length (spell k (n / 10)) ≤ k → length (pick b [] (spell k (n / 10) ++ ((48 + n % 10) ∷ []))) ≤ suc k
    go true h = omega arith
    go false h = omega (arith, length-append (spell k (n / 10)) ((48 + n % 10) ∷ []))

pub length_decimal : (n : ℕ) → length (decimal n) ≤ 20
unfolding decimal
length_decimal n = omega (arith, length-append (spell 19 (n / 10)) ((48 + n % 10) ∷ []), length_spell 19 (n / 10))

-- computed
pub decimal_nought : decimal 0 ≡ text "0"
unfolding decimal spell
decimal_nought = refl

pub refusal_line_lem : refusal_line 20 65537 ≡ text "20 65537\n"
unfolding refusal_line decimal spell
refusal_line_lem = refl
