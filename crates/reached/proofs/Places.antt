-- A word that is not the end stands within the text, and a number word says at most 65,535.
-- Assumes nothing.
use mathlib.Core.Path.{◌≡◌, refl}
use mathlib.Core.Bool.{Bool, true, false}
use mathlib.Core.List.{List, [], ◌∷◌}
use Prim.Native.Nat.{ℕ, suc, ◌+◌, ◌-◌, ◌<◌, ◌≤◌}
use native.Mathlib.Omega.{arith}
use lib.ListN.{length, get_or, drop, length-drop}
use lib.Dec.{eqb, ltb}
use borrow.Author.Tests.{ltb-true, ltb-false}
use Rattle.basics.specs.Choice.{pick}
use Rattle.words.specs.Bytes.{is_letter, is_digit, is_name_byte, is_single, is_pair}
use Rattle.words.specs.Words.{gap, end_of, value_of, keyword_of, named, word, name_at, number_at, pair_kind, pair_at, logic_at, form_at, word_at, after, next_word}
use Rattle.words.specs.Taken.{Taken, Word, Refused, Gap, Here, Cut}

-- a word from st to nx that says v, in a text of n bytes
pub record Stands (n st nx v : ℕ) : Type 0 where
  pub starts : st < n
  pub ends : nx ≤ n + 2
  pub says : v ≤ 65535

abbrev pub Inside : ℕ → Taken → Type 0
Inside n (Word k st v c) = (k ≡ 0 → ⊥) → Stands n st c.at v
Inside n (Refused k p) = Unit {0}

inside_pick : (n : ℕ) (b : Bool) (x y : Taken) → (b ≡ true → Inside n x) → (b ≡ false → Inside n y) → Inside n (pick b x y)
inside_pick n true x y p q = p refl
inside_pick n false x y p q = q refl

pick_up : (b : Bool) (x y m : ℕ) → x ≤ m → y ≤ m → pick b x y ≤ m
pick_up true x y m p q = p
pick_up false x y m p q = q

end_up : (p : ℕ → Bool) (s : List ℕ) (at : ℕ) → end_of p s at ≤ at + length s
unfolding end_of
end_up p [] at = omega arith
end_up p (b ∷ s) at = pick_up (p b) (end_of p s (at + 1)) at (at + suc (length s)) (let h : end_of p s (at + 1) ≤ at + 1 + length s = end_up p s (at + 1) in omega arith) (omega arith)

module _ (s : List ℕ) (p : ℕ) (h : p < length s) where
  abbrev n : ℕ
  n = length s

  stands : (e v : ℕ) → e ≤ n + 2 → v ≤ 65535 → Stands n p e v
  stands e v a b = record { starts = h; ends = a; says = b }

  end-in : (f : ℕ → Bool) → end_of f (drop p s) p ≤ n
  end-in f = let k : end_of f (drop p s) p ≤ p + length (drop p s) = end_up f (drop p s) p in let d : length (drop p s) ≡ n - p = length-drop p s in omega arith

  named_in : (e : ℕ) → e ≤ n + 2 → Inside n (named s p e)
  unfolding named
  named_in e l = inside_pick n (ltb 16 (e - p)) (Refused 2 p) (word (keyword_of (drop p s) (e - p)) p 0 e) (λ b. tt) (λ b nz. stands e 0 l (omega arith))

  name_in : Inside n (name_at s p)
  unfolding name_at
  name_in =
      let e : ℕ = end_of is_name_byte (drop p s) p in
      let l : e ≤ n = end-in is_name_byte in
      inside_pick n (eqb (get_or s e 0) 39) (named s p (e + 1)) (named s p e) (λ b. named_in (e + 1) (omega arith)) (λ b. named_in e (omega arith))

  number_in : Inside n (number_at s p)
  unfolding number_at
  number_in =
      let v : ℕ = value_of 0 (drop p s) in
      let e : ℕ = end_of is_digit (drop p s) p in
      let l : e ≤ n = end-in is_digit in
      inside_pick n (ltb 65535 v) (word 4 p 0 e) (word 2 p v e) (λ b nz. stands e 0 (omega arith) (omega arith))
      (λ b nz. stands e v (omega arith) (ltb-false 65535 v b))

  pair-in : Inside n (pair_at s p)
  unfolding pair_at
  pair-in =
      let k : ℕ = pair_kind (get_or s p 0) (get_or s (p + 1) 0) in
      inside_pick n (eqb k 0) (word (get_or s p 0) p 0 (p + 1)) (word k p 0 (p + 2))
      (λ b nz. stands (p + 1) 0 (omega arith) (omega arith)) (λ b nz. stands (p + 2) 0 (omega arith) (omega arith))

  logic-in : Inside n (logic_at s p)
  unfolding logic_at
  logic-in =
      inside_pick n (eqb (get_or s (p + 1) 0) 48) (word 3 p 0 (p + 2)) _ (λ b nz. stands (p + 2) 0 (omega arith) (omega arith)) (λ f.
      inside_pick n (eqb (get_or s (p + 1) 0) 49) (word 3 p 1 (p + 2)) (Refused 2 p) (λ b nz. stands (p + 2) 1 (omega arith) (omega arith)) (λ f. tt))

  form_in : Inside n (form_at s (get_or s p 0) p)
  unfolding form_at
  form_in =
      let b = get_or s p 0 in
      inside_pick n (is_letter b) (name_at s p) _ (λ e. name_in) (λ f2.
      inside_pick n (is_digit b) (number_at s p) _ (λ e. number_in) (λ f3.
      inside_pick n (is_single b) (word b p 0 (p + 1)) _ (λ e nz. stands (p + 1) 0 (omega arith) (omega arith)) (λ f4.
      inside_pick n (is_pair b) (pair_at s p) _ (λ e. pair-in) (λ f5.
      inside_pick n (eqb b 39) (logic_at s p) (Refused 2 p) (λ e. logic-in) (λ f6. tt)))))

word_in : (s : List ℕ) (p : ℕ) → Inside (length s) (word_at s p)
unfolding word_at
word_in s p =
    inside_pick (length s) (ltb p (length s)) (form_at s (get_or s p 0) p) (word 0 p 0 p)
    (λ b. form_in s p (ltb-true p (length s) b)) (λ b nz. absurd (nz refl))

after_in : (s : List ℕ) (g : Gap) → Inside (length s) (after s g)
after_in s (Here p) = word_in s p
after_in s (Cut p) = tt

pub next_in : (s : List ℕ) (at : ℕ) → Inside (length s) (next_word s at)
unfolding next_word
next_in s at = after_in s (gap 0 (drop at s) at)
