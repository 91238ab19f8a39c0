-- The definitions of names, a byte or an entry at a time. The loops cite these.
-- Assumes nothing.
use mathlib.Core.Path.{◌≡◌, refl, ap, ◌∙◌}
use mathlib.Core.Bool.{Bool, true, false, ◌&&◌}
use mathlib.Core.List.{List, [], ◌∷◌}
use Prim.Native.Nat.{ℕ, ◌-◌, ◌<◌, ◌≤◌}
use native.Mathlib.Omega.{arith}
use lib.ListN.{length, get_or, take, drop}
use Rattle.std.proofs.lemmas.List.{take_all}
use lib.Dec.{eqb}
use lib.Pointwise.{pointwise}
use borrow.Author.Tests.{eq-eqb, ne_eqb}
use Rattle.names.specs.Names.{Spelling, spelling, same_bytes, same, find, entry, entries, known, unknown, shown}

same_pointwise : (xs ys : List ℕ) → pointwise eqb xs ys ≡ same_bytes xs ys
unfolding same_bytes
same_pointwise [] [] = refl
same_pointwise [] (b ∷ ys) = refl
same_pointwise (a ∷ xs) [] = refl
same_pointwise (a ∷ xs) (b ∷ ys) = ap (λ (r : Bool). eqb a b && r) (same_pointwise xs ys)

pub same_spelt : (s : List ℕ) (a m b n : ℕ) → m ≡ n → pointwise eqb (take m (drop a s)) (take n (drop b s)) ≡ same (spelling s a m) (spelling s b n)
unfolding same spelling
same_spelt s a m b n e = same_pointwise (take m (drop a s)) (take n (drop b s)) ∙ (simp (eq-eqb m n e))

-- the first name of those lent, and those behind it
module _ (s : List ℕ) (w : Spelling) where
  pub find_here : (t : List ℕ) → 5 ≤ length t → same (spelling s (get_or t 0 0) (get_or t 1 0)) w ≡ true
      → shown (find w (entries s t)) ≡ known (get_or t 2 0) (get_or t 3 0) (get_or t 4 0)
  unfolding find entries entry
  find_here [] h e = absurd (omega arith)
  find_here (a ∷ []) h e = absurd (omega arith)
  find_here (a ∷ b ∷ []) h e = absurd (omega arith)
  find_here (a ∷ b ∷ c ∷ []) h e = absurd (omega arith)
  find_here (a ∷ b ∷ c ∷ d ∷ []) h e = absurd (omega arith)
  find_here (a ∷ b ∷ c ∷ d ∷ z ∷ t) h e = simp e

  pub find_past : (t : List ℕ) → 5 ≤ length t → same (spelling s (get_or t 0 0) (get_or t 1 0)) w ≡ false
      → find w (entries s t) ≡ find w (entries s (take (length t - 5) (drop 5 t)))
  unfolding find entries entry
  find_past [] h e = absurd (omega arith)
  find_past (a ∷ []) h e = absurd (omega arith)
  find_past (a ∷ b ∷ []) h e = absurd (omega arith)
  find_past (a ∷ b ∷ c ∷ []) h e = absurd (omega arith)
  find_past (a ∷ b ∷ c ∷ d ∷ []) h e = absurd (omega arith)
  find_past (a ∷ b ∷ c ∷ d ∷ z ∷ t) h e = rw (take_all (length (a ∷ b ∷ c ∷ d ∷ z ∷ t) - 5) t (omega arith)) (simp e)

short : (s t : List ℕ) → length t < 5 → entries s t ≡ []
unfolding entries
short s [] h = refl
short s (a ∷ []) h = refl
short s (a ∷ b ∷ []) h = refl
short s (a ∷ b ∷ c ∷ []) h = refl
short s (a ∷ b ∷ c ∷ d ∷ []) h = refl
short s (a ∷ b ∷ c ∷ d ∷ e ∷ t) h = absurd (omega arith)

pub find_none : (s t : List ℕ) (w : Spelling) → length t < 5 → shown (find w (entries s t)) ≡ unknown
unfolding find
find_none s t w h = rw (short s t h) refl

pub same_other : (s : List ℕ) (a m b n : ℕ) → (m ≡ n → ⊥) → same (spelling s a m) (spelling s b n) ≡ false
unfolding same spelling
same_other s a m b n e = simp (ne_eqb _ _ e)
