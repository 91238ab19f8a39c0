-- An array made by a function of the place, as the list of its values.
-- Assumes nothing.
use mathlib.Core.Path.{◌≡◌, refl, sym, ap, ◌∙◌, subst}
use mathlib.Core.List.{List}
use Prim.Native.Nat.{ℕ, zero, suc, ◌+◌, ◌<◌, ◌≤◌}
use native.Mathlib.Omega.{arith}
use native.Mathlib.Nat.{eq-or-lt_of_le}
use mathlib.Core.Logic.{⊎_elim}
use denote.Param.Members.{Mut}
use lib.ListN.{get_or}
use Rattle.std.specs.Fn.{Called}
use Rattle.std.specs.Array.{IsFromFnResult, IsFromFnResultFrom}
use Rattle.basics.specs.Below.{listed}
use Rattle.basics.proofs.Folds.{listing_end}

module _ {F : Type 0} {g : Mut F (ℕ × Unit {0}) ℕ} (f : ℕ → ℕ) (h : F) (says : (x y : ℕ) (q : F) → Called g h (x, tt) y q → (q ≡ h) × (y ≡ f x)) where
  from : (ys : List ℕ) (i n : ℕ) (p : F) → p ≡ h → IsFromFnResultFrom g p ys i n → (j : ℕ) → i ≤ j → j < i + n → get_or ys j 0 ≡ f j
  from ys i zero p e t j a b = absurd (omega arith)
  from ys i (suc n) p e t j a b =
      let here = says i t.1 t.0 (subst (λ (k : F). Called g k (i, tt) t.1 t.0) e t.3) in
      ⊎_elim
      (λ (q : i ≡ j). ap (λ (k : ℕ). get_or ys k 0) (sym q) ∙ t.2.1 0 ∙ here.1 ∙ ap f q)
      (λ (l : i < j). from ys (i + 1) n t.0 here.0 t.4 j (omega arith) (omega arith))
      (eq-or-lt_of_le a)

  pub array_is : (ys : List ℕ) (n : ℕ) → IsFromFnResult g h ys n → ys ≡ listed f n
  array_is ys n c = listing_end f n ys n (omega arith) (record { size = c.long; under = omega arith; says = λ j l. from ys 0 n h refl c.each j (omega arith) (omega arith) })
