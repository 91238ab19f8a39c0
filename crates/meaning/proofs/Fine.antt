-- What is known of the elements of a module that stage 5 lets pass. Assumes nothing.
use mathlib.Core.Path.{◌≡◌, refl, sym, ap, ◌∙◌, subst}
use mathlib.Core.Bool.{Bool, true, false}
use mathlib.Core.List.{List}
use Prim.Native.Nat.{ℕ, zero, suc, ◌≤◌, ◌<◌}
use native.Mathlib.Omega.{arith}
use lib.Dec.{T, ltb}
use borrow.Author.Tests.{lt-ltb, le-ltb}
use Rattle.basics.specs.Choice.{pick}
use Rattle.basics.proofs.Truth.{clash}
use Rattle.basics.proofs.Store.{below_or_not}
use mathlib.Core.Logic.{⊎_elim}
use Rattle.trees.specs.Layout.{Elements, elements_of, class_of}
use Rattle.reach.specs.Uses.{replaced, remains}
use Rattle.circuit.specs.StageFive.{Verdict, misassigned, misplaced, looped, mispositioned, first_below, stage_five}
use Rattle.circuit.specs.StageFive.Verdict.{fine, refused}
use Rattle.circuit.proofs.First.{first_is}

-- none is first, so none is at fault
none_next : (f : ℕ → Bool) (n i : ℕ) → i < n → ltb (first_below f n) n ≡ false → ((j : ℕ) → j < i → f j ≡ false) → (k : ℕ) → k < suc i → f k ≡ false
none_next f n i h e before k l = go (f i) refl
  where
    go : (b : Bool) → f i ≡ b → f k ≡ false
    go true q = absurd (clash (sym (lt-ltb (first_below f n) n (subst (λ (x : ℕ). x < n) (sym (first_is f n i h before q)) h)) ∙ e))
    go false q = ⊎_elim (λ (z : k < i). before k z) (λ (z : i ≤ k). let w : k ≡ i = omega arith in ap f w ∙ q) (below_or_not k i)

none_first : (f : ℕ → Bool) (n i : ℕ) → i ≤ n → ltb (first_below f n) n ≡ false → (k : ℕ) → k < i → f k ≡ false
none_first f n zero h e k l = absurd (omega arith)
none_first f n (suc i) h e k l = none_next f n i (omega arith) e (λ j m. none_first f n i (omega arith) e j m) k l

fine_refused : (n p : ℕ) → refused n p ≡ fine → ⊥
fine_refused n p e = subst (λ (v : Verdict). T (is_refused v)) e tt
  where
    is_refused : Verdict → Bool
    is_refused fine = false
    is_refused (refused n p) = true

-- a pass that lets go on has no element at fault, and what is behind it lets pass too
passed : (b : Bool) (n p : ℕ) (v : Verdict) → pick b (refused n p) v ≡ fine → (b ≡ false) × (v ≡ fine)
passed true n p v e = absurd (fine_refused n p e)
passed false n p v e = (refl, e)

pub record Fine (e : Elements) : Type 0 where
  pub assigned : (i : ℕ) → i < 64 → misassigned e i ≡ false
  pub placed : (i : ℕ) → i < 64 → misplaced e i ≡ false
  pub free : (i : ℕ) → i < 64 → looped e i ≡ false
  pub positioned : (i : ℕ) → i < 64 → mispositioned e i ≡ false

pub fine_is : (e : Elements) → stage_five e ≡ fine → Fine e
unfolding stage_five
fine_is e q =
    let a = passed (ltb (first_below (misassigned e) 64) 64) 7 _ _ q in
    let b = passed (ltb (first_below (misplaced e) 64) 64) 8 _ _ a.1 in
    let c = passed (ltb (first_below (looped e) 64) 64) 9 _ _ b.1 in
    let d = passed (ltb (first_below (mispositioned e) 64) 64) 10 _ _ c.1 in
    record {
      assigned = none_first (misassigned e) 64 64 (omega arith) a.0;
      placed = none_first (misplaced e) 64 64 (omega arith) b.0;
      free = none_first (looped e) 64 64 (omega arith) c.0;
      positioned = none_first (mispositioned e) 64 64 (omega arith) d.0;
    }

-- the elements in memory are 64
class_beyond : (parts : List ℕ) (i : ℕ) → 64 ≤ i → class_of parts i ≡ 0
unfolding class_of
class_beyond parts i h = simp (le-ltb i 64 h)

pub replaced_beyond : (parts : List ℕ) (i : ℕ) → 64 ≤ i → replaced (elements_of parts) i ≡ false
unfolding replaced
replaced_beyond parts i h = simp (class_beyond parts i h)

pub remains_beyond : (parts : List ℕ) (i : ℕ) → 64 ≤ i → remains (elements_of parts) i ≡ false
unfolding remains
remains_beyond parts i h = simp (class_beyond parts i h)

pub replaced_small : (parts : List ℕ) (i : ℕ) → T (replaced (elements_of parts) i) → i < 64
replaced_small parts i t = ⊎_elim (λ (h : i < 64). h) (λ (h : 64 ≤ i). absurd (subst (λ (b : Bool). T b) (replaced_beyond parts i h) t)) (below_or_not i 64)
