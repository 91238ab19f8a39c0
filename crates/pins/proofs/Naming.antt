-- The table's names are the equation's. Assumes nothing.
use mathlib.Core.Path.{◌≡◌, refl, sym, ap, ap₂, ◌∙◌, subst}
use mathlib.Core.Bool.{Bool, true, false, ◌&&◌, ◌||◌}
use mathlib.Core.List.{List}
use Prim.Native.Nat.{ℕ, ◌<◌}
use lib.Dec.{eqb}
use borrow.Author.Tests.{eq-eqb, lt-ltb}
use lib.ListN.{get_or, replicate}
use Rattle.basics.specs.Choice.{bit, on}
use Rattle.basics.specs.Below.{listed}
use Rattle.basics.proofs.Folds.{any_same, listed_same, listed_at}
use Rattle.trees.specs.Layout.{Elements}
use Rattle.trees.proofs.Stack.{on_bit}
use Rattle.reach.specs.Uses.{names, writes, uses}
use Rattle.reach.specs.Reach.{via}
use Rattle.reach.specs.Meeting.{meets}
use Rattle.reach.proofs.Meeting.{meets_is}
use Rattle.reach.specs.Table.{cell, Matrix, marked}
use Rattle.reach.proofs.Warshall.{matrix_cell, matrix_none}
use Rattle.reach.proofs.Marking.{marks}
use Rattle.pins.specs.Named.{mentions}
use Rattle.pins.specs.Memory.{named_in}

module _ (e : Elements) (d m z : List ℕ) (o : ℕ) (ho : o < 64) (ez : z ≡ replicate 4096 0) (ed : d ≡ marked z o (e.nodes o)) (mx : Matrix m (via (uses e) 64)) where
  nothing : ℕ → ℕ → Bool
  nothing a b = false

  row : Matrix d (λ a b. false || (eqb a o && names (e.nodes o) b))
  row = subst (λ (l : List ℕ). Matrix l (λ a b. false || (eqb a o && names (e.nodes o) b))) (sym ed) (marks (e.nodes o) z (λ a b. false) o ho (matrix_none z (λ a b. false) ez (λ i j. refl)))

  written : (k : ℕ) → k < 64 → cell d o k ≡ writes e o k
  unfolding writes
  written k h =
      matrix_cell d (λ a b. false || (eqb a o && names (e.nodes o) b)) row o k ho h
      ∙ (λ x. eq-eqb o o refl x && names (e.nodes o) k)
      ∙ sym (λ x. lt-ltb k 64 h x && names (e.nodes o) k)

  named-mentions : (j : ℕ) → j < 64 → named_in d m o j ≡ mentions e o j
  unfolding named_in mentions
  named-mentions j h =
      ap₂ (λ (a b : Bool). a || b) (written j h)
      (any_same (λ k. cell d o k && cell m k j) (λ k. writes e o k && meets e k j) 64
      (λ k l. ap₂ (λ (a b : Bool). a && b) (written k l) (matrix_cell m (via (uses e) 64) mx k j l h ∙ sym (meets_is e k j))))

  pub row_is : listed (λ j. bit (named_in d m o j)) 64 ≡ listed (λ j. bit (mentions e o j)) 64
  row_is = listed_same (λ j. bit (named_in d m o j)) (λ j. bit (mentions e o j)) 64 (λ j h. ap bit (named-mentions j h))

-- an entry of the row
pub row_at : (e : Elements) (row : List ℕ) (o j : ℕ) → row ≡ listed (λ j. bit (mentions e o j)) 64 → j < 64 → on (get_or row j 0) ≡ mentions e o j
row_at e _ o j q h = ap (λ (l : List ℕ). on (get_or l j 0)) q ∙ ap on (listed_at (λ j. bit (mentions e o j)) 64 j h) ∙ on_bit (mentions e o j)

-- where a test answers a disjunction: it passes, or it does not and another is made
pub or_then : (a b c : Bool) → a ≡ b → a ≡ true → a ≡ (b || c)
or_then a b c e t = t ∙ ap (λ (x : Bool). x || c) (sym t ∙ e)

pub or_else : (a b c d : Bool) → a ≡ b → a ≡ false → d ≡ c → d ≡ (b || c)
or_else a b c d e f q = q ∙ ap (λ (x : Bool). x || c) (sym f ∙ e)
