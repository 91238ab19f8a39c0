-- Stage 6 as the code gives it, and what it leaves in the memory that it was lent. Assumes nothing.
use Rattle.std.specs.Prelude.{◌≡◌, Bool, ◌&&◌, List, [], ◌++◌, ℕ, ◌-◌, ◌<◌, ◌≤◌, eqb, ltb, get_or, take, set, Result, Ok, Err}
use Rattle.basics.specs.Choice.{pick, bit}
use Rattle.basics.specs.declared.refusal.Refusal.{Refusal}
use Rattle.basics.specs.Refusal.{number_of as reason_number}
use Rattle.trees.specs.Layout.{Elements}
use Rattle.circuit.specs.StageFive.{Verdict}
use Rattle.circuit.specs.StageFive.Verdict.{fine, refused}
use Rattle.meaning.specs.Circuit.{out_at}
use Rattle.cells.specs.Kind.{numbers}
use Rattle.cells.specs.Counts.{picks}
use Rattle.cells.specs.declared.Cells.{Cells}
use Rattle.outputs.specs.Trial.{tried_of}
use Rattle.outputs.specs.Outputs.{ten, cell_of, fitted_out, masks_of, counts_of, kinds_of, s0s_of}

abbrev pub seen : {A : Type 0} → Result A Refusal → Verdict
seen (Ok a) = fine
seen (Err r) = refused (reason_number r.reason) r.place

-- lent memory holds what is new, and on a refusal what it held before (document 01, "Refusal numbers", at its end)
abbrev pub after : Verdict → List ℕ → List ℕ → List ℕ
after fine new old = new
after (refused n p) new old = old

-- what a fit line counts of each cell: its products, and the factors of all of them together
abbrev pub factors_of : Elements → List ℕ
factors_of e = ten (λ k. picks (take (cell_of e k).n (cell_of e k).masks))

abbrev pub facts_of : Elements → List ℕ
facts_of e = counts_of e ++ factors_of e

-- element i is the OUT of its pin's cell, and fits there
unfoldable pub fills : Elements → ℕ → Bool
fills e i = eqb (e.class i) 2 && (eqb (out_at e (e.pin i)) i && eqb (tried_of e i).number 0)

-- an array by cell once element i has had its turn
abbrev pub placed : {A : Type 0} → Elements → ℕ → List A → A → List A
placed e i l v = pick (fills e i) (set l (23 - e.pin i) v) l

-- the number of the refusal of element i, 0 where there is none
unfoldable pub number_of : Elements → ℕ → ℕ
number_of e i = pick (eqb (e.class i) 2) (tried_of e i).number 0

-- the arrays of the cells once element i has had its turn
pub record Placed (e : Elements) (i : ℕ) (old new : Cells) : Type 0 where
  pub masks_after : new.masks ≡ placed e i old.masks (fitted_out e i).masks
  pub counts_after : new.counts ≡ placed e i old.counts (fitted_out e i).n
  pub kinds_after : new.kinds ≡ old.kinds
  pub s0s_after : new.s0s ≡ placed e i old.s0s (bit (fitted_out e i).s0)

-- the cells hold what every OUT is fitted to
pub record Fitting (e : Elements) (cells : Cells) : Type 0 where
  pub masks_are : cells.masks ≡ masks_of e
  pub counts_are : cells.counts ≡ counts_of e
  pub kinds_are : numbers cells.kinds ≡ kinds_of e
  pub s0s_are : cells.s0s ≡ s0s_of e

-- no cell has more than sixteen products
pub record Few (counts : List ℕ) : Type 0 where
  pub says : (k : ℕ) → k < 10 → get_or counts k 0 ≤ 16

unfoldable pub fact_at : List (List ℕ) → List ℕ → ℕ → ℕ
fact_at all counts j = pick (ltb j 10) (get_or counts j 0) (picks (take (get_or counts (j - 10) 0) (get_or all (j - 10) [])))
