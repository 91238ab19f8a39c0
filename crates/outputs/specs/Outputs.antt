-- From a module's elements to the ten cells and the map (document 01, "From equation to rows"; "Refusal numbers", stage 6). Cells are counted from 0, that of
-- pin 23 first. Assumes nothing.
use Rattle.std.specs.Prelude.{Bool, true, not, ◌&&◌, ◌||◌, List, [], ◌∷◌, ℕ, ◌-◌, ◌^◌, eqb, leb, ltb}
use Rattle.basics.specs.Choice.{pick, bit}
use Rattle.basics.specs.Below.{listed}
use Rattle.trees.specs.Layout.{Elements}
use Rattle.reach.specs.Uses.{registers, inverts}
use Rattle.circuit.specs.StageFive.{Verdict, fine, refused, first_below}
use Rattle.meaning.specs.Circuit.{out_at}
use Rattle.pins.specs.Variables.{count_of, mask_of}
use Rattle.tables.specs.Tables.{entry_of}
use Rattle.engine.specs.Table.{function}
use Rattle.fit.specs.Fit.{Programmed, fitted, refused as noProducts}
use Rattle.cells.specs.Map.{map_of}
use Rattle.behave.specs.Cells.{Kind, unused, combinational, registered, code, Cells}

-- the OUT element of cell k, 64 where there is none
abbrev pub out_of : Elements → ℕ → ℕ
out_of e k = out_at e (23 - k)

-- a cell without OUT is unused; one whose equation is REG or ~REG is registered
unfoldable pub kind_of : Elements → ℕ → Kind
kind_of e k = pick (ltb (out_of e k) 64) (pick (registers (e.nodes (out_of e k))) registered combinational) unused

-- the truth table of OUT o over the variables of rows that it names
unfoldable pub table_of : Elements → ℕ → List ℕ
table_of e o = listed (λ k. bit (entry_of e true o k)) (2 ^ count_of e true o)

-- The ten cells as functions: REG shows Q (S0 = 1), ~REG its inverse.
abbrev pub cells_of : Elements → Cells
cells_of e =
    record {
      kind = kind_of e;
      start = λ k. not (inverts (e.nodes (out_of e k)));
      named = λ k. mask_of e true (out_of e k);
      function = λ k. function (table_of e (out_of e k));
    }

-- what OUT o is fitted to, in the cell of its pin
unfoldable pub fitted_out : Elements → ℕ → Programmed
fitted_out e o = fitted (23 - e.pin o) (registers (e.nodes o)) (not (inverts (e.nodes o))) (mask_of e true o) (function (table_of e o))

-- Stage 6, each OUT in declaration order: 11 where it names more than ten pins, 12 where its complete sum doesn't fit
unfoldable pub too_many : Elements → ℕ → Bool
too_many e o = not (leb (count_of e true o) 10)

unfoldable pub misfits : Elements → ℕ → Bool
misfits e o = eqb (e.class o) 2 && (too_many e o || not (fitted_out e o).ok)

unfoldable pub stage_six : Elements → Verdict
stage_six e =
    let o : ℕ = first_below (misfits e) 64 in
    pick (ltb o 64) (refused (pick (too_many e o) 11 12) (e.place o)) fine

-- what cell k is fitted to: nothing where it is unused
unfoldable pub cell_of : Elements → ℕ → Programmed
cell_of e k = pick (ltb (out_of e k) 64) (fitted_out e (out_of e k)) (noProducts)

-- the arrays by cell: masks, counts of products, kinds, S0
abbrev pub ten : {A : Type 0} → (ℕ → A) → List A
ten f = f 0 ∷ f 1 ∷ f 2 ∷ f 3 ∷ f 4 ∷ f 5 ∷ f 6 ∷ f 7 ∷ f 8 ∷ f 9 ∷ []

abbrev pub masks_of : Elements → List (List ℕ)
masks_of e = ten (λ k. (cell_of e k).masks)

abbrev pub counts_of : Elements → List ℕ
counts_of e = ten (λ k. (cell_of e k).n)

abbrev pub kinds_of : Elements → List ℕ
kinds_of e = ten (λ k. code (kind_of e k))

abbrev pub s0s_of : Elements → List ℕ
s0s_of e = ten (λ k. bit (cell_of e k).s0)

-- the map of a module whose outputs all fit
unfoldable pub map_for : Elements → List ℕ
map_for e = map_of (masks_of e) (counts_of e) (kinds_of e) (s0s_of e)
