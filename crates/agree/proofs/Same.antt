-- Demand 3 over the elements of two modules: they have the same map exactly if they are the same circuit. Assumes nothing.
use mathlib.Core.Path.{◌≡◌, refl, sym, ap, ap₂, ◌∙◌, fun_ext}
use mathlib.Core.Bool.{Bool, true, false, not, ◌&&◌}
use mathlib.Core.List.{List}
use Prim.Native.Nat.{ℕ, ◌-◌, ◌<◌}
use native.Mathlib.Omega.{arith}
use lib.Dec.{ltb}
use lib.ListN.{length, get_or}
use borrow.Author.Tests.{ltb-true}
use Rattle.basics.specs.Choice.{bit, on, pick, xor}
use Rattle.basics.specs.Below.{listed}
use Rattle.basics.proofs.Folds.{listed_at, listed_length}
use Rattle.basics.proofs.Truth.{clash}
use Rattle.trees.specs.Layout.{Elements}
use Rattle.trees.proofs.Stack.{on_bit}
use Rattle.reach.specs.Uses.{registers, inverts}
use Rattle.meaning.specs.Meaning.{takes_next}
use Rattle.meaning.specs.Circuit.{out_at, circuit_of, SameCircuit}
use Rattle.tables.specs.Tables.{flip_at}
use Rattle.device.specs.Device.{column_of, pair_of}
use Rattle.rows.specs.Setting.{setting_of as variablesFor}
use Rattle.rows.proofs.Rows.{setting_at_lem, setting_size}
use Rattle.gal.specs.Map.{is_cell}
use Rattle.behave.specs.Cells.{Kind, in_use, holds, value, Same}
use Rattle.behave.specs.Cells.Kind.{unused, combinational, registered}
use Rattle.behave.proofs.Behaves.{held_used}
use Rattle.behave.proofs.Canon.{same_map, same_cells}
use Rattle.outputs.specs.Outputs.{out_of, kind_of, cells_of, masks_of, counts_of, kinds_of, s0s_of, map_for}
use Rattle.agree.specs.Passed.{Passed}
use Rattle.agree.specs.Pins.{pins_at}
use Rattle.agree.proofs.Basic.{under, and_first, twice, xor_twice}
use Rattle.agree.proofs.Positions.{out_cell}
use Rattle.agree.proofs.Speaking.{inverts_registers}
use Rattle.agree.proofs.Fitting.{kind_use, cell_pin, use_at, holds_at, fits}
use Rattle.agree.proofs.Columns.{Column}
use Rattle.agree.proofs.Functions.{spoken_column, next_same, function_is, next_is}
use Rattle.agree.proofs.Cycles.{use_under, holds_under}

-- ---- one module

kind_by : (e : Elements) (k : ℕ) → kind_of e k ≡ pick ((circuit_of e).out (23 - k)) (pick ((circuit_of e).registered (23 - k)) registered combinational) unused
unfolding kind_of
kind_by e k = go (ltb (out_of e k) 64) (registers (e.nodes (out_of e k)))
  where
    go : (a b : Bool) → ◌≡◌ {A = Kind} (pick a (pick b registered combinational) unused) (pick a (pick (a && b) registered combinational) unused)
    go true b = refl
    go false b = refl

-- only a register is inverted
inverted_held : (e : Elements) (p : ℕ) → (circuit_of e).inverted p ≡ ((circuit_of e).registered p && (circuit_of e).inverted p)
inverted_held e p = go (ltb (out_at e p) 64) (registers (e.nodes (out_at e p))) (inverts (e.nodes (out_at e p))) (inverts_registers (e.nodes (out_at e p)))
  where
    go : (a r i : Bool) → (i ≡ true → r ≡ true) → (a && i) ≡ ((a && r) && (a && i))
    go true true i h = refl
    go true false true h = absurd (clash (sym (h refl)))
    go true false false h = refl
    go false r i h = refl

-- the variables that give the pins the values s
abbrev signals_for : Elements → (ℕ → Bool) → List ℕ
signals_for e s = listed (λ j. bit (not (xor (flip_at e true (column_of j)) (s (column_of j))))) 22

pins_back : (e : Elements) (s : ℕ → Bool) (p : ℕ) → Column p → pins_at e (variablesFor (signals_for e s)) p ≡ s p
unfolding pins_at
pins_back e s p c =
    let h = c.few in
    let f : ℕ → ℕ = λ j. bit (not (xor (flip_at e true (column_of j)) (s (column_of j)))) in
    let y : 21 - (21 - pair_of p) ≡ pair_of p = omega arith in
    ap (xor (flip_at e true p))
    (setting_at_lem (listed f 22) (21 - pair_of p) false (listed_length f 22) (omega arith)
    ∙ ap (λ (j : ℕ). not (on (get_or (listed f 22) j 0))) y
    ∙ ap (λ (v : ℕ). not (on v)) (listed_at f 22 (pair_of p) h)
    ∙ ap not (on_bit (not (xor (flip_at e true (column_of (pair_of p))) (s (column_of (pair_of p))))))
    ∙ twice (xor (flip_at e true (column_of (pair_of p))) (s (column_of (pair_of p))))
    ∙ ap (λ (x : ℕ). xor (flip_at e true x) (s x)) c.pin)
    ∙ xor_twice (flip_at e true p) (s p)

variables_long : (e : Elements) (s : ℕ → Bool) → length (variablesFor (signals_for e s)) ≡ 22
variables_long e s =
    let f : ℕ → ℕ = λ j. bit (not (xor (flip_at e true (column_of j)) (s (column_of j)))) in
    setting_size (listed f 22) (listed_length f 22)

cell_low : (p : ℕ) → is_cell p ≡ true → 23 - p < 10
cell_low p c = let a = ltb-true 13 p (and_first (ltb 13 p) (ltb p 24) c) in omega arith

-- ---- two modules

module _ (e d : Elements) (ok : Passed e) (fine : Passed d) where
  flips-same : ((p : ℕ) → (circuit_of e).registered p ≡ (circuit_of d).registered p) → ((p : ℕ) → (circuit_of e).inverted p ≡ (circuit_of d).inverted p) → (p : ℕ) → flip_at e true p ≡ flip_at d true p
  unfolding flip_at
  flips-same r i p = λ x. ltb p 24 && pick (r p x) (i p x) true

  pins-same : ((p : ℕ) → flip_at e true p ≡ flip_at d true p) → (s : List Bool) (p : ℕ) → pins_at e s p ≡ pins_at d s p
  unfolding pins_at
  pins-same f s p = ap (λ (b : Bool). xor b (get_or s (21 - pair_of p) false)) (f p)

  -- ---- from circuits to cells

  module _ (c : SameCircuit (circuit_of e) (circuit_of d)) where
    cells-kinds : (k : ℕ) → kind_of e k ≡ kind_of d k
    cells-kinds k =
        kind_by e k
        ∙ ap₂ (λ (a b : Bool). pick a (pick b registered combinational) unused) (c.outs (23 - k)) (c.kinds (23 - k))
        ∙ sym (kind_by d k)

    cells-starts : (k : ℕ) → holds (kind_of e k) ≡ true → not (inverts (e.nodes (out_of e k))) ≡ not (inverts (d.nodes (out_of d k)))
    cells-starts k r =
        let t = sym (kind_use e k) ∙ held_used (kind_of e k) r in
        let u = sym (c.outs (23 - k)) ∙ t in
        ap not (sym (ap (λ (b : Bool). b && inverts (e.nodes (out_of e k))) t) ∙ c.polarities (23 - k) ∙ ap (λ (b : Bool). b && inverts (d.nodes (out_of d k))) u)

    cells-functions : (k : ℕ) → in_use (kind_of e k) ≡ true → (s : List Bool) → length s ≡ 22 → value (cells_of e) k s ≡ value (cells_of d) k s
    cells-functions k u s z =
        let t = sym (kind_use e k) ∙ u in
        let t₂ = sym (c.outs (23 - k)) ∙ t in
        function_is e ok k u s z
        ∙ sym (ap (λ (b : Bool). b && takes_next e (out_of e k) (pins_at e s)) t)
        ∙ c.functions (23 - k) (pins_at e s)
        ∙ ap ((circuit_of d).next (23 - k)) (fun_ext (pins-same (flips-same c.kinds c.polarities) s))
        ∙ ap (λ (b : Bool). b && takes_next d (out_of d k) (pins_at d s)) t₂
        ∙ sym (function_is d fine k (kind_use d k ∙ t₂) s z)

    cells_same : Same (cells_of e) (cells_of d)
    cells_same = record { kinds = λ k h. cells-kinds k; starts = λ k h. cells-starts k; functions = λ k h. cells-functions k }

  -- ---- from cells to circuits

  module _ (c : Same (cells_of e) (cells_of d)) where
    outs : (p : ℕ) → (circuit_of e).out p ≡ (circuit_of d).out p
    outs p =
        sym (use_under e ok p)
        ∙ under (is_cell p) (in_use (kind_of e (23 - p))) (in_use (kind_of d (23 - p))) (λ t. ap in_use (c.kinds (23 - p) (cell_low p t)))
        ∙ use_under d fine p

    kinds : (p : ℕ) → (circuit_of e).registered p ≡ (circuit_of d).registered p
    kinds p =
        sym (holds_under e ok p)
        ∙ under (is_cell p) (holds (kind_of e (23 - p))) (holds (kind_of d (23 - p))) (λ t. ap holds (c.kinds (23 - p) (cell_low p t)))
        ∙ holds_under d fine p

    polarities : (p : ℕ) → (circuit_of e).inverted p ≡ (circuit_of d).inverted p
    polarities p =
        inverted_held e p
        ∙ under ((circuit_of e).registered p) ((circuit_of e).inverted p) ((circuit_of d).inverted p) one
        ∙ ap (λ (b : Bool). b && (circuit_of d).inverted p) (kinds p)
        ∙ sym (inverted_held d p)
      where
        one : (circuit_of e).registered p ≡ true → (circuit_of e).inverted p ≡ (circuit_of d).inverted p
        one r =
            let t = and_first (ltb (out_at e p) 64) (registers (e.nodes (out_at e p))) r in
            let t₂ = sym (outs p) ∙ t in
            let z = out_cell e ok p t in
            let y = cell_pin p z in
            ap (λ (b : Bool). b && inverts (e.nodes (out_at e p))) t
            ∙ sym (ap (λ (x : ℕ). inverts (e.nodes (out_at e x))) y)
            ∙ sym (twice (inverts (e.nodes (out_of e (23 - p)))))
            ∙ ap not (c.starts (23 - p) (cell_low p z) (holds_at e p z ∙ r))
            ∙ twice (inverts (d.nodes (out_of d (23 - p))))
            ∙ ap (λ (x : ℕ). inverts (d.nodes (out_at d x))) y
            ∙ sym (ap (λ (b : Bool). b && inverts (d.nodes (out_at d p))) t₂)

    functions : (p : ℕ) (s : ℕ → Bool) → (circuit_of e).next p s ≡ (circuit_of d).next p s
    functions p s = go ((circuit_of e).out p) refl
      where
        v : List Bool
        v = variablesFor (signals_for e s)

        one : (circuit_of e).out p ≡ true → (circuit_of e).next p s ≡ (circuit_of d).next p s
        one t =
            let t₂ = sym (outs p) ∙ t in
            let z = out_cell e ok p t in
            ap (λ (b : Bool). ltb (out_at e p) 64 && b) (next_same e ok p t s (pins_at e v) (λ x q. sym (pins_back e s x (spoken_column e ok x q))))
            ∙ sym (next_is e ok p t v (variables_long e s))
            ∙ c.functions (23 - p) (cell_low p z) (use_at e p z ∙ t) v (variables_long e s)
            ∙ next_is d fine p t₂ v (variables_long e s)
            ∙ ap (λ (b : Bool). ltb (out_at d p) 64 && b)
            (next_same d fine p t₂ (pins_at d v) s (λ x q. sym (pins-same (flips-same kinds polarities) v x) ∙ pins_back e s x (spoken_column d fine x q)))

        go : (b : Bool) → (circuit_of e).out p ≡ b → (circuit_of e).next p s ≡ (circuit_of d).next p s
        go true t = one t
        go false t = ap (λ (b : Bool). b && takes_next e (out_at e p) s) t ∙ sym (ap (λ (b : Bool). b && takes_next d (out_at d p) s) (sym (outs p) ∙ t))

    circuits-same : SameCircuit (circuit_of e) (circuit_of d)
    circuits-same = record { outs = outs; kinds = kinds; polarities = polarities; functions = functions }

  -- THE THEOREM: the same circuit has the same map
  pub map_of_circuit : SameCircuit (circuit_of e) (circuit_of d) → map_for e ≡ map_for d
  unfolding map_for
  map_of_circuit c =
      same_map (cells_of e) (cells_of d) (masks_of e) (counts_of e) (kinds_of e) (s0s_of e) (masks_of d) (counts_of d) (kinds_of d) (s0s_of d) (fits e ok) (fits d fine) (cells_same c)

  -- THE THEOREM: and the same map is that of the same circuit
  pub circuit_of_map : map_for e ≡ map_for d → SameCircuit (circuit_of e) (circuit_of d)
  unfolding map_for
  circuit_of_map m =
      circuits-same
      (same_cells (cells_of e) (cells_of d) (masks_of e) (counts_of e) (kinds_of e) (s0s_of e) (masks_of d) (counts_of d) (kinds_of d) (s0s_of d) (fits e ok) (fits d fine) m)
