-- The arrays of a module that stages 5 and 6 let pass hold what its cells are fitted to, and its cells speak of inputs and registers only.
-- Assumes nothing.
use mathlib.Core.Path.{◌≡◌, refl, sym, ap, ap₂, ◌∙◌, subst}
use mathlib.Core.Logic.{◌⊎◌, inl, inr}
use mathlib.Core.Bool.{Bool, true, false, not, ◌&&◌, ◌||◌}
use mathlib.Core.List.{[]}
use Prim.Native.Nat.{ℕ, ◌-◌, ◌<◌}
use native.Mathlib.Omega.{arith}
use lib.Dec.{T, eqb, ltb}
use lib.ListN.{get_or}
use borrow.Author.Tests.{eq-eqb, ltb-true}
use Rattle.basics.specs.Choice.{bit, on, pick}
use Rattle.basics.proofs.Truth.{clash, of_true, or_true}
use Rattle.trees.specs.Layout.{Elements}
use Rattle.trees.proofs.Stack.{on_bit}
use Rattle.reach.specs.Uses.{registers, inverts}
use Rattle.circuit.specs.StageFive.{Verdict, first_below}
use Rattle.circuit.specs.StageFive.Verdict.{fine, refused}
use Rattle.meaning.specs.Circuit.{out_at, circuit_of}
use Rattle.pins.specs.Variables.{variable_pin, names_variable, mask_of}
use Rattle.engine.specs.Table.{function}
use Rattle.device.specs.Device.{column_of}
use Rattle.fit.specs.Fit.{Programmed, fitted, refused as noProducts}
use Rattle.gal.specs.Map.{is_cell}
use Rattle.behave.specs.Cells.{code, in_use, holds, Fits, Grounded, spoken}
use Rattle.behave.specs.Cells.Kind.{unused, combinational, registered}
use Rattle.outputs.specs.Outputs.{out_of, kind_of, table_of, cells_of, fitted_out, too_many, misfits, stage_six, cell_of, masks_of, counts_of, kinds_of, s0s_of}
use Rattle.agree.specs.Passed.{Passed}
use Rattle.agree.proofs.Basic.{ten_at, and_first, and_second, not_false}
use Rattle.agree.proofs.Positions.{is_in, none_first, out_is, out_cell}
use Rattle.agree.proofs.Bits.{bit_at}
use Rattle.agree.proofs.Speaking.{named_is}

-- ---- kinds

pub kind_use : (e : Elements) (k : ℕ) → in_use (kind_of e k) ≡ ltb (out_of e k) 64
unfolding kind_of
kind_use e k = go (ltb (out_of e k) 64) (registers (e.nodes (out_of e k)))
  where
    go : (a b : Bool) → in_use (pick a (pick b registered combinational) unused) ≡ a
    go true true = refl
    go true false = refl
    go false b = refl

pub kind_holds : (e : Elements) (k : ℕ) → holds (kind_of e k) ≡ (ltb (out_of e k) 64 && registers (e.nodes (out_of e k)))
unfolding kind_of
kind_holds e k = go (ltb (out_of e k) 64) (registers (e.nodes (out_of e k)))
  where
    go : (a b : Bool) → holds (pick a (pick b registered combinational) unused) ≡ (a && b)
    go true true = refl
    go true false = refl
    go false b = refl

-- the cell of a pin
pub cell_pin : (x : ℕ) → is_cell x ≡ true → 23 - (23 - x) ≡ x
cell_pin x e = let b = ltb-true x 24 (and_second (ltb 13 x) (ltb x 24) e) in omega arith

pub use_at : (e : Elements) (x : ℕ) → is_cell x ≡ true → in_use (kind_of e (23 - x)) ≡ (circuit_of e).out x
use_at e x c = kind_use e (23 - x) ∙ ap (λ (p : ℕ). ltb (out_at e p) 64) (cell_pin x c)

pub holds_at : (e : Elements) (x : ℕ) → is_cell x ≡ true → holds (kind_of e (23 - x)) ≡ (circuit_of e).registered x
holds_at e x c = kind_holds e (23 - x) ∙ ap (λ (p : ℕ). ltb (out_at e p) 64 && registers (e.nodes (out_at e p))) (cell_pin x c)

-- ---- stage 6

not_fine : (n p : ℕ) → refused n p ≡ fine → ⊥
not_fine n p e = subst (λ (v : Verdict). T (is_refused v)) e tt
  where
    is_refused : Verdict → Bool
    is_refused fine = false
    is_refused (refused n p) = true

fit_all : (e : Elements) → stage_six e ≡ fine → ltb (first_below (misfits e) 64) 64 ≡ false
unfolding stage_six
fit_all e q = go (ltb (first_below (misfits e) 64) 64) q
  where
    go : (b : Bool) → pick b (refused (pick (too_many e (first_below (misfits e) 64)) 11 12) (e.place (first_below (misfits e) 64))) fine ≡ fine → b ≡ false
    go true z = absurd (not_fine _ _ z)
    go false z = refl

module _ (e : Elements) (ok : Passed e) where
  out_fits : (o : ℕ) → o < 64 → e.class o ≡ 2 → (fitted_out e o).ok ≡ true
  unfolding misfits
  out_fits o h c = go (none_first (misfits e) 64 64 (omega arith) (fit_all e ok.six) o h)
    where
      test : (a b d : Bool) → a ≡ true → (a && (b || not d)) ≡ false → d ≡ true
      test true true d p q = absurd (clash q)
      test true false d p q = not_false d q
      test false b d p q = absurd (clash (sym p))

      go : misfits e o ≡ false → (fitted_out e o).ok ≡ true
      go q = test (eqb (e.class o) 2) (too_many e o) (fitted_out e o).ok (eq-eqb (e.class o) 2 c) q

  cell-is : (k : ℕ) → ltb (out_of e k) 64 ≡ true → cell_of e k ≡ fitted_out e (out_of e k)
  unfolding cell_of
  cell-is k t = ap (λ (b : Bool). pick b (fitted_out e (out_of e k)) noProducts) t

  fitted_is : (k : ℕ) → k < 10 → ltb (out_of e k) 64 ≡ true
      → fitted k (holds (kind_of e k)) (not (inverts (e.nodes (out_of e k)))) (mask_of e true (out_of e k)) (function (table_of e (out_of e k))) ≡ fitted_out e (out_of e k)
  unfolding fitted_out
  fitted_is k h t =
      let o = out_is e ok (23 - k) t in
      let q : k ≡ 23 - (23 - k) = omega arith in
      ap₂ (λ (x : ℕ) (r : Bool). fitted x r (not (inverts (e.nodes (out_of e k)))) (mask_of e true (out_of e k)) (function (table_of e (out_of e k))))
      (q ∙ ap (λ (x : ℕ). 23 - x) (sym o.pin)) (kind_holds e k ∙ ap (λ (b : Bool). b && registers (e.nodes (out_of e k))) t)

  -- THE THEOREM: the arrays hold what fitting gives
  pub fits : Fits (cells_of e) (masks_of e) (counts_of e) (kinds_of e) (s0s_of e)
  fits = record { kinds_are = λ k h. ten_at (λ k. code (kind_of e k)) 0 k h; fit = fit }
    where
      fit : (k : ℕ) → k < 10 → in_use (kind_of e k) ≡ true
          → fitted k (holds (kind_of e k)) (not (inverts (e.nodes (out_of e k)))) (mask_of e true (out_of e k)) (function (table_of e (out_of e k)))
          ≡ record { ok = true; s0 = on (get_or (s0s_of e) k 0); n = get_or (counts_of e) k 0; masks = get_or (masks_of e) k [] }
      fit k h u =
          let t = sym (kind_use e k) ∙ u in
          let o = out_is e ok (23 - k) t in
          let c = cell-is k t in
          let a = sym (ap (λ (x : Programmed). x.ok) c ∙ out_fits (out_of e k) o.small o.class) in
          let b = ap on (ten_at (λ k. bit (cell_of e k).s0) 0 k h) ∙ on_bit (cell_of e k).s0 in
          let n = ten_at (λ k. (cell_of e k).n) 0 k h in
          let m = ten_at (λ k. (cell_of e k).masks) [] k h in
          fitted_is k h t ∙ sym c ∙ sym (λ i. record { ok = a i; s0 = b i; n = n i; masks = m i })

  -- ---- what the cells speak of

  speaks : (x : ℕ) → (is_in x ≡ true) ⊎ ((circuit_of e).registered x ≡ true) → spoken (cells_of e) x ≡ true
  speaks x (inl t) = go (ltb 1 x && ltb x 12) (eqb x 13) (is_cell x && holds (kind_of e (23 - x))) t
    where
      go : (a b c : Bool) → (a || b) ≡ true → (a || (b || c)) ≡ true
      go true b c q = refl
      go false true c q = refl
      go false false c q = absurd (clash (sym q))
  speaks x (inr t) =
      let c = out_cell e ok x (and_first (ltb (out_at e x) 64) (registers (e.nodes (out_at e x))) t) in
      let h = holds_at e x c ∙ t in
      (λ i. (ltb 1 x && ltb x 12) || (eqb x 13 || (c i && h i))) ∙ ap (λ (b : Bool). (ltb 1 x && ltb x 12) || b) (or_true (eqb x 13)) ∙ or_true (ltb 1 x && ltb x 12)

  column-is : (i : ℕ) → variable_pin true i ≡ column_of (21 - i)
  unfolding variable_pin
  column-is i = refl

  -- THE THEOREM: the cells in use name inputs and registers only
  pub grounded : Grounded (cells_of e)
  grounded =
      record {
        says =
            λ k h u i l t.
            let z = sym (kind_use e k) ∙ u in
            let o = out_is e ok (23 - k) z in
            let n = sym (bit_at (names_variable e true (out_of e k)) 22 i l) ∙ t in
            subst (λ (x : ℕ). spoken (cells_of e) x ≡ true) (column-is i) (speaks (variable_pin true i) (named_is e ok (out_of e k) (variable_pin true i) o.small o.class (of_true _ n)));
      }
