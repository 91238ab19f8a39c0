-- The same cells have the same map, and the same map is of the same cells.
-- Assumes nothing.
use mathlib.Core.Path.{◌≡◌, refl, sym, ap, ap₂, ◌∙◌, subst}
use mathlib.Core.Bool.{Bool, true, false, not, ◌||◌}
use mathlib.Core.List.{List, [], ◌∷◌, ◌++◌, append-nil}
use Prim.Native.Nat.{ℕ, ◌+◌, ◌-◌, ◌/◌, ◌%◌, ◌<◌}
use native.Mathlib.Omega.{arith}
use borrow.Author.Tests.{ltb-true}
use lib.Dec.{eqb, ltb}
use lib.ListN.{length, get_or, replicate}
use Rattle.basics.specs.Choice.{bit, on, pick, xor}
use Rattle.basics.proofs.Folds.{listed_same}
use Rattle.basics.proofs.Truth.{clash}
use Rattle.sums.proofs.Named.{primes_ext}
use Rattle.cover.specs.Sum.{over}
use Rattle.device.specs.Device.{enable_of}
use Rattle.fit.specs.Fit.{Programmed, primes_of, fits, taken, refused, opposite, inverted, fitted}
use Rattle.rows.specs.Setting.{setting_from, setting_of}
use Rattle.gal.specs.Map.{plain_out, registered, enabled, total}
use Rattle.gal.specs.Show.{cell_value}
use Rattle.cells.specs.Map.{used, clocked, cell_row, cell_at, row_at, s0_fuse, switch_fuse, fuse_at, map_of}
use Rattle.cells.proofs.Writing.{few_cells}
use Rattle.behave.specs.Cells.{Kind, in_use, holds, Cells, value, Fits, Same}
use Rattle.behave.specs.Cells.Kind.{unused, combinational, registered as register}
use Rattle.behave.proofs.Emitted.{plain_is}
use Rattle.behave.proofs.Chosen.{used_is, clocked_is, in_rows}
use Rattle.behave.proofs.Within.{choice}
use Rattle.behave.proofs.Behaves.{held_used, held_is, use_is, sum_is, cell_shows}

-- ---- fitting rests on the function alone

primes_same : (n₁ n₂ : ℕ) (f₁ f₂ : List Bool → Bool) → ((s : List Bool) → length s ≡ 22 → over n₁ f₁ s ≡ over n₂ f₂ s) → primes_of n₁ f₁ ≡ primes_of n₂ f₂
unfolding primes_of
primes_same n₁ n₂ f₁ f₂ h = primes_ext 22 (over n₁ f₁) (over n₂ f₂) h

-- THE THEOREM: functions that agree at every setting, and registers that start alike, are fitted alike, or refused alike
pub fitted_same : (k : ℕ) (reg st₁ st₂ : Bool) (n₁ n₂ : ℕ) (f₁ f₂ : List Bool → Bool) → (reg ≡ true → st₁ ≡ st₂) → ((s : List Bool) → length s ≡ 22 → over n₁ f₁ s ≡ over n₂ f₂ s)
    → fitted k reg st₁ n₁ f₁ ≡ fitted k reg st₂ n₂ f₂
unfolding fitted inverted
fitted_same k reg st₁ st₂ n₁ n₂ f₁ f₂ e h =
    let p = primes_same n₁ n₂ f₁ f₂ h in
    let q = primes_same n₁ n₂ (opposite f₁) (opposite f₂) (λ s l. ap not (h s l)) in
    let t = shown reg e in
    λ i. pick (fits k (p i)) (taken (t i) (p i)) (pick reg refused (pick (fits k (q i)) (taken false (q i)) refused))
  where
    shown : (r : Bool) → (r ≡ true → st₁ ≡ st₂) → pick r st₁ true ≡ pick r st₂ true
    shown true e = e refl
    shown false e = refl

-- ---- every setting is that of some signals

signals_for : List ℕ → List Bool → List ℕ
signals_for vs [] = vs
signals_for vs (b ∷ s) = signals_for (bit (not b) ∷ vs) s

signals_long : (s : List Bool) (vs : List ℕ) → length (signals_for vs s) ≡ length s + length vs
unfolding signals_for
signals_long [] vs = omega arith
signals_long (b ∷ s) vs = let e = signals_long s (bit (not b) ∷ vs) in omega arith

back : (b : Bool) → not (on (bit (not b))) ≡ b
back true = refl
back false = refl

signals_from : (s acc : List Bool) (vs : List ℕ) → setting_from acc (signals_for vs s) ≡ setting_from (s ++ acc) vs
unfolding signals_for setting_from
signals_from [] acc vs = refl
signals_from (b ∷ s) acc vs = signals_from s acc (bit (not b) ∷ vs) ∙ ap (λ (x : Bool). setting_from (x ∷ (s ++ acc)) vs) (back b)

from_none : (t : List Bool) → setting_from t [] ≡ t
unfolding setting_from
from_none t = refl

setting_back : (s : List Bool) → setting_of (signals_for [] s) ≡ s
unfolding setting_of
setting_back s = signals_from s [] [] ∙ from_none (s ++ []) ∙ append-nil s

-- ---- kinds

kind_same : (a b : Kind) → in_use a ≡ in_use b → holds a ≡ holds b → a ≡ b
kind_same unused unused e f = refl
kind_same unused combinational e f = absurd (clash (sym e))
kind_same unused register e f = absurd (clash (sym e))
kind_same combinational unused e f = absurd (clash e)
kind_same combinational combinational e f = refl
kind_same combinational register e f = absurd (clash (sym f))
kind_same register unused e f = absurd (clash e)
kind_same register combinational e f = absurd (clash f)
kind_same register register e f = refl

no_row : (n : ℕ) (masks : List ℕ) (a : ℕ) → cell_row false n masks a ≡ replicate 44 0
unfolding cell_row
no_row n masks a = refl

module _ (c d : Cells) (a₁ : List (List ℕ)) (n₁ k₁ s₁ : List ℕ) (a₂ : List (List ℕ)) (n₂ k₂ s₂ : List ℕ) (v : Fits c a₁ n₁ k₁ s₁) (w : Fits d a₂ n₂ k₂ s₂) where
  -- ---- the same cells, the same map

  fit_same : Same c d → (k : ℕ) → k < 10 → in_use (c.kind k) ≡ true
      → ◌≡◌ {A = Programmed} (record { ok = true; s0 = on (get_or s₁ k 0); n = get_or n₁ k 0; masks = get_or a₁ k [] }) (record { ok = true; s0 = on (get_or s₂ k 0); n = get_or n₂ k 0; masks = get_or a₂ k [] })
  fit_same e k h u =
      let q = e.kinds k h in
      sym (v.fit k h u)
      ∙ fitted_same k (holds (c.kind k)) (c.start k) (d.start k) (c.named k) (d.named k) (c.function k) (d.function k) (e.starts k h) (e.functions k h u)
      ∙ ap (λ (x : Kind). fitted k (holds x) (d.start k) (d.named k) (d.function k)) q
      ∙ w.fit k h (sym (ap in_use q) ∙ u)

  used-same : Same c d → (k : ℕ) → k < 10 → used k₁ k ≡ used k₂ k
  used-same e k h = used_is k₁ k (c.kind k) (v.kinds_are k h) ∙ ap in_use (e.kinds k h) ∙ sym (used_is k₂ k (d.kind k) (w.kinds_are k h))

  clocked-same : Same c d → (k : ℕ) → k < 10 → clocked k₁ k ≡ clocked k₂ k
  clocked-same e k h = clocked_is k₁ k (c.kind k) (v.kinds_are k h) ∙ ap holds (e.kinds k h) ∙ sym (clocked_is k₂ k (d.kind k) (w.kinds_are k h))

  cell_same : Same c d → (k a : ℕ) → k < 10 → cell_row (used k₁ k) (get_or n₁ k 0) (get_or a₁ k []) a ≡ cell_row (used k₂ k) (get_or n₂ k 0) (get_or a₂ k []) a
  cell_same e k a h = ap (λ (b : Bool). cell_row b (get_or n₁ k 0) (get_or a₁ k []) a) (used-same e k h) ∙ go (used k₂ k) refl
    where
      go : (b : Bool) → used k₂ k ≡ b → cell_row b (get_or n₁ k 0) (get_or a₁ k []) a ≡ cell_row b (get_or n₂ k 0) (get_or a₂ k []) a
      go false q = no_row (get_or n₁ k 0) (get_or a₁ k []) a ∙ sym (no_row (get_or n₂ k 0) (get_or a₂ k []) a)
      go true q =
          let f = fit_same e k h (sym (used_is k₁ k (c.kind k) (v.kinds_are k h)) ∙ used-same e k h ∙ q) in
          ap₂ (λ (n : ℕ) (m : List ℕ). cell_row true n m a) (ap (λ (x : Programmed). x.n) f) (ap (λ (x : Programmed). x.masks) f)

  row_same : Same c d → (r : ℕ) → row_at a₁ n₁ k₁ r ≡ row_at a₂ n₂ k₂ r
  unfolding row_at
  row_same e r = ap (pick (eqb r 0 || eqb r 131) (replicate 44 0)) (cell_same e (cell_at r) (r - enable_of (cell_at r)) (few_cells r))

  s0-same : Same c d → (k : ℕ) → k < 10 → s0_fuse k₁ s₁ k ≡ s0_fuse k₂ s₂ k
  s0-same e k h = ap (λ (b : Bool). pick b (bit (on (get_or s₁ k 0))) 1) (used-same e k h) ∙ go (used k₂ k) refl
    where
      go : (b : Bool) → used k₂ k ≡ b → pick b (bit (on (get_or s₁ k 0))) 1 ≡ pick b (bit (on (get_or s₂ k 0))) 1
      go false q = refl
      go true q = ap (λ (x : Programmed). bit x.s0) (fit_same e k h (sym (used_is k₁ k (c.kind k) (v.kinds_are k h)) ∙ used-same e k h ∙ q))

  switch-same : Same c d → (j : ℕ) → j < 20 → switch_fuse k₁ s₁ j ≡ switch_fuse k₂ s₂ j
  switch-same e j h = ap₂ (pick (eqb (j % 2) 0)) (s0-same e (j / 2) (omega arith)) (ap (λ (b : Bool). pick b 0 1) (clocked-same e (j / 2) (omega arith)))

  fuse-same : Same c d → (i : ℕ) → fuse_at a₁ n₁ k₁ s₁ i ≡ fuse_at a₂ n₂ k₂ s₂ i
  unfolding fuse_at
  fuse-same e i =
      ap₂ (pick (ltb i 5808)) (ap (λ (x : List ℕ). get_or x (i % 44) 0) (row_same e (i / 44))) (go (ltb i 5828) refl)
    where
      go : (b : Bool) → ltb i 5828 ≡ b → pick b (switch_fuse k₁ s₁ (i - 5808)) 0 ≡ pick b (switch_fuse k₂ s₂ (i - 5808)) 0
      go false q = refl
      go true q = let l = ltb-true i 5828 q in switch-same e (i - 5808) (omega arith)

  -- THE THEOREM: equal kinds, starts and functions give equal maps
  pub same_map : Same c d → map_of a₁ n₁ k₁ s₁ ≡ map_of a₂ n₂ k₂ s₂
  unfolding map_of
  same_map e = listed_same (fuse_at a₁ n₁ k₁ s₁) (fuse_at a₂ n₂ k₂ s₂) 5892 (λ i h. fuse-same e i)

  -- ---- the same map, the same cells

  kinds-same : map_of a₁ n₁ k₁ s₁ ≡ map_of a₂ n₂ k₂ s₂ → (k : ℕ) → k < 10 → c.kind k ≡ d.kind k
  kinds-same e k h =
      kind_same (c.kind k) (d.kind k)
      (sym (use_is c a₁ n₁ k₁ s₁ v k h) ∙ ap (λ (m : List ℕ). enabled m k) e ∙ use_is d a₂ n₂ k₂ s₂ w k h)
      (sym (held_is c a₁ n₁ k₁ s₁ v k h) ∙ ap (λ (m : List ℕ). registered m k) e ∙ held_is d a₂ n₂ k₂ s₂ w k h)

  starts-same : map_of a₁ n₁ k₁ s₁ ≡ map_of a₂ n₂ k₂ s₂ → (k : ℕ) → k < 10 → holds (c.kind k) ≡ true → c.start k ≡ d.start k
  starts-same e k h r =
      let q = kinds-same e k h in
      let r₂ = sym (ap holds q) ∙ r in
      let u₁ = held_used (c.kind k) r in
      let u₂ = held_used (d.kind k) r₂ in
      sym ((choice c a₁ n₁ k₁ s₁ v k h u₁).own r)
      ∙ sym (plain_is a₁ n₁ k₁ s₁ k h (used_is k₁ k (c.kind k) (v.kinds_are k h) ∙ u₁))
      ∙ ap (λ (m : List ℕ). plain_out m k) e
      ∙ plain_is a₂ n₂ k₂ s₂ k h (used_is k₂ k (d.kind k) (w.kinds_are k h) ∙ u₂)
      ∙ (choice d a₂ n₂ k₂ s₂ w k h u₂).own r₂

  -- at the signals of any setting
  at-signals : map_of a₁ n₁ k₁ s₁ ≡ map_of a₂ n₂ k₂ s₂ → (k : ℕ) → k < 10 → in_use (c.kind k) ≡ true → (sig : List ℕ) → length sig ≡ 22 → value c k (setting_of sig) ≡ value d k (setting_of sig)
  at-signals e k h u sig l = go (holds (c.kind k)) refl
    where
      q : c.kind k ≡ d.kind k
      q = kinds-same e k h

      u₂ : in_use (d.kind k) ≡ true
      u₂ = sym (ap in_use q) ∙ u

      go : (b : Bool) → holds (c.kind k) ≡ b → value c k (setting_of sig) ≡ value d k (setting_of sig)
      go true r =
          sym (sum_is c a₁ n₁ k₁ s₁ v k h u sig l ∙ ap (λ (b : Bool). over (c.named k) (in_rows b (on (get_or s₁ k 0)) (c.function k)) (setting_of sig)) r)
          ∙ ap (λ (m : List ℕ). total m k sig) e
          ∙ (sum_is d a₂ n₂ k₂ s₂ w k h u₂ sig l ∙ ap (λ (b : Bool). over (d.named k) (in_rows b (on (get_or s₂ k 0)) (d.function k)) (setting_of sig)) (sym (ap holds q) ∙ r))
      go false r =
          sym (cell_shows c a₁ n₁ k₁ s₁ v k 0 sig h u l ∙ ap (λ (b : Bool). pick b (xor (not (c.start k)) (on 0)) (value c k (setting_of sig))) r)
          ∙ ap (λ (m : List ℕ). cell_value m k 0 sig) e
          ∙ (cell_shows d a₂ n₂ k₂ s₂ w k 0 sig h u₂ l ∙ ap (λ (b : Bool). pick b (xor (not (d.start k)) (on 0)) (value d k (setting_of sig))) (sym (ap holds q) ∙ r))

  functions-same : map_of a₁ n₁ k₁ s₁ ≡ map_of a₂ n₂ k₂ s₂ → (k : ℕ) → k < 10 → in_use (c.kind k) ≡ true → (s : List Bool) → length s ≡ 22 → value c k s ≡ value d k s
  functions-same e k h u s l =
      subst (λ (t : List Bool). value c k t ≡ value d k t) (setting_back s) (at-signals e k h u (signals_for [] s) (let z = signals_long s [] in omega arith))

  -- THE THEOREM: equal maps give equal kinds, starts and functions
  pub same_cells : map_of a₁ n₁ k₁ s₁ ≡ map_of a₂ n₂ k₂ s₂ → Same c d
  same_cells e = record { kinds = kinds-same e; starts = starts-same e; functions = functions-same e }
