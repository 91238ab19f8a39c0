-- A map asks of a cell's kind only whether it is 0 and whether it is 2. Assumes nothing.
use mathlib.Core.Path.{◌≡◌, refl, ap, ap₂, ◌∙◌}
use mathlib.Core.Bool.{Bool, true, false, not, ◌||◌}
use mathlib.Core.List.{List, []}
use Prim.Native.Nat.{ℕ, zero, suc, ◌-◌, ◌/◌, ◌%◌, ◌<◌}
use native.Mathlib.Omega.{arith}
use lib.Dec.{eqb, ltb, eqb→eq, ltb→lt}
use lib.ListN.{get_or, replicate}
use Rattle.basics.specs.Choice.{bit, on, pick}
use Rattle.basics.proofs.Truth.{of_true}
use Rattle.basics.proofs.Folds.{listed_same}
use Rattle.device.specs.Device.{enable_of}
use Rattle.cells.specs.Kind.{kind_number, numbers, kind_of, kinds_of}
use Rattle.cells.specs.Map.{used, clocked, cell_row, cell_at, row_at, row_fuse, switch_fuse, fuse_at, map_of}
use Rattle.cells.proofs.Writing.{few_cells}
use Rattle.cells.specs.declared.Kind.TheVariants.{Unused, Combinational, Registered}

used_kind : (n : ℕ) → not (eqb (kind_number (kind_of n)) 0) ≡ not (eqb n 0)
unfolding kind_of
used_kind n = go (eqb n 0) (eqb n 2)
  where
    go : (a b : Bool) → not (eqb (kind_number (pick a Unused (pick b Registered Combinational))) 0) ≡ not a
    go true b = refl
    go false true = refl
    go false false = refl

clocked_kind : (n : ℕ) → eqb (kind_number (kind_of n)) 2 ≡ eqb n 2
unfolding kind_of
clocked_kind n = go (eqb n 0) (eqb n 2) refl refl
  where
    go : (a b : Bool) → eqb n 0 ≡ a → eqb n 2 ≡ b → eqb (kind_number (pick a Unused (pick b Registered Combinational))) 2 ≡ b
    go true true p q = let x = eqb→eq n 0 (of_true _ p) in let y = eqb→eq n 2 (of_true _ q) in absurd (omega arith)
    go true false p q = refl
    go false true p q = refl
    go false false p q = refl

-- the number of kind k of ten
kind_at : (ks : List ℕ) (k : ℕ) → k < 10 → get_or (numbers (kinds_of ks)) k 0 ≡ kind_number (kind_of (get_or ks k 0))
kind_at ks zero h = refl
kind_at ks (suc zero) h = refl
kind_at ks (suc (suc zero)) h = refl
kind_at ks (suc (suc (suc zero))) h = refl
kind_at ks (suc (suc (suc (suc zero)))) h = refl
kind_at ks (suc (suc (suc (suc (suc zero))))) h = refl
kind_at ks (suc (suc (suc (suc (suc (suc zero)))))) h = refl
kind_at ks (suc (suc (suc (suc (suc (suc (suc zero))))))) h = refl
kind_at ks (suc (suc (suc (suc (suc (suc (suc (suc zero)))))))) h = refl
kind_at ks (suc (suc (suc (suc (suc (suc (suc (suc (suc zero))))))))) h = refl
kind_at ks (suc (suc (suc (suc (suc (suc (suc (suc (suc (suc k)))))))))) h = absurd (omega arith)

used_same : (ks : List ℕ) (k : ℕ) → k < 10 → used (numbers (kinds_of ks)) k ≡ used ks k
used_same ks k h = ap (λ (n : ℕ). not (eqb n 0)) (kind_at ks k h) ∙ used_kind (get_or ks k 0)

clocked_same : (ks : List ℕ) (k : ℕ) → k < 10 → clocked (numbers (kinds_of ks)) k ≡ clocked ks k
clocked_same ks k h = ap (λ (n : ℕ). eqb n 2) (kind_at ks k h) ∙ clocked_kind (get_or ks k 0)

module _ (all : List (List ℕ)) (counts ks s0s : List ℕ) where
  row_same : (r : ℕ) → row_at all counts (numbers (kinds_of ks)) r ≡ row_at all counts ks r
  unfolding row_at
  row_same r =
      ap
      (λ (u : Bool). pick (eqb r 0 || eqb r 131) (replicate 44 0) (cell_row u (get_or counts (cell_at r) 0) (get_or all (cell_at r) []) (r - enable_of (cell_at r))))
      (used_same ks (cell_at r) (few_cells r))

  switch_same : (j : ℕ) → j < 20 → switch_fuse (numbers (kinds_of ks)) s0s j ≡ switch_fuse ks s0s j
  switch_same j h =
      ap₂
      (λ (u c : Bool). pick (eqb (j % 2) 0) (pick u (bit (on (get_or s0s (j / 2) 0))) 1) (pick c 0 1))
      (used_same ks (j / 2) (omega arith))
      (clocked_same ks (j / 2) (omega arith))

  -- fuse i is in the rows, among S0 and S1, or behind them
  fuse_same : (i : ℕ) → fuse_at all counts (numbers (kinds_of ks)) s0s i ≡ fuse_at all counts ks s0s i
  unfolding fuse_at
  fuse_same i = go (ltb i 5828) refl
    where
      go : (b : Bool) → ltb i 5828 ≡ b
          → pick (ltb i 5808) (row_fuse all counts (numbers (kinds_of ks)) i) (pick b (switch_fuse (numbers (kinds_of ks)) s0s (i - 5808)) 0)
          ≡ pick (ltb i 5808) (row_fuse all counts ks i) (pick b (switch_fuse ks s0s (i - 5808)) 0)
      go true e =
          ap₂
          (λ (x y : ℕ). pick (ltb i 5808) x y)
          (ap (λ (l : List ℕ). get_or l (i % 44) 0) (row_same (i / 44)))
          (switch_same (i - 5808) (let l = ltb→lt i 5828 (of_true _ e) in omega arith))
      go false e = ap (λ (x : ℕ). pick (ltb i 5808) x 0) (ap (λ (l : List ℕ). get_or l (i % 44) 0) (row_same (i / 44)))

  pub map_by_kinds : map_of all counts (numbers (kinds_of ks)) s0s ≡ map_of all counts ks s0s
  unfolding map_of
  map_by_kinds = listed_same _ _ 5892 (λ i h. fuse_same i)
