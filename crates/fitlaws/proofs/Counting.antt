-- The lines with the counts that stage 6 leaves are those of the map, whose rows are counted. Assumes nothing.
use mathlib.Core.Path.{◌≡◌, refl, sym, ap₂, ◌∙◌}
use mathlib.Core.Bool.{Bool, true, false}
use mathlib.Core.List.{List, [], ◌++◌}
use Prim.Native.Nat.{ℕ, zero, suc, ◌+◌, ◌-◌, ◌<◌}
use native.Mathlib.Omega.{arith}
use lib.ListN.{get_or, take, get_or-append}
use lib.Seq.{get_or-append-add}
use Rattle.basics.specs.Choice.{pick}
use Rattle.trees.specs.Layout.{Elements}
use Rattle.gal.specs.Map.{enabled}
use Rattle.cells.specs.Counts.{products_in, factors_in, picks}
use Rattle.behave.specs.Cells.{in_use}
use Rattle.behave.proofs.Behaves.{use_is}
use Rattle.behave.proofs.Counted.{products_counted, factors_counted}
use Rattle.outputs.specs.Outputs.{kind_of, cells_of, cell_of, masks_of, counts_of, kinds_of, s0s_of, map_for}
use Rattle.outmap.specs.Sixth.{factors_of, facts_of}
use Rattle.agree.specs.Passed.{Passed}
use Rattle.agree.proofs.Basic.{ten_at}
use Rattle.agree.proofs.Fitting.{fits}
use Rattle.fitlines.specs.Lines.{line_of, line_if, lines_of, fit_lines, lines_by}

-- only the counts of enabled cells are told
line_same : (m : List ℕ) (k a b c d : ℕ) → (enabled m k ≡ true → a ≡ c) → (enabled m k ≡ true → b ≡ d) → line_if m k a b ≡ line_if m k c d
unfolding line_if
line_same m k a b c d p q = go (enabled m k) p q
  where
    go : (t : Bool) → (t ≡ true → a ≡ c) → (t ≡ true → b ≡ d) → pick t (line_of m k a b) [] ≡ pick t (line_of m k c d) []
    go true x y = ap₂ (line_of m k) (x refl) (y refl)
    go false x y = refl

lines_same : (m : List ℕ) (a b c d : ℕ → ℕ) (n : ℕ) → ((k : ℕ) → k < 10 → enabled m k ≡ true → a k ≡ c k) → ((k : ℕ) → k < 10 → enabled m k ≡ true → b k ≡ d k)
    → lines_of m a b n ≡ lines_of m c d n
unfolding lines_of
lines_same m a b c d zero p q = refl
lines_same m a b c d (suc n) p q =
    ap₂ (λ (x y : List ℕ). x ++ y) (lines_same m a b c d n p q)
    (line_same m (9 - n) (a (9 - n)) (b (9 - n)) (c (9 - n)) (d (9 - n)) (p (9 - n) (omega arith)) (q (9 - n) (omega arith)))

-- what stage 6 leaves, by cell
fact_products : (e : Elements) (k : ℕ) → k < 10 → get_or (facts_of e) k 0 ≡ get_or (counts_of e) k 0
fact_products e k h = get_or-append (counts_of e) (factors_of e) 0 k h

fact_factors : (e : Elements) (k : ℕ) → k < 10 → get_or (facts_of e) (10 + k) 0 ≡ picks (take (get_or (counts_of e) k 0) (get_or (masks_of e) k []))
fact_factors e k h =
    get_or-append-add (counts_of e) (factors_of e) k 0
    ∙ ten_at (λ k. picks (take (cell_of e k).n (cell_of e k).masks)) 0 k h
    ∙ ap₂ (λ (n : ℕ) (l : List ℕ). picks (take n l)) (sym (ten_at (λ k. (cell_of e k).n) 0 k h)) (sym (ten_at (λ k. (cell_of e k).masks) [] k h))

module _ (e : Elements) (ok : Passed e) where
  in_use_lem : (k : ℕ) → k < 10 → enabled (map_for e) k ≡ true → in_use (kind_of e k) ≡ true
  unfolding map_for
  in_use_lem k h t = sym (use_is (cells_of e) (masks_of e) (counts_of e) (kinds_of e) (s0s_of e) (fits e ok) k h) ∙ t

  products_are : (k : ℕ) → k < 10 → enabled (map_for e) k ≡ true → get_or (facts_of e) k 0 ≡ products_in (map_for e) k
  unfolding map_for
  products_are k h t = fact_products e k h ∙ sym (products_counted (cells_of e) (masks_of e) (counts_of e) (kinds_of e) (s0s_of e) (fits e ok) k h (in_use_lem k h t))

  factors-are : (k : ℕ) → k < 10 → enabled (map_for e) k ≡ true → get_or (facts_of e) (10 + k) 0 ≡ factors_in (map_for e) k
  unfolding map_for
  factors-are k h t = fact_factors e k h ∙ sym (factors_counted (cells_of e) (masks_of e) (counts_of e) (kinds_of e) (s0s_of e) (fits e ok) k h (in_use_lem k h t))

  -- THE THEOREM: the lines with the counts of stage 6 are those of the emitted map
  pub lines_counted : lines_by (map_for e) (facts_of e) ≡ fit_lines (map_for e)
  unfolding lines_by fit_lines
  lines_counted =
      lines_same (map_for e) (λ k. get_or (facts_of e) k 0) (λ k. get_or (facts_of e) (10 + k) 0) (products_in (map_for e)) (factors_in (map_for e)) 10 products_are factors-are
