-- The answer and the table, from the count of the variables. Assumes nothing.
use mathlib.Core.Path.{◌≡◌, sym, ap, ap₂, ◌∙◌}
use mathlib.Core.Bool.{Bool, true, false}
use mathlib.Core.List.{List, ◌++◌}
use Prim.Native.Nat.{ℕ, ◌^◌, ◌≤◌, ◌<◌}
use lib.Dec.{leb}
use borrow.Author.Tests.{le-leb, lt-leb}
use lib.ListN.{drop}
use Rattle.basics.specs.Choice.{bit, pick}
use Rattle.basics.specs.Below.{listed}
use Rattle.trees.specs.Layout.{Elements}
use Rattle.pins.specs.Variables.{variables_of, count_of, mask_of}
use Rattle.tables.specs.Tables.{setting_at, outcome, entry_of, tabled, table_in}
use Rattle.tables.specs.Tables.Tabled.{table, many}

module _ (e : Elements) (rows : Bool) (o n : ℕ) (en : n ≡ count_of e rows o) where
  over : 10 < n → leb (count_of e rows o) 10 ≡ false
  over h = ap (λ (k : ℕ). leb k 10) (sym en) ∙ lt-leb n 10 h

  in_reach : n ≤ 10 → leb (count_of e rows o) 10 ≡ true
  in_reach h = ap (λ (k : ℕ). leb k 10) (sym en) ∙ le-leb n 10 h

  pub too_many : 10 < n → (p : ℕ) → p ≡ e.place o → many p ≡ tabled e rows o
  unfolding tabled
  too_many h p q = ap many q ∙ sym (ap (λ (b : Bool). pick b (table (count_of e rows o) (mask_of e rows o)) (many (e.place o))) (over h))

  pub untouched : 10 < n → (t : List ℕ) → t ≡ table_in e rows o t
  unfolding table_in
  untouched h t = sym (ap (λ (b : Bool). pick b (listed (λ k. bit (entry_of e rows o k)) (2 ^ count_of e rows o) ++ drop (2 ^ count_of e rows o) t) t) (over h))

  pub counted : n ≤ 10 → (m : ℕ) → m ≡ mask_of e rows o → table n m ≡ tabled e rows o
  unfolding tabled
  counted h m q = ap₂ table en q ∙ sym (ap (λ (b : Bool). pick b (table (count_of e rows o) (mask_of e rows o)) (many (e.place o))) (in_reach h))

  pub written : n ≤ 10 → (t t' vars : List ℕ) (size : ℕ) → size ≡ 2 ^ n → vars ≡ variables_of e rows o
      → t' ≡ listed (λ k. bit (outcome e rows o (setting_at e rows vars k))) size ++ drop size t → t' ≡ table_in e rows o t
  unfolding table_in
  written h t t' vars size es ev q =
      q
      ∙ ap₂ (λ (l : List ℕ) (s : ℕ). listed (λ k. bit (outcome e rows o (setting_at e rows l k))) s ++ drop s t) ev (es ∙ ap (λ (k : ℕ). 2 ^ k) en)
      ∙ sym (ap (λ (b : Bool). pick b (listed (λ k. bit (entry_of e rows o k)) (2 ^ count_of e rows o) ++ drop (2 ^ count_of e rows o) t) t) (in_reach h))
