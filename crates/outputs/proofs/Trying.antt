-- One OUT: its pin, its truth table, and what comes of it. Assumes nothing.
use mathlib.Core.Path.{◌≡◌, refl, sym, ap, ap₂, ◌∙◌}
use mathlib.Core.Logic.{⊎_elim}
use mathlib.Core.Bool.{Bool, true, false, not}
use mathlib.Core.List.{List, ◌++◌}
use Prim.Native.Nat.{ℕ, ◌-◌, ◌^◌, ◌≤◌, ◌<◌}
use native.Mathlib.Omega.{arith}
use lib.Dec.{eqb, leb}
use borrow.Author.Tests.{le-ltb, le-leb, leb-true}
use lib.ListN.{length, take, drop, replicate}
use lib.Seq.{take_at}
use Rattle.basics.specs.Choice.{pick, bit}
use Rattle.basics.specs.Below.{all_below, listed}
use Rattle.basics.proofs.Folds.{all_at, listed_length}
use Rattle.basics.proofs.Truth.{clash}
use Rattle.basics.proofs.Store.{below_or_not}
use Rattle.trees.specs.Layout.{Elements}
use Rattle.reach.specs.Uses.{registers, inverts}
use Rattle.circuit.specs.Pins.{role_of}
use Rattle.circuit.specs.StageFive.{stage_five, positioned_right, mispositioned}
use Rattle.circuit.specs.StageFive.Verdict.{fine}
use Rattle.meaning.proofs.Fine.{fine_is}
use Rattle.meaning.proofs.Standing.{right_role}
use Rattle.pins.specs.Variables.{count_of, mask_of}
use Rattle.tables.specs.Tables.{entry_of, Tabled, tabled, table_in}
use Rattle.tables.specs.Tables.Tabled.{table, many}
use Rattle.engine.specs.Table.{function}
use Rattle.engine.proofs.Walk.{few_two}
use Rattle.std.specs.Prelude.{Option, Some, None, Err}
use Rattle.std.specs.Option.{ok_or}
use Rattle.basics.specs.declared.refusal.Reason.{Reason}
use Rattle.basics.specs.declared.refusal.Reason.TheVariants.{Pins, Products}
use Rattle.fit.specs.declared.Fitted.{Fitted}
use Rattle.fit.specs.Fit.{Programmed, seen as programmed, fitted}
use Rattle.outputs.specs.Outputs.{table_of, too_many, fitted_out}
use Rattle.outputs.specs.Trial.{Tried, seen, tried_of}

-- ---- an OUT's pin

role_small : (p : ℕ) → p < 14 → eqb (role_of p) 2 ≡ false
unfolding all_below role_of
role_small p h = not-true (eqb (role_of p) 2) (all_at (λ k. not (eqb (role_of k) 2)) 14 refl p h)
  where
    not-true : (b : Bool) → not b ≡ true → b ≡ false
    not-true true q = absurd (clash (sym q))
    not-true false q = refl

role_large : (p : ℕ) → 24 ≤ p → eqb (role_of p) 2 ≡ false
unfolding role_of
role_large p h = simp (le-ltb p 1 (omega arith), le-ltb p 2 (omega arith), le-ltb p 12 (omega arith), le-ltb p 13 (omega arith), le-ltb p 14 (omega arith), le-ltb p 24 h)

role_two : (p : ℕ) → eqb (role_of p) 2 ≡ true → (14 ≤ p) × (p < 24)
role_two p q =
    ⊎_elim
    (λ (h : p < 14). absurd (clash (sym q ∙ role_small p h)))
    (λ (h : 14 ≤ p). ⊎_elim (λ (g : p < 24). (h, g)) (λ (g : 24 ≤ p). absurd (clash (sym q ∙ role_large p g))) (below_or_not p 24))
    (below_or_not p 14)

right : (e : Elements) (i : ℕ) → e.class i ≡ 2 → mispositioned e i ≡ false → positioned_right e i ≡ true
unfolding mispositioned
right e i c q =
    flip
    (sym
    (ap (λ (x : ℕ). pick (eqb x 1) (not (positioned_right e i)) (pick (eqb x 2) (not (positioned_right e i)) (pick (eqb x 3) (not (eqb (e.positioned i) 0)) false))) c)
    ∙ q)
  where
    go : (b : Bool) → not b ≡ false → b ≡ true
    go true q = refl
    go false q = absurd (clash q)

    flip : not (positioned_right e i) ≡ false → positioned_right e i ≡ true
    flip q = go (positioned_right e i) q

pub out_pin : (e : Elements) (i : ℕ) → stage_five e ≡ fine → i < 64 → e.class i ≡ 2 → (14 ≤ e.pin i) × (e.pin i < 24)
out_pin e i ok h c =
    role_two (e.pin i) (ap (λ (x : ℕ). eqb (role_of (e.pin i)) x) (sym c) ∙ right_role e i (right e i c ((fine_is e ok).positioned i h)))

-- ---- its truth table

count_in : Tabled → ℕ
count_in (table n m) = n
count_in (many p) = 0

mask_in : Tabled → ℕ
mask_in (table n m) = m
mask_in (many p) = 0

is_table : Tabled → Bool
is_table (table n m) = true
is_table (many p) = false

module _ (e : Elements) (rows : Bool) (o : ℕ) where
  is-table : (v : Tabled) → v ≡ tabled e rows o → is_table v ≡ leb (count_of e rows o) 10
  unfolding tabled is_table
  is-table v q = ap is_table q ∙ go (leb (count_of e rows o) 10)
    where
      go : (b : Bool) → is_table (pick b (table (count_of e rows o) (mask_of e rows o)) (many (e.place o))) ≡ b
      go true = refl
      go false = refl

  in_table : (n m : ℕ) → table n m ≡ tabled e rows o → leb (count_of e rows o) 10 ≡ true
  unfolding is_table
  in_table n m q = sym (is-table (table n m) q)

  pub not_table : (p : ℕ) → many p ≡ tabled e rows o → leb (count_of e rows o) 10 ≡ false
  unfolding is_table
  not_table p q = sym (is-table (many p) q)

  whole : (n m : ℕ) → table n m ≡ tabled e rows o → table n m ≡ table (count_of e rows o) (mask_of e rows o)
  unfolding tabled
  whole n m q = q ∙ ap (λ (b : Bool). pick b (table (count_of e rows o) (mask_of e rows o)) (many (e.place o))) (in_table n m q)

  table_count : (n m : ℕ) → table n m ≡ tabled e rows o → n ≡ count_of e rows o
  unfolding count_in
  table_count n m q = ap count_in (whole n m q)

  table_mask : (n m : ℕ) → table n m ≡ tabled e rows o → m ≡ mask_of e rows o
  unfolding mask_in
  table_mask n m q = ap mask_in (whole n m q)

  few : (n m : ℕ) → table n m ≡ tabled e rows o → n < 11
  few n m q = let a = leb-true (count_of e rows o) 10 (in_table n m q) in let b = table_count n m q in omega (arith, a, b)

  -- the part of the lent bytes that is the table
  table_part : (n m : ℕ) → table n m ≡ tabled e rows o → (t t₀ : List ℕ) → t ≡ table_in e rows o t₀ → (size : ℕ) → size ≡ 2 ^ n
      → take size t ≡ listed (λ k. bit (entry_of e rows o k)) (2 ^ count_of e rows o)
  unfolding table_in
  table_part n m q t t₀ w size s =
      let l = listed (λ k. bit (entry_of e rows o k)) (2 ^ count_of e rows o) in
      ap₂ take (s ∙ ap (λ (j : ℕ). 2 ^ j) (table_count n m q)) (w ∙ ap (λ (b : Bool). pick b (l ++ drop (2 ^ count_of e rows o) t₀) t₀) (in_table n m q))
      ∙ take_at l (drop (2 ^ count_of e rows o) t₀) (2 ^ count_of e rows o) (listed_length (λ k. bit (entry_of e rows o k)) (2 ^ count_of e rows o))

-- what is known where a table was made: its variables, and the part of the lent bytes that it is
pub record Made (e : Elements) (rows : Bool) (o n m : ℕ) : Type 0 where
  pub count : n ≡ count_of e rows o
  pub mask : m ≡ mask_of e rows o
  pub few : n < 11
  pub room : 2 ^ n ≤ 1024
  pub part : (t t₀ : List ℕ) → t ≡ table_in e rows o t₀ → (size : ℕ) → size ≡ 2 ^ n → take size t ≡ listed (λ k. bit (entry_of e rows o k)) (2 ^ count_of e rows o)

pub made : (e : Elements) (rows : Bool) (o n m : ℕ) → table n m ≡ tabled e rows o → Made e rows o n m
made e rows o n m q =
    let f = few e rows o n m q in
    record {
      count = table_count e rows o n m q;
      mask = table_mask e rows o n m q;
      few = f;
      room = few_two n (omega (arith, f));
      part = table_part e rows o n m q;
    }

pub table_length : (e : Elements) (o n : ℕ) (f : List ℕ) → n ≡ count_of e true o → f ≡ table_of e o → length f ≡ 2 ^ n
unfolding table_of
table_length e o n f q w = ap length w ∙ listed_length (λ k. bit (entry_of e true o k)) (2 ^ count_of e true o) ∙ ap (λ (j : ℕ). 2 ^ j) (sym q)

pub table_is : (e : Elements) (o : ℕ) → listed (λ k. bit (entry_of e true o k)) (2 ^ count_of e true o) ≡ table_of e o
unfolding table_of
table_is e o = refl

-- ---- what comes of it

pub fitted_is : (e : Elements) (o k : ℕ) (held plain : Bool) (m : ℕ) (f : List ℕ) (t : Programmed) → k ≡ 23 - e.pin o → held ≡ registers (e.nodes o)
    → plain ≡ not (inverts (e.nodes o)) → m ≡ mask_of e true o → f ≡ table_of e o → t ≡ fitted k held plain m (function f) → t ≡ fitted_out e o
unfolding fitted_out
fitted_is e o k held plain m f t ek eh ep em ef q = q ∙ (λ y. fitted (ek y) (eh y) (ep y) (em y) (function (ef y)))

not_many : (e : Elements) (o n : ℕ) → n ≡ count_of e true o → n < 11 → too_many e o ≡ false
unfolding too_many
not_many e o n q h = ap not (le-leb (count_of e true o) 10 (omega (arith, q)))

tried_seen : (t : Option Fitted)
    → seen (ok_or t Products) ≡ record { number = pick (programmed t).ok 0 12; s0 = (programmed t).s0; n = (programmed t).n; masks = (programmed t).masks }
tried_seen (Some t) = refl
tried_seen None = refl

pub tried_fits : (e : Elements) (o n : ℕ) (t : Option Fitted) → n ≡ count_of e true o → n < 11 → programmed t ≡ fitted_out e o → seen (ok_or t Products) ≡ tried_of e o
unfolding tried_of
tried_fits e o n t q h w =
    tried_seen t
    ∙ ap (λ (u : Programmed). record { number = pick u.ok 0 12; s0 = u.s0; n = u.n; masks = u.masks }) w
    ∙ sym
    (ap
    (λ (b : Bool).
    pick {X = Tried} b
    (record { number = 11; s0 = false; n = 0; masks = replicate 16 0 })
    (record { number = pick (fitted_out e o).ok 0 12; s0 = (fitted_out e o).s0; n = (fitted_out e o).n; masks = (fitted_out e o).masks }))
    (not_many e o n q h))

pub tried_many : (e : Elements) (o : ℕ) (r : Reason) → r ≡ Pins → leb (count_of e true o) 10 ≡ false → seen (Err r) ≡ tried_of e o
unfolding tried_of too_many
tried_many e o r w q =
    ap (λ (x : Reason). seen (Err x)) w
    ∙ sym
    (ap
    (λ (b : Bool).
    pick {X = Tried} (not b)
    (record { number = 11; s0 = false; n = 0; masks = replicate 16 0 })
    (record { number = pick (fitted_out e o).ok 0 12; s0 = (fitted_out e o).s0; n = (fitted_out e o).n; masks = (fitted_out e o).masks }))
    q)
