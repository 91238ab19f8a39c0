-- One cycle: the model of the map shows and holds what the circuit does. Assumes nothing.
use mathlib.Core.Path.{◌≡◌, refl, sym, ap, ap₂, ◌∙◌}
use mathlib.Core.Logic.{◌⊎◌, inl, inr}
use mathlib.Core.Bool.{Bool, true, false, not, ◌&&◌, ◌||◌}
use mathlib.Core.List.{List}
use Prim.Native.Nat.{ℕ, ◌+◌, ◌-◌, ◌<◌}
use native.Mathlib.Omega.{arith}
use lib.Dec.{eqb, ltb}
use lib.ListN.{length, get_or}
use borrow.Author.Tests.{lt-ltb, ltb-true}
use Rattle.basics.specs.Choice.{bit, on, pick, xor}
use Rattle.basics.specs.Below.{listed}
use Rattle.basics.proofs.Folds.{listed_at, listed_length, listed_same}
use Rattle.basics.proofs.Truth.{clash}
use Rattle.trees.specs.Layout.{Elements}
use Rattle.trees.proofs.Stack.{on_bit}
use Rattle.reach.specs.Uses.{registers, inverts}
use Rattle.meaning.specs.Circuit.{out_at, circuit_of, setting_of, shows, clocked}
use Rattle.tables.specs.Tables.{flip_at}
use Rattle.device.specs.Device.{column_of, pair_of}
use Rattle.rows.proofs.Rows.{setting_at_lem, setting_size}
use Rattle.gal.specs.Map.{is_cell, enabled, registered}
use Rattle.gal.specs.Refuse.{callers, wrong, wrong_pins, wrong_bits, no_values}
use Rattle.gal.specs.Model.{Answer, modelled}
use Rattle.gal.specs.Model.Verdict.{Shown}
use Rattle.behave.specs.Cells.{in_use, holds, value, signal_of, setting_for, shown_of, value_of, next_of, answer_of}
use Rattle.behave.proofs.Emitted.{none_of}
use Rattle.behave.proofs.Behaves.{held_is, use_is, behaves}
use Rattle.outputs.specs.Outputs.{out_of, kind_of, cells_of, masks_of, counts_of, kinds_of, s0s_of, map_for}
use Rattle.agree.specs.Passed.{Passed}
use Rattle.agree.specs.Pins.{pins_at, is_callers, pins_for, seen, seen_of}
use Rattle.agree.proofs.Basic.{under, and_first, and_second, twice}
use Rattle.agree.proofs.Positions.{is_in, out_cell}
use Rattle.agree.proofs.Fitting.{cell_pin, use_at, holds_at, fits, grounded}
use Rattle.agree.proofs.Columns.{Column}
use Rattle.agree.proofs.Functions.{spoken_column, next_same, next_is}

-- the register bits by pins 14 to 23
unfoldable pub bits_for : (ℕ → Bool) → List ℕ
bits_for q = listed (λ b. bit (q (14 + b))) 10

bit_at : (q : ℕ → Bool) (x : ℕ) → is_cell x ≡ true → on (get_or (bits_for q) (x - 14) 0) ≡ q x
unfolding bits_for
bit_at q x c =
    let a = ltb-true 13 x (and_first (ltb 13 x) (ltb x 24) c) in
    let b = ltb-true x 24 (and_second (ltb 13 x) (ltb x 24) c) in
    let y : 14 + (x - 14) ≡ x = omega arith in
    ap on (listed_at (λ b. bit (q (14 + b))) 10 (x - 14) (omega arith)) ∙ on_bit (q (14 + (x - 14))) ∙ ap q y

flip_register : (e : Elements) (p : ℕ) → p < 24 → (circuit_of e).registered p ≡ true → flip_at e true p ≡ (circuit_of e).inverted p
unfolding flip_at
flip_register e p h r = λ i. lt-ltb p 24 h i && pick (r i) ((circuit_of e).inverted p) true

flip_other : (e : Elements) (p : ℕ) → p < 24 → (circuit_of e).registered p ≡ false → flip_at e true p ≡ true
unfolding flip_at
flip_other e p h r = λ i. lt-ltb p 24 h i && pick (r i) ((circuit_of e).inverted p) true

module _ (e : Elements) (ok : Passed e) where
  -- ---- settings

  variable-at : (bits pins : List ℕ) (p : ℕ) → Column p → get_or (setting_for (cells_of e) bits pins) (21 - pair_of p) false ≡ not (signal_of (cells_of e) bits pins p)
  unfolding setting_for
  variable-at bits pins p c =
      let h = c.few in
      let f : ℕ → ℕ = λ p. bit (signal_of (cells_of e) bits pins (column_of p)) in
      let y : 21 - (21 - pair_of p) ≡ pair_of p = omega arith in
      setting_at_lem (listed f 22) (21 - pair_of p) false (listed_length f 22) (omega arith)
      ∙ ap (λ (j : ℕ). not (on (get_or (listed f 22) j 0))) y
      ∙ ap (λ (v : ℕ). not (on v)) (listed_at f 22 (pair_of p) h)
      ∙ ap not (on_bit (signal_of (cells_of e) bits pins (column_of (pair_of p))))
      ∙ ap (λ (x : ℕ). not (signal_of (cells_of e) bits pins x)) c.pin

  pub setting_long : (bits pins : List ℕ) → length (setting_for (cells_of e) bits pins) ≡ 22
  unfolding setting_for
  setting_long bits pins =
      let f : ℕ → ℕ = λ p. bit (signal_of (cells_of e) bits pins (column_of p)) in
      setting_size (listed f 22) (listed_length f 22)

  pub holds_under : (x : ℕ) → (is_cell x && holds (kind_of e (23 - x))) ≡ (circuit_of e).registered x
  holds_under x = go (is_cell x) refl
    where
      go : (b : Bool) → is_cell x ≡ b → (b && holds (kind_of e (23 - x))) ≡ (circuit_of e).registered x
      go true c = holds_at e x c
      go false c = none ((circuit_of e).registered x) refl
        where
          none : (r : Bool) → (circuit_of e).registered x ≡ r → false ≡ r
          none false q = refl
          none true q = absurd (clash (sym (out_cell e ok x (and_first (ltb (out_at e x) 64) (registers (e.nodes (out_at e x))) q)) ∙ c))

  pub use_under : (x : ℕ) → shown_of (cells_of e) x ≡ (circuit_of e).out x
  use_under x = go (is_cell x) refl
    where
      go : (b : Bool) → is_cell x ≡ b → (b && in_use (kind_of e (23 - x))) ≡ (circuit_of e).out x
      go true c = use_at e x c
      go false c = none ((circuit_of e).out x) refl
        where
          none : (r : Bool) → (circuit_of e).out x ≡ r → false ≡ r
          none false q = refl
          none true q = absurd (clash (sym (out_cell e ok x q) ∙ c))

  given-at : (ins : ℕ → Bool) (p : ℕ) → is_in p ≡ true → Column p → on (get_or (pins_for e ins) (p - 1) 0) ≡ ins p
  unfolding pins_for is_callers
  given-at ins p t c =
      let a = c.some in
      let b = c.low in
      let y : p - 1 + 1 ≡ p = omega arith in
      ap on (listed_at (λ i. bit (is_callers e (i + 1) && ins (i + 1))) 24 (p - 1) (omega arith))
      ∙ on_bit (is_callers e (p - 1 + 1) && ins (p - 1 + 1))
      ∙ ap (λ (x : ℕ). is_callers e x && ins x) y
      ∙ go (ltb 1 p && ltb p 12) (eqb p 13) _ t
    where
      go : (a b d : Bool) → (a || b) ≡ true → ((a || (b || d)) && ins p) ≡ ins p
      go true b d q = refl
      go false true d q = refl
      go false false d q = absurd (clash (sym q))

  -- at the pins of INs and registers, the device's variables are the circuit's setting
  pins_are : (ins q : ℕ → Bool) (p : ℕ) → (is_in p ≡ true) ⊎ ((circuit_of e).registered p ≡ true)
      → pins_at e (setting_for (cells_of e) (bits_for q) (pins_for e ins)) p ≡ setting_of (circuit_of e) ins q p
  unfolding pins_at
  pins_are ins q p s =
      ap (xor (flip_at e true p)) (variable-at (bits_for q) (pins_for e ins) p (spoken_column e ok p s) ∙ ap (λ (b : Bool). not (pick b (not (on (get_or (bits_for q) (p - 14) 0))) (on (get_or (pins_for e ins) (p - 1) 0)))) (holds_under p))
      ∙ go ((circuit_of e).registered p) refl s
    where
      c : Column p
      c = spoken_column e ok p s

      go : (r : Bool) → (circuit_of e).registered p ≡ r → (is_in p ≡ true) ⊎ ((circuit_of e).registered p ≡ true)
          → xor (flip_at e true p) (not (pick r (not (on (get_or (bits_for q) (p - 14) 0))) (on (get_or (pins_for e ins) (p - 1) 0)))) ≡ pick r (xor ((circuit_of e).inverted p) (q p)) (ins p)
      go true r s =
          ap₂ xor (flip_register e p c.low r) (twice (on (get_or (bits_for q) (p - 14) 0)) ∙ bit_at q p (out_cell e ok p (and_first (ltb (out_at e p) 64) (registers (e.nodes (out_at e p))) r)))
      go false r (inl t) = ap₂ xor (flip_other e p c.low r) (ap not (given-at ins p t c)) ∙ twice (ins p)
      go false r (inr t) = absurd (clash (sym t ∙ r))

  -- ---- what is shown, and what is held next

  value-at : (ins q : ℕ → Bool) (x : ℕ) → (circuit_of e).out x ≡ true
      → value (cells_of e) (23 - x) (setting_for (cells_of e) (bits_for q) (pins_for e ins)) ≡ (circuit_of e).next x (setting_of (circuit_of e) ins q)
  value-at ins q x u =
      next_is e ok x u (setting_for (cells_of e) (bits_for q) (pins_for e ins)) (setting_long (bits_for q) (pins_for e ins))
      ∙ ap (λ (b : Bool). ltb (out_at e x) 64 && b) (next_same e ok x u (pins_at e (setting_for (cells_of e) (bits_for q) (pins_for e ins))) (setting_of (circuit_of e) ins q) (pins_are ins q))

  shows-at : (ins q : ℕ → Bool) (x : ℕ) → value_of (cells_of e) (bits_for q) (setting_for (cells_of e) (bits_for q) (pins_for e ins)) x ≡ shows (circuit_of e) ins q x
  unfolding shows
  shows-at ins q x =
      ap (λ (b : Bool). b && pick (holds (kind_of e (23 - x))) (xor (not (not (inverts (e.nodes (out_of e (23 - x)))))) (on (get_or (bits_for q) (x - 14) 0))) (value (cells_of e) (23 - x) (setting_for (cells_of e) (bits_for q) (pins_for e ins)))) (use_under x)
      ∙ under ((circuit_of e).out x)
      (pick (holds (kind_of e (23 - x))) (xor (not (not (inverts (e.nodes (out_of e (23 - x)))))) (on (get_or (bits_for q) (x - 14) 0))) (value (cells_of e) (23 - x) (setting_for (cells_of e) (bits_for q) (pins_for e ins))))
      (pick ((circuit_of e).registered x) (xor ((circuit_of e).inverted x) (q x)) ((circuit_of e).next x (setting_of (circuit_of e) ins q)))
      one
    where
      one : (circuit_of e).out x ≡ true
          → pick (holds (kind_of e (23 - x))) (xor (not (not (inverts (e.nodes (out_of e (23 - x)))))) (on (get_or (bits_for q) (x - 14) 0))) (value (cells_of e) (23 - x) (setting_for (cells_of e) (bits_for q) (pins_for e ins)))
          ≡ pick ((circuit_of e).registered x) (xor ((circuit_of e).inverted x) (q x)) ((circuit_of e).next x (setting_of (circuit_of e) ins q))
      one u =
          let c = out_cell e ok x u in
          let h = holds_at e x c in
          let v = twice (inverts (e.nodes (out_of e (23 - x)))) ∙ ap (λ (p : ℕ). inverts (e.nodes (out_at e p))) (cell_pin x c) ∙ sym (ap (λ (b : Bool). b && inverts (e.nodes (out_at e x))) u) in
          let b = bit_at q x c in
          let f = value-at ins q x u in
          λ i. pick (h i) (xor (v i) (b i)) (f i)

  holds-next : (ins q : ℕ → Bool) (x : ℕ) → is_cell x ≡ true
      → (holds (kind_of e (23 - x)) && value (cells_of e) (23 - x) (setting_for (cells_of e) (bits_for q) (pins_for e ins))) ≡ clocked (circuit_of e) ins q x
  unfolding clocked
  holds-next ins q x c =
      ap (λ (b : Bool). b && value (cells_of e) (23 - x) (setting_for (cells_of e) (bits_for q) (pins_for e ins))) (holds_at e x c)
      ∙ under ((circuit_of e).registered x) (value (cells_of e) (23 - x) (setting_for (cells_of e) (bits_for q) (pins_for e ins))) ((circuit_of e).next x (setting_of (circuit_of e) ins q))
      (λ r. value-at ins q x (and_first (ltb (out_at e x) 64) (registers (e.nodes (out_at e x))) r))

  -- ---- the values that the caller gives are its own

  -- registers only hold 1
  pub record Held (q : ℕ → Bool) : Type 0 where
    pub says : (p : ℕ) → q p ≡ true → (circuit_of e).registered p ≡ true

  right : (own x : Bool) → (x ≡ true → own ≡ true) → wrong own (bit x) ≡ false
  right own false h = refl
  right own true h = ap not (h refl)

  pub callers_are : (x : ℕ) → callers (map_for e) x ≡ is_callers e x
  unfolding callers is_callers map_for
  callers_are x =
      ap (λ (b : Bool). (ltb 1 x && ltb x 12) || (eqb x 13 || b))
      (under (is_cell x) (not (enabled (map_for e) (23 - x)) && not (registered (map_for e) (23 - x))) _
      (λ c.
      let b = ltb-true 13 x (and_first (ltb 13 x) (ltb x 24) c) in
      let u = use_is (cells_of e) (masks_of e) (counts_of e) (kinds_of e) (s0s_of e) (fits e ok) (23 - x) (omega arith) ∙ use_at e x c in
      let h = held_is (cells_of e) (masks_of e) (counts_of e) (kinds_of e) (s0s_of e) (fits e ok) (23 - x) (omega arith) ∙ holds_at e x c in
      (λ i. not (u i) && not (h i)) ∙ go (ltb (out_at e x) 64) (registers (e.nodes (out_at e x)))))
    where
      go : (a b : Bool) → (not a && not (a && b)) ≡ not a
      go true b = refl
      go false b = refl

  pins-right : (ins : ℕ → Bool) → wrong_pins (map_for e) (pins_for e ins) ≡ false
  unfolding wrong_pins pins_for
  pins-right ins =
      none_of (λ i. wrong (callers (map_for e) (i + 1)) (get_or (pins_for e ins) i 0)) 24
      (λ i h.
      ap₂ wrong (callers_are (i + 1)) (listed_at (λ i. bit (is_callers e (i + 1) && ins (i + 1))) 24 i h)
      ∙ right (is_callers e (i + 1)) (is_callers e (i + 1) && ins (i + 1)) (and_first (is_callers e (i + 1)) (ins (i + 1))))

  cell_of_lem : (b : ℕ) → b < 10 → is_cell (14 + b) ≡ true
  cell_of_lem b h = ap₂ (λ (x y : Bool). x && y) (lt-ltb 13 (14 + b) (omega arith)) (lt-ltb (14 + b) 24 (omega arith))

  holds-bit : (b : ℕ) → b < 10 → holds (kind_of e (9 - b)) ≡ (circuit_of e).registered (14 + b)
  holds-bit b h = let y : 9 - b ≡ 23 - (14 + b) = omega arith in ap (λ (k : ℕ). holds (kind_of e k)) y ∙ holds_at e (14 + b) (cell_of_lem b h)

  bits-right : (q : ℕ → Bool) → Held q → wrong_bits (map_for e) (bits_for q) ≡ false
  unfolding wrong_bits bits_for map_for
  bits-right q r =
      none_of (λ b. wrong (registered (map_for e) (9 - b)) (get_or (bits_for q) b 0)) 10
      (λ b h.
      ap₂ wrong (held_is (cells_of e) (masks_of e) (counts_of e) (kinds_of e) (s0s_of e) (fits e ok) (9 - b) (omega arith) ∙ holds-bit b h) (listed_at (λ b. bit (q (14 + b))) 10 b h)
      ∙ right ((circuit_of e).registered (14 + b)) (q (14 + b)) (r.says (14 + b)))

  -- ---- the whole answer

  answer_is : (ins q : ℕ → Bool) → Held q → modelled (map_for e) (bits_for q) (pins_for e ins) ≡ answer_of (cells_of e) (bits_for q) (setting_for (cells_of e) (bits_for q) (pins_for e ins))
  unfolding map_for no_values
  answer_is ins q r =
      behaves (cells_of e) (masks_of e) (counts_of e) (kinds_of e) (s0s_of e) (fits e ok) (grounded e ok) (bits_for q) (pins_for e ins)
      (λ i. pins-right ins i || bits-right q r i)

  pub seen_is : (ins q : ℕ → Bool) → Held q → seen (modelled (map_for e) (bits_for q) (pins_for e ins)) ≡ seen_of (circuit_of e) (shows (circuit_of e) ins q)
  seen_is ins q r =
      let c = cells_of e in
      let s = setting_for (cells_of e) (bits_for q) (pins_for e ins) in
      let a = listed_same (λ i. bit (shown_of c (i + 1))) (λ i. bit ((circuit_of e).out (i + 1))) 24 (λ i h. ap bit (use_under (i + 1))) in
      let b = listed_same (λ i. bit (value_of c (bits_for q) s (i + 1))) (λ i. bit (shows (circuit_of e) ins q (i + 1))) 24 (λ i h. ap bit (shows-at ins q (i + 1))) in
      ap seen (answer_is ins q r) ∙ (λ i. record { verdict = Shown; shown = a i; values = b i })

  pub next_held : (ins q : ℕ → Bool) → Held q → (modelled (map_for e) (bits_for q) (pins_for e ins)).next ≡ bits_for (clocked (circuit_of e) ins q)
  unfolding bits_for
  next_held ins q r =
      let s = setting_for (cells_of e) (bits_for q) (pins_for e ins) in
      ap (λ (a : Answer). a.next) (answer_is ins q r)
      ∙ listed_same (λ b. bit (next_of (cells_of e) s b)) (λ b. bit (clocked (circuit_of e) ins q (14 + b))) 10
      (λ b h.
      let y : 9 - b ≡ 23 - (14 + b) = omega arith in
      ap (λ (k : ℕ). bit (holds (kind_of e k) && value (cells_of e) k s)) y ∙ ap bit (holds-next ins q (14 + b) (cell_of_lem b h)))

  pub clocked_held : (ins q : ℕ → Bool) → Held (clocked (circuit_of e) ins q)
  unfolding clocked
  clocked_held ins q = record { says = λ p t. and_first ((circuit_of e).registered p) ((circuit_of e).next p (setting_of (circuit_of e) ins q)) t }
