-- The model of the emitted map shows on each pin what its cell's function says, and clocks each register to what its function says.
-- Assumes nothing.
use mathlib.Core.Path.{◌≡◌, refl, ap, ◌∙◌}
use mathlib.Core.Bool.{Bool, true, false, not, ◌&&◌}
use mathlib.Core.List.{List, []}
use Prim.Native.Nat.{ℕ, ◌+◌, ◌-◌, ◌<◌}
use native.Mathlib.Omega.{arith}
use lib.Dec.{T, ltb, ltb→lt}
use lib.ListN.{length, get_or}
use Rattle.basics.specs.Choice.{bit, on, pick, xor}
use Rattle.basics.proofs.Folds.{listed_same, listed_length}
use Rattle.basics.proofs.Truth.{and_l, and_r, of_true}
use Rattle.cover.specs.Sum.{over}
use Rattle.device.specs.Device.{column_of}
use Rattle.rows.specs.Setting.{setting_of}
use Rattle.gal.specs.Map.{registered, enabled, is_cell, signal, signals, total}
use Rattle.gal.specs.Refuse.{no_values}
use Rattle.gal.specs.Show.{shown_at, cell_value, value_at, shown_pins, value_pins}
use Rattle.gal.specs.Clock.{next_at, next_bits}
use Rattle.gal.specs.Model.{refusal, answered, modelled}
use Rattle.gal.specs.Model.Verdict.{Shown}
use Rattle.cells.specs.Map.{map_of}
use Rattle.behave.specs.Cells.{Kind, in_use, holds, Cells, value, Fits, Grounded, signal_of, setting_for, shows, shown_of, value_of, next_of, answer_of}
use Rattle.behave.specs.Cells.Kind.{unused, combinational, registered as register}
use Rattle.behave.proofs.Emitted.{enabled_is, registered_is, plain_is}
use Rattle.behave.proofs.Chosen.{used_is, clocked_is, in_rows, Chosen}
use Rattle.behave.proofs.Sum.{total_is}
use Rattle.behave.proofs.Within.{choice, is_map_lem, inside_model}

-- a register's cell is in use
pub held_used : (k : Kind) → holds k ≡ true → in_use k ≡ true
held_used unused e = e
held_used combinational e = refl
held_used register e = refl

-- the cell of a pin
pub cell_low : (x : ℕ) → is_cell x ≡ true → 23 - x < 10
cell_low x e =
    let a = ltb→lt 13 x (and_l (ltb 13 x) (ltb x 24) (of_true _ e)) in
    let b = ltb→lt x 24 (and_r (ltb 13 x) (ltb x 24) (of_true _ e)) in
    omega arith

-- under a test, what stands behind it need only agree where it passes
pub under : (a b c : Bool) → (a ≡ true → b ≡ c) → (a && b) ≡ (a && c)
under true b c h = h refl
under false b c h = refl

-- shown true, or inverted where the rows are those of the opposite
turn : (s : Bool) (named : ℕ) (f : List Bool → Bool) (t : List Bool) → xor (not s) (over named (in_rows false s f) t) ≡ over named f t
turn true named f t = refl
turn false named f t = twice (over named f t)
  where
    twice : (b : Bool) → not (not b) ≡ b
    twice true = refl
    twice false = refl

module _ (c : Cells) (all : List (List ℕ)) (counts kinds s0s : List ℕ) (w : Fits c all counts kinds s0s) where
  pub held_is : (k : ℕ) → k < 10 → registered (map_of all counts kinds s0s) k ≡ holds (c.kind k)
  held_is k h = registered_is all counts kinds s0s k h ∙ clocked_is kinds k (c.kind k) (w.kinds_are k h)

  pub use_is : (k : ℕ) → k < 10 → enabled (map_of all counts kinds s0s) k ≡ in_use (c.kind k)
  use_is k h = enabled_is all counts kinds s0s k h ∙ used_is kinds k (c.kind k) (w.kinds_are k h)

  -- ---- signals

  signal-is : (bits pins : List ℕ) (x : ℕ) → signal (map_of all counts kinds s0s) bits pins x ≡ signal_of c bits pins x
  unfolding signal
  signal-is bits pins x =
      ap (λ (b : Bool). pick b (not (on (get_or bits (x - 14) 0))) (on (get_or pins (x - 1) 0)))
      (under (is_cell x) (registered (map_of all counts kinds s0s) (23 - x)) (holds (c.kind (23 - x))) (λ e. held_is (23 - x) (cell_low x e)))

  -- the setting of the model's signals is that of the cells
  pub setting_is : (bits pins : List ℕ) → setting_of (signals (map_of all counts kinds s0s) bits pins) ≡ setting_for c bits pins
  unfolding signals setting_for
  setting_is bits pins =
      ap setting_of
      (listed_same (λ p. bit (signal (map_of all counts kinds s0s) bits pins (column_of p))) (λ p. bit (signal_of c bits pins (column_of p))) 22 (λ p h. ap bit (signal-is bits pins (column_of p))))

  -- ---- one cell

  pub sum_is : (k : ℕ) → k < 10 → in_use (c.kind k) ≡ true → (sig : List ℕ) → length sig ≡ 22
      → total (map_of all counts kinds s0s) k sig ≡ over (c.named k) (in_rows (holds (c.kind k)) (on (get_or s0s k 0)) (c.function k)) (setting_of sig)
  sum_is k h u sig z =
      total_is all counts kinds s0s k h (holds (c.kind k)) (c.start k) (c.named k) (c.function k) (used_is kinds k (c.kind k) (w.kinds_are k h) ∙ u) (choice c all counts kinds s0s w k h u) sig z

  -- THE THEOREM: a register takes what its function says
  pub next_is : (b : ℕ) → b < 10 → (sig : List ℕ) → length sig ≡ 22 → next_at (map_of all counts kinds s0s) sig b ≡ next_of c (setting_of sig) b
  unfolding next_at
  next_is b h sig z =
      let k = 9 - b in
      ap (λ (x : Bool). x && total (map_of all counts kinds s0s) k sig) (held_is k (omega arith))
      ∙ under (holds (c.kind k)) (total (map_of all counts kinds s0s) k sig) (value c k (setting_of sig))
      (λ e. sum_is k (omega arith) (held_used (c.kind k) e) sig z ∙ ap (λ (r : Bool). over (c.named k) (in_rows r (on (get_or s0s k 0)) (c.function k)) (setting_of sig)) e)

  pub shown_is : (x : ℕ) → shown_at (map_of all counts kinds s0s) x ≡ shown_of c x
  unfolding shown_at
  shown_is x = under (is_cell x) (enabled (map_of all counts kinds s0s) (23 - x)) (in_use (c.kind (23 - x))) (λ e. use_is (23 - x) (cell_low x e))

  -- THE THEOREM: a cell in use shows its function, or for a register its bit, inverted where its start says so
  pub cell_shows : (k q : ℕ) (sig : List ℕ) → k < 10 → in_use (c.kind k) ≡ true → length sig ≡ 22 → cell_value (map_of all counts kinds s0s) k q sig ≡ shows c k q (setting_of sig)
  unfolding cell_value
  cell_shows k q sig h u z =
      let s = plain_is all counts kinds s0s k h (used_is kinds k (c.kind k) (w.kinds_are k h) ∙ u) in
      let r = held_is k h in
      let t = sum_is k h u sig z in
      (λ i. xor (not (s i)) (pick (r i) (on q) (t i))) ∙ go (holds (c.kind k)) (choice c all counts kinds s0s w k h u)
    where
      go : (r : Bool) → Chosen k r (c.start k) (c.named k) (c.function k) (on (get_or s0s k 0)) (get_or counts k 0) (get_or all k [])
          → xor (not (on (get_or s0s k 0))) (pick r (on q) (over (c.named k) (in_rows r (on (get_or s0s k 0)) (c.function k)) (setting_of sig))) ≡ pick r (xor (not (c.start k)) (on q)) (value c k (setting_of sig))
      go true x = ap (λ (b : Bool). xor (not b) (on q)) (x.own refl)
      go false x = turn (on (get_or s0s k 0)) (c.named k) (c.function k) (setting_of sig)

  pub value_is : (bits sig : List ℕ) (x : ℕ) → length sig ≡ 22 → value_at (map_of all counts kinds s0s) bits sig x ≡ value_of c bits (setting_of sig) x
  unfolding value_at
  value_is bits sig x z =
      ap (λ (b : Bool). b && cell_value (map_of all counts kinds s0s) (23 - x) (get_or bits (x - 14) 0) sig) (shown_is x)
      ∙ under (shown_of c x) (cell_value (map_of all counts kinds s0s) (23 - x) (get_or bits (x - 14) 0) sig) (shows c (23 - x) (get_or bits (x - 14) 0) (setting_of sig))
      (λ e.
      let a = and_l (is_cell x) (in_use (c.kind (23 - x))) (of_true _ e) in
      let b = and_r (is_cell x) (in_use (c.kind (23 - x))) (of_true _ e) in
      cell_shows (23 - x) (get_or bits (x - 14) 0) sig (cell_low x (true-is _ a)) (true-is _ b) z)
    where
      true-is : (b : Bool) → T b → b ≡ true
      true-is true t = refl
      true-is false t = absurd t

  -- ---- all cells

  signals-size : (bits pins : List ℕ) → length (signals (map_of all counts kinds s0s) bits pins) ≡ 22
  unfolding signals
  signals-size bits pins = listed_length (λ p. bit (signal (map_of all counts kinds s0s) bits pins (column_of p))) 22

  answered-is : (bits pins : List ℕ) → answered (map_of all counts kinds s0s) bits pins ≡ answer_of c bits (setting_for c bits pins)
  unfolding shown_pins value_pins next_bits
  answered-is bits pins =
      let m = map_of all counts kinds s0s in
      let sig = signals m bits pins in
      let z = signals-size bits pins in
      let e = setting_is bits pins in
      let a = listed_same (λ i. bit (shown_at m (i + 1))) (λ i. bit (shown_of c (i + 1))) 24 (λ i h. ap bit (shown_is (i + 1))) in
      let b = listed_same (λ i. bit (value_at m bits sig (i + 1))) (λ i. bit (value_of c bits (setting_for c bits pins) (i + 1))) 24 (λ i h. ap bit (value_is bits sig (i + 1) z ∙ ap (λ (s : List Bool). value_of c bits s (i + 1)) e)) in
      let d = listed_same (λ b. bit (next_at m sig b)) (λ b. bit (next_of c (setting_for c bits pins) b)) 10 (λ b h. ap bit (next_is b h sig z ∙ ap (λ (s : List Bool). next_of c s b) e)) in
      λ i. record { verdict = Shown; shown = a i; values = b i; next = d i }

  -- THE THEOREM: wherever the model takes the pins and bits given, its whole answer is that of the cells' functions
  pub behaves : Grounded c → (bits pins : List ℕ) → no_values (map_of all counts kinds s0s) bits pins ≡ false → modelled (map_of all counts kinds s0s) bits pins ≡ answer_of c bits (setting_for c bits pins)
  unfolding modelled
  behaves g bits pins v =
      let m = map_of all counts kinds s0s in
      let a = is_map_lem c all counts kinds s0s w in
      let b = inside_model c all counts kinds s0s w g in
      (λ i. pick (a i) (refusal 31) (pick (b i) (refusal 30) (pick (v i) (refusal 32) (answered m bits pins)))) ∙ answered-is bits pins
