-- Ten cells as functions, before any text is in view (document 01, "From equation to rows" and "The device"), and what they show and hold next.
-- Cells are counted from 0, that of pin 23 first.
-- Assumes nothing.
use Rattle.std.specs.Prelude.{◌≡◌, Bool, true, false, not, ◌&&◌, ◌||◌, List, [], ◌∷◌, ℕ, ◌+◌, ◌-◌, ◌<◌, eqb, ltb, length, get_or}
use Rattle.basics.specs.Choice.{bit, on, pick, xor}
use Rattle.basics.specs.Below.{any_below, listed}
use Rattle.cover.specs.Sum.{bits_of, over}
use Rattle.fit.specs.Fit.{fitted}
use Rattle.device.specs.Device.{column_of}
use Rattle.rows.specs.Setting.{setting_of}
use Rattle.gal.specs.Map.{is_cell}
use Rattle.gal.specs.Refuse.{wrong}
use Rattle.gal.specs.Model.{Answer}
use Rattle.gal.specs.Model.Verdict.{Shown}

pub data Kind : Type 0 where
  unused combinational registered : Kind

-- a cell's kind as the arrays of fitted cells have it
abbrev pub code : Kind → ℕ
code unused = 0
code combinational = 1
code registered = 2

abbrev pub in_use : Kind → Bool
in_use unused = false
in_use combinational = true
in_use registered = true

abbrev pub holds : Kind → Bool
holds unused = false
holds combinational = false
holds registered = true

-- Of each cell: its kind; for a register whether its pin shows Q (S0 is 1) or the inverse of Q; the variables that its function names, and the
-- function over them, lowest first: what the pin shows, for a register what Q takes next
pub record Cells : Type 0 where
  pub kind : ℕ → Kind
  pub start : ℕ → Bool
  pub named : ℕ → ℕ
  pub function : ℕ → List Bool → Bool

-- the function of cell k over all twenty-two variables
abbrev pub value : Cells → ℕ → List Bool → Bool
value c k s = over (c.named k) (c.function k) s

-- the arrays hold what fitting gives for the cells in use: none is refused
pub record Fits (c : Cells) (all : List (List ℕ)) (counts kinds s0s : List ℕ) : Type 0 where
  pub kinds_are : (k : ℕ) → k < 10 → get_or kinds k 0 ≡ code (c.kind k)
  pub fit : (k : ℕ) → k < 10 → in_use (c.kind k) ≡ true
      → fitted k (holds (c.kind k)) (c.start k) (c.named k) (c.function k) ≡ record { ok = true; s0 = on (get_or s0s k 0); n = get_or counts k 0; masks = get_or all k [] }

-- a pin that an equation may speak of: an input, or the pin of a register
abbrev pub spoken : Cells → ℕ → Bool
spoken c x = (ltb 1 x && ltb x 12) || (eqb x 13 || (is_cell x && holds (c.kind (23 - x))))

-- the cells in use name no other pins: variable i is that of column pair 21 - i
pub record Grounded (c : Cells) : Type 0 where
  pub says : (k : ℕ) → k < 10 → in_use (c.kind k) ≡ true → (i : ℕ) → i < 22 → get_or (bits_of 22 (c.named k)) i false ≡ true → spoken c (column_of (21 - i)) ≡ true

-- ---- what the cells show and hold next, with register bits by pins 14 to 23 and pin values by pins 1 to 24

-- the signals of the column pairs: an inverse of Q for each register, else the pin
abbrev pub signal_of : Cells → List ℕ → List ℕ → ℕ → Bool
signal_of c bits pins x = pick (is_cell x && holds (c.kind (23 - x))) (not (on (get_or bits (x - 14) 0))) (on (get_or pins (x - 1) 0))

unfoldable pub setting_for : Cells → List ℕ → List ℕ → List Bool
setting_for c bits pins = setting_of (listed (λ p. bit (signal_of c bits pins (column_of p))) 22)

-- what the pin of cell k shows at setting s, its register bit being q
abbrev pub shows : Cells → ℕ → ℕ → List Bool → Bool
shows c k q s = pick (holds (c.kind k)) (xor (not (c.start k)) (on q)) (value c k s)

abbrev pub shown_of : Cells → ℕ → Bool
shown_of c x = is_cell x && in_use (c.kind (23 - x))

abbrev pub value_of : Cells → List ℕ → List Bool → ℕ → Bool
value_of c bits s x = shown_of c x && shows c (23 - x) (get_or bits (x - 14) 0) s

abbrev pub next_of : Cells → List Bool → ℕ → Bool
next_of c s b = holds (c.kind (9 - b)) && value c (9 - b) s

-- the whole answer
abbrev pub answer_of : Cells → List ℕ → List Bool → Answer
answer_of c bits s =
    record {
      verdict = Shown;
      shown = listed (λ i. bit (shown_of c (i + 1))) 24;
      values = listed (λ i. bit (value_of c bits s (i + 1))) 24;
      next = listed (λ b. bit (next_of c s b)) 10;
    }

-- pin values that may be given: 0 or 1, and 1 only for inputs and the pins of unused cells
abbrev pub givable : Cells → ℕ → Bool
givable c x = (ltb 1 x && ltb x 12) || (eqb x 13 || (is_cell x && (not (in_use (c.kind (23 - x))) && not (holds (c.kind (23 - x))))))

unfoldable pub refused_pins : Cells → List ℕ → Bool
refused_pins c pins = any_below (λ i. wrong (givable c (i + 1)) (get_or pins i 0)) 24

-- cycle after cycle, each with its pin values, the registers of one being those after the clock of the one before
unfoldable pub cycles_of : Cells → List ℕ → List (List ℕ) → List Answer
cycles_of c bits [] = []
cycles_of c bits (pins ∷ rest) = answer_of c bits (setting_for c bits pins) ∷ cycles_of c (listed (λ b. bit (next_of c (setting_for c bits pins) b)) 10) rest

-- ---- two sets of cells are the same: equal kinds, registers that start alike, and functions that agree at every setting of all variables
pub record Same (c d : Cells) : Type 0 where
  pub kinds : (k : ℕ) → k < 10 → c.kind k ≡ d.kind k
  pub starts : (k : ℕ) → k < 10 → holds (c.kind k) ≡ true → c.start k ≡ d.start k
  pub functions : (k : ℕ) → k < 10 → in_use (c.kind k) ≡ true → (s : List Bool) → length s ≡ 22 → value c k s ≡ value d k s
