-- The model (document 01, "The device"): a map, ten register bits and twenty-four pin values to a refusal, or to the pins shown, their values and the
-- registers after the clock; and the model run from power-up.
-- Assumes nothing.
use Rattle.std.specs.Prelude.{List, [], ◌∷◌, ℕ, replicate, Result, Ok, Err}
use Rattle.basics.specs.Choice.{pick}
use Rattle.basics.specs.Refusal.{number_of as number}
use Rattle.basics.specs.declared.refusal.Refusal.{Refusal}
use Rattle.gal.specs.Map.{signals}
use Rattle.gal.specs.Refuse.{no_map, outside, no_values}
use Rattle.gal.specs.Show.{shown_pins, value_pins}
use Rattle.gal.specs.Clock.{next_bits}
use Rattle.gal.specs.declared.Answer.{Answer as Pins}

-- whether the device shows its pins, or the model refuses, by document 01's number and place
pub data Verdict : Type 0 where
  Shown : Verdict
  Refused : ℕ → ℕ → Verdict

-- the pins shown, their values, and the registers after the clock: pins 1 to 24, registers of pins 14 to 23
pub record Answer : Type 0 where
  pub verdict : Verdict
  pub shown : List ℕ
  pub values : List ℕ
  pub next : List ℕ

-- document 01's number and place of each case: 0 where the device shows its pins
abbrev pub number_of : Verdict → ℕ
number_of Shown = 0
number_of (Refused n p) = n

abbrev pub place_of : Verdict → ℕ
place_of Shown = 0
place_of (Refused n p) = p

-- a refusal of the model: its place is 0, and pins and bits are answered 0
abbrev pub refusal : ℕ → Answer
refusal n = record { verdict = Refused n 0; shown = replicate 24 0; values = replicate 24 0; next = replicate 10 0 }

-- what a call answers: pins, or a refusal
abbrev pub answer_of : Result Pins Refusal → Answer
answer_of (Ok a) = record { verdict = Shown; shown = a.shown; values = a.values; next = a.next }
answer_of (Err r) = record { verdict = Refused (number r.reason) r.place; shown = replicate 24 0; values = replicate 24 0; next = replicate 10 0 }

-- show and clock joined
abbrev pub answered : List ℕ → List ℕ → List ℕ → Answer
answered m bits pins = record { verdict = Shown; shown = shown_pins m; values = value_pins m bits (signals m bits pins); next = next_bits m (signals m bits pins) }

-- the order of refusals: 31, 30, 32
unfoldable pub modelled : List ℕ → List ℕ → List ℕ → Answer
modelled m bits pins = pick (no_map m) (refusal 31) (pick (outside m) (refusal 30) (pick (no_values m bits pins) (refusal 32) (answered m bits pins)))

-- cycle after cycle, each with its pin values, the registers of one being those after the clock of the one before
unfoldable pub run_from : List ℕ → List ℕ → List (List ℕ) → List Answer
run_from m bits [] = []
run_from m bits (pins ∷ rest) = modelled m bits pins ∷ run_from m (modelled m bits pins).next rest

-- from power-up: registers hold 0
unfoldable pub runs : List ℕ → List (List ℕ) → List Answer
runs m inputs = run_from m (replicate 10 0) inputs
