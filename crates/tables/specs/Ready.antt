-- An OUT's function as the code holds it, and what has to be so before its table is filled. Assumes nothing.
use Rattle.std.specs.Prelude.{◌≡◌, Bool, ℕ, ◌<◌}
use Rattle.basics.specs.Choice.{bit}
use Rattle.basics.specs.Below.{listed}
use Rattle.trees.specs.Layout.{elements_of}
use Rattle.circuit.specs.StageFive.{stage_five}
use Rattle.circuit.specs.StageFive.Verdict.{fine}
use Rattle.tables.specs.Tables.{flip_at, setting_at, outcome}
use Rattle.tables.specs.Memory.{InOrder, Pins}
use Rattle.tables.specs.declared.Function.{Function}

-- its value on the setting where the variables are the bits of k
abbrev pub entry_at : Function → ℕ → Bool
entry_at f k = outcome (elements_of f.parts.now) f.rows f.o (setting_at (elements_of f.parts.now) f.rows f.vars.now k)

-- its module passes stage 5, the order is that of the ranks, the complements are those of the pins, and it is an element over pins
pub record Ready (f : Function) : Type 0 where
  pub passed : stage_five (elements_of f.parts.now) ≡ fine
  pub in_order : InOrder (elements_of f.parts.now) f.order.now
  pub complements : f.flips ≡ listed (λ p. bit (flip_at (elements_of f.parts.now) f.rows p)) 24
  pub pins : Pins f.vars.now
  pub small : f.o < 64
