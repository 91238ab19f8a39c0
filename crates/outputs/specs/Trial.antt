-- What comes of one OUT in stage 6 (document 01, "From equation to rows", refusals 11 and 12). Assumes nothing.
use Rattle.std.specs.Prelude.{Bool, false, List, ℕ, Result, Ok, Err, replicate}
use Rattle.basics.specs.Choice.{pick}
use Rattle.basics.specs.Refusal.{number_of}
use Rattle.basics.specs.declared.refusal.Reason.{Reason}
use Rattle.trees.specs.Layout.{Elements}
use Rattle.fit.specs.declared.Fitted.{Fitted}
use Rattle.outputs.specs.Outputs.{too_many, fitted_out}

-- what comes of an OUT: number 0, its S0, the number of its products and their masks; or the number of its refusal
pub record Tried : Type 0 where
  pub number : ℕ
  pub s0 : Bool
  pub n : ℕ
  pub masks : List ℕ

-- an answer seen so
abbrev pub seen : Result Fitted Reason → Tried
seen (Ok t) = record { number = 0; s0 = t.s0; n = t.n; masks = t.masks }
seen (Err r) = record { number = number_of r; s0 = false; n = 0; masks = replicate 16 0 }

-- what comes of OUT o: number 0 and what it is fitted to, or the number of its refusal
unfoldable pub tried_of : Elements → ℕ → Tried
tried_of e o =
    pick (too_many e o)
    (record { number = 11; s0 = false; n = 0; masks = replicate 16 0 })
    (record { number = pick (fitted_out e o).ok 0 12; s0 = (fitted_out e o).s0; n = (fitted_out e o).n; masks = (fitted_out e o).masks })
