use Rattle.reach.proofs.Meeting.{meets_is}
use Rattle.circuit.proofs.First.{first_same}
use Rattle.reach.proofs.Warshall.{matrix_cell}
use mathlib.Core.Path.{sym, ◌∙◌}
use Rattle.circuit.specs.StageFive.{first_below}
use Rattle.circuit.proofs.first_looped.Goals as goal

pub returns-clause-found : goal.returns-clause-found
unfolding first_below
returns-clause-found c = c.first_own.ensures.found ∙ first_same _ _ 64 (λ k h. matrix_cell _ _ c.reach.ensures k k h h ∙ sym (meets_is _ k k))
