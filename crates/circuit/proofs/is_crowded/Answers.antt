use Rattle.std.proofs.Common.{rules}
use mathlib.Core.Path.{◌∙◌}
use Rattle.circuit.proofs.First.{found_any}
use Rattle.circuit.proofs.is_crowded.Goals as goal

pub returns : goal.returns
returns c = c.is_some.ensures ∙ found_any _ _ (λ k b h p. search rules) c.find.ensures.some c.find.ensures.none
