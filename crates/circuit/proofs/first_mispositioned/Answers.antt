use Rattle.std.proofs.Common.{rules}
use Rattle.circuit.proofs.First.{found}
use Rattle.circuit.proofs.first_mispositioned.Goals as goal

pub returns-clause-found : goal.returns-clause-found
returns-clause-found c = found _ _ (λ k b h p. search rules) c.find.ensures.some c.find.ensures.none
