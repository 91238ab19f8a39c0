use Rattle.std.proofs.Common.{rules}
use Rattle.circuit.proofs.First.{found}
use Rattle.meaning.specs.Circuit.{out_at}
use Rattle.tables.proofs.out_at.Goals as goal

pub returns-clause-found : goal.returns-clause-found
unfolding out_at
returns-clause-found c = found _ _ (λ k b h p. search rules) c.find.ensures.some c.find.ensures.none
