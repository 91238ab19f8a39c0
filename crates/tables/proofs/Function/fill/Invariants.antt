use Rattle.tables.proofs.Filling.{Filling}
use Rattle.tables.specs.Ready.{entry_at}
use Rattle.basics.specs.Choice.{bit}
use Rattle.tables.proofs.Function.fill.Given as goal

abbrev pub invariant-loop-k : goal.invariant-loop-k
invariant-loop-k l = Filling (λ k. bit (entry_at l.self k)) l.initial.t l.t l.size l.k
