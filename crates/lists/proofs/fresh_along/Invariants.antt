use Rattle.std.proofs.Common.{◌-◌, length}
use Rattle.lists.proofs.Sifted.{Along}
use Rattle.lists.proofs.fresh_along.Given as goal

abbrev pub invariant-loop-next : goal.invariant-loop-next
invariant-loop-next l = Along l.scope.text.now l.scope.names.now l.first.at l.initial.sieve l.sieve l.from.at

abbrev pub decreases-loop-next : goal.decreases-loop-next
decreases-loop-next l = length l.scope.text.now - l.from.at
