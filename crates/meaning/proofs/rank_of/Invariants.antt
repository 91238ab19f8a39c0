use Rattle.reach.specs.Table.{cell}
use Rattle.basics.specs.Below.{tally}
use mathlib.Core.Path.{◌≡◌}
use Rattle.meaning.proofs.rank_of.Given as goal

abbrev pub invariant-loop-b : goal.invariant-loop-b
invariant-loop-b l = l.n ≡ tally (cell l.m l.i) l.b-index
