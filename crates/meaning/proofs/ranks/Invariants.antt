use Rattle.meaning.specs.Settle.{rank_in}
use Rattle.basics.proofs.Folds.{Listing}
use Rattle.meaning.proofs.ranks.Given as goal

abbrev pub invariant-loop-i : goal.invariant-loop-i
invariant-loop-i l = Listing (rank_in l.m) 64 l.out l.i
