use Rattle.cells.proofs.Summing.{Counted}
use Rattle.cells.proofs.factors.Given as goal

abbrev pub invariant-loop-mask : goal.invariant-loop-mask
invariant-loop-mask l = Counted l.mask-items l.mask-index l.sum
