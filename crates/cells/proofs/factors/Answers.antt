use Rattle.cells.proofs.Summing.{start}
use Rattle.cells.proofs.factors.Goals as goal

pub loop-mask-init : goal.loop-mask-init
loop-mask-init c = start _
