use Rattle.reach.proofs.Warshall.{closing, close_start}
use Rattle.reach.proofs.close.Goals as goal

pub loop-k-init : goal.loop-k-init
loop-k-init c = close_start _ c.requires

pub loop-k-preserved : goal.loop-k-preserved
loop-k-preserved c = closing _ _ _ _ c.loop-k-test.true c.loop-k.invariant c.round_by.ensures
