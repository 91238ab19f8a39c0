use Rattle.reach.proofs.Warshall.{turn}
use Rattle.reach.proofs.round.Goals as goal

pub loop-p-preserved : goal.loop-p-preserved
loop-p-preserved c = turn _ _ _ _ _ c.requires.k_bound c.loop-p-test.true c.loop-p.invariant c.met.ensures
