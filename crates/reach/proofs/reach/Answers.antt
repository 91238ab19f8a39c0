use Rattle.reach.proofs.Warshall.{closed_edges}
use Rattle.reach.specs.Uses.{uses}
use Rattle.reach.specs.Reach.{via}
use Rattle.reach.proofs.reach.Goals as goal

pub returns : goal.returns
unfolding uses via
returns c = closed_edges _ _ _ c.edges.ensures c.close.ensures
