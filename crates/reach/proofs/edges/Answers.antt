use Rattle.reach.proofs.Marking.{edging_start, edging_more}
use Rattle.reach.proofs.edges.Goals as goal

pub loop-i-init : goal.loop-i-init
loop-i-init c = edging_start _ _ c.requires

pub loop-i-preserved : goal.loop-i-preserved
loop-i-preserved c = edging_more _ _ _ _ c.loop-i-test.true c.loop-i.invariant c.mark_element.ensures
