use Rattle.meaning.proofs.Ordering.{follow_more, follow_end}
use Rattle.meaning.proofs.settle.Goals as goal

pub loop-i-preserved : goal.loop-i-preserved
loop-i-preserved c = follow_more _ _ _ _ _ _ c.loop-i-test.true c.loop-i.invariant c.settle_one.ensures

pub returns : goal.returns
returns c = follow_end _ _ _ _ _ c.loop-i-test.false c.loop-i.invariant
