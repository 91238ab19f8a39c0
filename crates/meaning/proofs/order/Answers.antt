use Rattle.meaning.proofs.Ordering.{order_start, order_more, order_end}
use Rattle.meaning.proofs.order.Goals as goal

pub loop-p-init : goal.loop-p-init
loop-p-init c = order_start _ _ _ c.requires

pub loop-p-preserved : goal.loop-p-preserved
loop-p-preserved c = order_more _ _ _ _ _ _ _ c.loop-p-test.true c.loop-p.invariant c.order_one-n.ensures.0 c.order_one-n.ensures.1

pub returns : goal.returns
returns c = let o = order_end _ _ _ _ _ c.loop-p-test.false c.loop-p.invariant in record { size = o.size; fits = o.fits; says = o.says }
