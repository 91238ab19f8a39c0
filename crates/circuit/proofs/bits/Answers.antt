use lib.ListN.{length-replicate}
use Rattle.circuit.proofs.Bytes.{filled_start, filled_more, filled_end}
use Rattle.circuit.proofs.bits.Goals as goal

pub loop-i-init : goal.loop-i-init
loop-i-init g c = filled_start _ _ (length-replicate _ _)

pub loop-i-preserved : goal.loop-i-preserved
loop-i-preserved g c = filled_more _ _ _ _ _ c.loop-i-test.true c.loop-i.invariant c.test.ensures c.byte_of.ensures

pub returns : goal.returns
returns g c = filled_end _ _ _ c.loop-i-test.false c.loop-i.invariant
