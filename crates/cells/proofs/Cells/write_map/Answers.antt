use native.Mathlib.Omega.{arith}
use Rattle.cells.proofs.Writing.{last_start, last_more, last_end}
use Rattle.cells.proofs.Cells.write_map.Goals as goal

pub loop-i-init : goal.loop-i-init
loop-i-init c = last_start _ _ _ c.write_rows.ensures.size

pub loop-i-preserved : goal.loop-i-preserved
loop-i-preserved c = last_more _ _ _ _ _ _ (omega arith) c.loop-i-test.true c.loop-i.invariant c.last_fuse.ensures

pub returns : goal.returns
returns c = last_end _ _ _ _ _ _ _ c.write_rows.ensures c.loop-i-test.false c.loop-i.invariant
