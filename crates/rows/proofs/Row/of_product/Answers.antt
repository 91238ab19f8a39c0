use native.Mathlib.Omega.{arith}
use Rattle.rows.proofs.Filling.{step}
use Rattle.rows.proofs.Row.of_product.Goals as goal

pub loop-i-preserved : goal.loop-i-preserved
loop-i-preserved c = step _ _ _ _ _ _ _ _ _ _ _ (omega arith) (omega arith) c.loop-i.invariant c.plain_fuse.ensures c.inverse_fuse.ensures
