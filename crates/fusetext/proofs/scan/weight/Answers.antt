-- `fusetext::scan::weight` meets its contract: the table holds the powers of two. Assumes nothing.
use Prim.Native.Nat.{◌%◌}
use native.Mathlib.Omega.{arith}
use Rattle.fusetext.proofs.Weights.{weights, weights_are, weights_le}
use Rattle.fusetext.proofs.scan.weight.Goals as goal

pub returns : goal.returns
unfolding weights
returns c = (weights_are (c.args.j % 8) (omega arith), weights_le (c.args.j % 8))
