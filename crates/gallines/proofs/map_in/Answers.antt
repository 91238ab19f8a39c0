use native.Mathlib.Omega.{arith}
use Rattle.gallines.proofs.Writing.{whole}
use Rattle.gallines.specs.Lines.{map_of}
use Rattle.gallines.proofs.map_in.Goals as goal

pub returns : goal.returns
unfolding map_of
returns c = let z = c.loop-b.invariant.size in whole _ _ _ _ (omega arith) c.loop-b.invariant
