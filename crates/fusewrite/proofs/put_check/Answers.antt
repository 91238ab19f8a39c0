use native.Mathlib.Omega.{arith}
use mathlib.Core.Path.{ap}
use Rattle.fusetext.proofs.Puts.{then, wrote_as}
use Rattle.fusetext.specs.Digits.{hex4}
use Rattle.fusetext.specs.File.{checking}
use Rattle.fusewrite.proofs.put_check.Goals as goal

pub put_text-requires : goal.put_text-requires
unfolding hex4
put_text-requires c = omega arith

pub returns : goal.returns
unfolding checking
returns c = then (then c.put_text-a.ensures (wrote_as c.put_hex4-b.ensures (ap hex4 c.weigh_of.ensures))) c.put_text.ensures
