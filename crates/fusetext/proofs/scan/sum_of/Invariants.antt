use mathlib.Core.Path.{◌≡◌}
use Prim.Native.Nat.{◌+◌, ◌*◌, ◌≤◌}
use lib.ListN.{drop}
use Rattle.fusetext.specs.File.{sum}
use Rattle.fusetext.proofs.scan.sum_of.Given as goal

abbrev pub invariant-loop-b : goal.invariant-loop-b
invariant-loop-b l = (l.acc + sum (drop l.b-index l.s) ≡ sum l.s) × (l.acc ≤ 255 * l.b-index)
