use mathlib.Core.Path.{◌≡◌}
use Prim.Native.Nat.{◌+◌, ◌*◌, ◌≤◌}
use lib.ListN.{drop}
use Rattle.fusetext.proofs.Weights.{weigh}
use Rattle.fusetext.proofs.scan.weigh_of.Given as goal

abbrev pub invariant-loop-j : goal.invariant-loop-j
invariant-loop-j l = (l.acc + weigh l.j (drop l.j l.s) ≡ weigh 0 l.s) × (l.acc ≤ 128 * l.j)
