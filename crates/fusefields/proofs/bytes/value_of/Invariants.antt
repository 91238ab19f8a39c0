use mathlib.Core.Path.{◌≡◌}
use Prim.Native.Nat.{◌≤◌, min}
use lib.ListN.{drop}
use Rattle.fusefields.specs.Bytes.{value}
use Rattle.fusefields.proofs.bytes.value_of.Given as goal

abbrev pub invariant-loop-b : goal.invariant-loop-b
invariant-loop-b l = (min l.most (value l.n (drop l.b-index l.s)) ≡ min l.most (value 0 l.s)) × (l.n ≤ l.most)
