use mathlib.Core.Path.{◌≡◌}
use Prim.Native.Nat.{◌+◌, ◌≤◌}
use lib.ListN.{length, drop}
use Rattle.fusefields.specs.Bytes.{fuses}
use Rattle.fusefields.proofs.bytes.count_fuses.Given as goal

abbrev pub invariant-loop-b : goal.invariant-loop-b
invariant-loop-b l = (l.n + length (fuses (drop l.b-index l.s)) ≡ length (fuses l.s)) × (l.n ≤ l.b-index)
