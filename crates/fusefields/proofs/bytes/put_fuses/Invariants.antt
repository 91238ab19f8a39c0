use mathlib.Core.Path.{◌≡◌}
use Prim.Native.Nat.{◌+◌}
use lib.ListN.{length, drop}
use Rattle.fusefields.specs.Bytes.{fuses}
use Rattle.fusetext.specs.Put.{put}
use Rattle.fusefields.proofs.bytes.put_fuses.Given as goal

abbrev pub invariant-loop-b : goal.invariant-loop-b
invariant-loop-b l = (put l.cells l.o (fuses (drop l.b-index l.s)) ≡ put l.initial.cells l.at (fuses l.s)) × (l.o + length (fuses (drop l.b-index l.s)) ≡ l.at + length (fuses l.s)) × (length l.cells ≡ length l.initial.cells)
