use mathlib.Core.List.{map}
use mathlib.Core.Path.{◌≡◌}
use Prim.Native.Nat.{ℕ, ◌+◌}
use lib.ListN.{length, drop}
use Rattle.fusetext.specs.Put.{put, Computes}
use Rattle.fusetext.proofs.field.put_each.Given as goal

abbrev pub invariant-loop-x : goal.invariant-loop-x
invariant-loop-x g l =
    ((p : ℕ → ℕ) → Computes (goal.F-post g l.f) p → put l.out l.o (map p (drop l.x-index l.src)) ≡ put l.initial.out l.at (map p l.src))
    × (l.o ≡ l.at + l.x-index)
    × (length l.out ≡ length l.initial.out)
