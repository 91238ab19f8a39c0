use Rattle.std.proofs.Common.{◌≡◌, ◌-◌, length, drop}
use Rattle.words.specs.Words.{gap}
use Rattle.words.proofs.skip.Given as goal

abbrev pub invariant-loop-i : goal.invariant-loop-i
invariant-loop-i l = gap 0 (drop l.i l.text) l.i ≡ gap 0 (drop l.from l.text) l.from

abbrev pub decreases-loop-i : goal.decreases-loop-i
decreases-loop-i l = length l.text - l.i
