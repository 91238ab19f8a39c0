use Rattle.std.proofs.Common.{◌≡◌, drop}
use Rattle.words.specs.Words.{gap}
use Rattle.words.proofs.comment_end.Given as goal

abbrev pub invariant-loop-i : goal.invariant-loop-i
invariant-loop-i l = gap 2 (drop l.i l.text) l.i ≡ gap 2 (drop l.from l.text) l.from
