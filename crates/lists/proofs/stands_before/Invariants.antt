use Rattle.std.proofs.Common.{◌≡◌, ◌-◌, length}
use Rattle.lists.specs.Lists.{is_back, back_of}
use Rattle.lists.proofs.Laws.{back}
use Rattle.lists.proofs.stands_before.Given as goal

abbrev pub invariant-loop-word : goal.invariant-loop-word
invariant-loop-word l = is_back (back l.text l.start l.end l.from.at) ≡ is_back (back_of l.text l.first l.start l.end)

abbrev pub decreases-loop-word : goal.decreases-loop-word
decreases-loop-word l = length l.text - l.from.at
