use Rattle.std.proofs.Common.{◌≡◌, length}
use Rattle.names.specs.Names.{spelling, find, shown, entries, looked_up}
use Rattle.names.proofs.look_up.Given as goal

abbrev pub invariant-loop-names : goal.invariant-loop-names
invariant-loop-names l = shown (find (spelling l.text l.start l.n) (entries l.text l.names)) ≡ looked_up l.text l.fn.names l.start l.n

abbrev pub decreases-loop-names : goal.decreases-loop-names
decreases-loop-names l = length l.names
