use Rattle.std.proofs.Common.{◌≡◌, ◌≤◌, drop}
use Rattle.words.specs.Words.{value_of}
use Rattle.words.proofs.literal.Given as goal

abbrev pub invariant-loop-b : goal.invariant-loop-b
invariant-loop-b l = record { small : l.value ≤ 65535; says : value_of l.value (drop l.b-index l.rest) ≡ value_of 0 l.rest }
