use Rattle.std.proofs.Common.{◌≡◌, drop}
use Rattle.words.specs.Kinds.{looked}
use Rattle.words.proofs.among.Given as goal

abbrev pub invariant-loop-word : goal.invariant-loop-word
invariant-loop-word l = looked l.name (drop l.word-index l.words) ≡ looked l.name l.words
