-- How much of a line was kept.
use Rattle.std.specs.Prelude.{ℕ}
use Rattle.answers.specs.declared.Line.{Line}
use Rattle.answers.specs.declared.Line.TheVariants.{Ended, Last}

abbrev pub kept : Line → ℕ
kept (Ended n) = n
kept (Last n) = n
