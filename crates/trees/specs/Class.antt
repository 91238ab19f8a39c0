-- A class's number in memory: 1 IN, 2 OUT, 3 VAR, anything else no element. Assumes nothing.
use Rattle.std.specs.Prelude.{ℕ, eqb, Option, Some, None}
use Rattle.basics.specs.Choice.{pick}
use Rattle.trees.specs.declared.Class.{Class}
use Rattle.trees.specs.declared.Class.TheVariants.{In, Out, Var}

abbrev pub class_numbered : ℕ → Option Class
class_numbered n = pick (eqb n 1) (Some In) (pick (eqb n 2) (Some Out) (pick (eqb n 3) (Some Var) None))
