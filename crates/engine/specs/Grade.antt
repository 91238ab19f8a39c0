-- The verdict on a product, by number. Assumes nothing.
use Rattle.std.specs.Prelude.{ℕ}
use Rattle.engine.specs.declared.Grade.{Grade}
use Rattle.engine.specs.declared.Grade.TheVariants.{NoImplicant, Implicant, Prime}

-- the number of each grade, as `grade` of sums has them
abbrev pub grade_number : Grade → ℕ
grade_number NoImplicant = 0
grade_number Implicant = 1
grade_number Prime = 2
