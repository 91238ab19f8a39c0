-- The number that a word of decimal digits spells, of any size (document 01, 'From equation to rows', on graders; decision 30). Assumes nothing.
use Rattle.std.specs.Prelude.{List, ℕ, min, Option, Some, None}
use Rattle.basics.specs.Choice.{pick}
use Rattle.fusefields.specs.Bytes.{digit, value}
use Rattle.fusefields.specs.Fields.{some, only}

-- at least one byte, and digits only: the number they spell, kept up to 10 ^ 18
unfoldable pub numeral_of : List ℕ → Option ℕ
numeral_of s = pick (some s) (pick (only digit s) (Some (min 1000000000000000000 (value 0 s))) None) None
