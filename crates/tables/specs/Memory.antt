-- What stands in memory while a table is filled. Assumes nothing.
use Rattle.std.specs.Prelude.{◌≡◌, List, ℕ, ◌<◌, get_or}
use Rattle.basics.specs.Below.{listed}
use Rattle.trees.specs.Layout.{Elements}
use Rattle.reach.specs.Uses.{uses}
use Rattle.reach.specs.Reach.{via}
use Rattle.reach.specs.Table.{Matrix}
use Rattle.meaning.specs.Settle.{rank_in, order_of}

-- the elements that are replaced, by their ranks
pub record InOrder (e : Elements) (order : List ℕ) : Type 0 where
  pub meets : List ℕ
  pub closed : Matrix meets (via (uses e) 64)
  pub says : order ≡ order_of e (listed (rank_in meets) 64) 4160

-- the variables are pins
pub record Pins (vars : List ℕ) : Type 0 where
  pub small : (k : ℕ) → get_or vars k 0 < 24
