use mathlib.Core.Bool.{◌&&◌}
use Prim.Native.Nat.{◌+◌, ◌*◌}
use borrow.Author.Rules.{rules}
use borrow.Author.Tests.{tests}
use Rattle.rows.specs.Row.{joins, dead_row}
use Rattle.gal.specs.Map.{fuse}
use Rattle.gal.specs.Refuse.{dead}
use Rattle.gal.proofs.Slices.{any_is}
use Rattle.gal.proofs.row_dead.Goals as goal

pub returns : goal.returns
unfolding dead dead_row
returns c = any_is (λ p. joins (fuse c.args.map.now c.args.r (p * 2)) && joins (fuse c.args.map.now c.args.r (p * 2 + 1))) 22 _ _ _ c.any.ensures.ran (λ x b q k. search (rules, tests))
