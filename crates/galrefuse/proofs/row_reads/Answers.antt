use mathlib.Core.Bool.{◌&&◌, ◌||◌}
use Prim.Native.Nat.{◌+◌, ◌*◌}
use borrow.Author.Rules.{rules}
use borrow.Author.Tests.{tests}
use lib.ListN.{get_or}
use Rattle.basics.specs.Choice.{on}
use Rattle.rows.specs.Row.{joins}
use Rattle.gal.specs.Map.{fuse}
use Rattle.gal.specs.Refuse.{reads}
use Rattle.gal.proofs.Slices.{any_is}
use Rattle.galrefuse.proofs.row_reads.Goals as goal

pub returns : goal.returns
unfolding reads
returns c = any_is (λ p. on (get_or c.args.bad.now p 0) && (joins (fuse c.args.map.now c.args.r (p * 2)) || joins (fuse c.args.map.now c.args.r (p * 2 + 1)))) 22 _ _ _ c.any.ensures.ran (λ x b q k. search (rules, tests))
