use Prim.Native.Nat.{◌+◌, ◌*◌}
use borrow.Author.Rules.{rules}
use borrow.Author.Tests.{tests}
use lib.ListN.{get_or}
use Rattle.rows.specs.Row.{pair_true, true_row}
use Rattle.gal.specs.Map.{fuse, row_true}
use Rattle.gal.proofs.Slices.{all_is}
use Rattle.gal.proofs.row_true.Goals as goal

pub returns : goal.returns
unfolding row_true true_row
returns c = all_is (λ p. pair_true (fuse c.args.map.now c.args.r (p * 2)) (fuse c.args.map.now c.args.r (p * 2 + 1)) (get_or c.args.sig.now p 0)) 22 _ _ _ c.all.ensures.ran (λ x b q k. search (rules, tests))
