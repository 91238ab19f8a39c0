use borrow.Author.Rules.{rules}
use borrow.Author.Tests.{tests}
use Rattle.basics.specs.Choice.{bit}
use Rattle.device.specs.Device.{column_of}
use Rattle.rows.proofs.Arrays.{array_is}
use Rattle.gal.specs.Refuse.{forbidden, forbidden_pairs}
use Rattle.galrefuse.proofs.forbidden_pairs.Goals as goal

pub returns : goal.returns
unfolding forbidden_pairs
returns c = array_is (λ p. bit (forbidden c.args.map.now (column_of p))) _ (λ x y q k. search (rules, tests)) _ 22 c.from_fn.ensures.items
