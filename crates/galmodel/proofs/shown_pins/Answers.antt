use borrow.Author.Rules.{rules}
use borrow.Author.Tests.{tests}
use Prim.Native.Nat.{◌+◌}
use Rattle.basics.specs.Choice.{bit}
use Rattle.gal.specs.Show.{shown_at, shown_pins}
use Rattle.rows.proofs.Arrays.{array_is}
use Rattle.galmodel.proofs.shown_pins.Goals as goal

pub returns : goal.returns
unfolding shown_pins
returns c = array_is (λ i. bit (shown_at c.args.map.now (i + 1))) _ (λ x y q k. search (rules, tests)) _ 24 c.from_fn.ensures.items
