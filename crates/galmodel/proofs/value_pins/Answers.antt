use borrow.Author.Rules.{rules}
use borrow.Author.Tests.{tests}
use Prim.Native.Nat.{◌+◌}
use Rattle.basics.specs.Choice.{bit}
use Rattle.gal.specs.Show.{value_at, value_pins}
use Rattle.rows.proofs.Arrays.{array_is}
use Rattle.galmodel.proofs.value_pins.Goals as goal

pub returns : goal.returns
unfolding value_pins
returns c = array_is (λ i. bit (value_at c.args.map.now c.args.bits.now c.args.sig.now (i + 1))) _ (λ x y q k. search (rules, tests)) _ 24 c.from_fn.ensures.items
