use borrow.Author.Rules.{rules}
use borrow.Author.Tests.{tests}
use Rattle.basics.specs.Choice.{bit}
use Rattle.device.specs.Device.{column_of}
use Rattle.gal.specs.Map.{signal, signals}
use Rattle.rows.proofs.Arrays.{array_is}
use Rattle.galmodel.proofs.all_signals.Goals as goal

pub returns : goal.returns
unfolding signals
returns c = array_is (λ p. bit (signal c.args.map.now c.args.bits.now c.args.pins.now (column_of p))) _ (λ x y q k. search (rules, tests)) _ 22 c.from_fn.ensures.items
