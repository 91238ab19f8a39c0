use borrow.Author.Rules.{rules}
use borrow.Author.Tests.{tests}
use Rattle.basics.specs.Choice.{bit}
use Rattle.gal.specs.Clock.{next_at, next_bits}
use Rattle.rows.proofs.Arrays.{array_is}
use Rattle.galmodel.proofs.next_bits.Goals as goal

pub returns : goal.returns
unfolding next_bits
returns c = array_is (λ b. bit (next_at c.args.map.now c.args.sig.now b)) _ (λ x y q k. search (rules, tests)) _ 10 c.from_fn.ensures.items
