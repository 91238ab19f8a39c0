use borrow.Author.Rules.{rules}
use borrow.Author.Tests.{tests}
use Rattle.gallines.specs.Lines.{given, bits_of}
use Rattle.rows.proofs.Arrays.{array_is}
use Rattle.gallines.proofs.bits_of.Goals as goal

pub returns : goal.returns
unfolding bits_of
returns c = array_is (given c.args.line.now) _ (λ x y q k. search (rules, tests)) _ 10 c.from_fn.ensures.items
