use borrow.Author.Rules.{rules}
use borrow.Author.Tests.{tests}
use Prim.Native.Nat.{◌+◌}
use Rattle.gallines.specs.Lines.{given, pins_of}
use Rattle.rows.proofs.Arrays.{array_is}
use Rattle.gallines.proofs.pins_of.Goals as goal

pub returns : goal.returns
unfolding pins_of
returns c = array_is (λ i. given c.args.line.now (i + 11)) _ (λ x y q k. search (rules, tests)) _ 24 c.from_fn.ensures.items
