use Prim.Native.Nat.{◌+◌}
use borrow.Author.Rules.{rules}
use borrow.Author.Tests.{tests}
use lib.ListN.{get_or}
use Rattle.gal.specs.Refuse.{callers, wrong, wrong_pins}
use Rattle.gal.proofs.Slices.{any_is}
use Rattle.galrefuse.proofs.wrong_pins.Goals as goal

pub returns : goal.returns
unfolding wrong_pins
returns c = any_is (λ i. wrong (callers c.args.map.now (i + 1)) (get_or c.args.pins.now i 0)) 24 _ _ _ c.any.ensures.ran (λ x b q k. search (rules, tests))
