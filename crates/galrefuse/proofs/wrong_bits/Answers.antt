use Prim.Native.Nat.{◌-◌}
use borrow.Author.Rules.{rules}
use borrow.Author.Tests.{tests}
use lib.ListN.{get_or}
use Rattle.gal.specs.Map.{registered}
use Rattle.gal.specs.Refuse.{wrong, wrong_bits}
use Rattle.gal.proofs.Slices.{any_is}
use Rattle.galrefuse.proofs.wrong_bits.Goals as goal

pub returns : goal.returns
unfolding wrong_bits
returns c = any_is (λ b. wrong (registered c.args.map.now (9 - b)) (get_or c.args.bits.now b 0)) 10 _ _ _ c.any.ensures.ran (λ x b q k. search (rules, tests))
