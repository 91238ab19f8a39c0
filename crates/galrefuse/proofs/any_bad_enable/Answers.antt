use borrow.Author.Rules.{rules}
use borrow.Author.Tests.{tests}
use Rattle.gal.specs.Refuse.{bad_enable}
use Rattle.gal.proofs.Slices.{any_is}
use Rattle.galrefuse.proofs.any_bad_enable.Goals as goal

pub returns : goal.returns
returns c = any_is (bad_enable c.args.map.now) 10 _ _ _ c.any.ensures.ran (λ x b q k. search (rules, tests))
