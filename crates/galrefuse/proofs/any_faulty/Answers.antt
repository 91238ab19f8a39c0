use borrow.Author.Rules.{rules}
use borrow.Author.Tests.{tests}
use Rattle.gal.specs.Refuse.{cell_faulty}
use Rattle.gal.proofs.Slices.{any_is}
use Rattle.galrefuse.proofs.any_faulty.Goals as goal

pub returns : goal.returns
returns c = any_is (λ k. cell_faulty c.args.map.now k c.args.bad.now) 10 _ _ _ c.any.ensures.ran (λ x b q k. search (rules, tests))
