use mathlib.Core.Path.{ap, ◌∙◌}
use borrow.Author.Rules.{rules}
use borrow.Author.Tests.{tests}
use lib.Dec.{ltb}
use lib.ListN.{get_or}
use Rattle.std.proofs.lemmas.Iterator.{YieldsList-from_slice}
use Rattle.std.proofs.lemmas.Iterator.Search.{any_from_yields_List}
use Rattle.basics.specs.Below.{any_below}
use Rattle.gal.proofs.Slices.{any_by_index}
use Rattle.galrefuse.proofs.big_byte.Goals as goal

pub returns : goal.returns
returns c =
    any_from_yields_List (ltb 1) _ _ _ c.any.ensures.ran (YieldsList-from_slice c.args.map.now c.iter.ensures.rest) (λ x b q k. search (rules, tests))
    ∙ any_by_index (ltb 1) c.args.map.now
    ∙ ap (any_below (λ i. ltb 1 (get_or c.args.map.now i 0))) c.requires
