use mathlib.Core.Path.{◌∙◌}
use native.Mathlib.Omega.{arith}
use borrow.Author.Rules.{rules}
use borrow.Author.Tests.{tests}
use lib.Dec.{eqb}
use Rattle.std.proofs.lemmas.Iterator.{YieldsList-from_slice}
use Rattle.std.proofs.lemmas.Iterator.Search.{all_from_yields_List}
use Rattle.gal.proofs.Slices.{row_all}
use Rattle.gal.proofs.row_is.Goals as goal

pub returns : goal.returns
returns c =
    all_from_yields_List (λ x. eqb x c.args.v) _ _ _ c.all.ensures.ran (YieldsList-from_slice _ c.iter.ensures.rest) (λ x b q k. search (rules, tests))
    ∙ row_all c.args.map.now c.args.r c.args.v _ c.requires.map_len c.requires.r_bound (omega arith)
