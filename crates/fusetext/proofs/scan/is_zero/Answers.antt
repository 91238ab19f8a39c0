use mathlib.Core.Path.{◌∙◌}
use lib.Dec.{eqb}
use borrow.Author.Rules.{rules}
use borrow.Author.Tests.{tests}
use Rattle.std.proofs.lemmas.Iterator.{YieldsList-from_slice}
use Rattle.std.proofs.lemmas.Iterator.Search.{all_from_yields_List}
use Rattle.fusetext.proofs.Files.{zeros_all}
use Rattle.fusetext.proofs.scan.is_zero.Goals as goal

pub returns : goal.returns
returns c =
    all_from_yields_List (λ x. eqb x 0) _ _ c.all.result c.all.ensures.ran (YieldsList-from_slice c.args.s.now (cc)) (λ x b q k. search (rules, tests)) ∙ zeros_all c.args.s.now
