use mathlib.Core.Path.{◌∙◌}
use lib.Dec.{leb}
use borrow.Author.Rules.{rules}
use borrow.Author.Tests.{tests}
use Rattle.std.proofs.lemmas.Iterator.{YieldsList-from_slice}
use Rattle.std.proofs.lemmas.Iterator.Search.{all_from_yields_List}
use Rattle.fusetext.proofs.Files.{bits_test}
use Rattle.fusetext.proofs.scan.is_bits.Goals as goal

pub returns : goal.returns
returns c =
    all_from_yields_List (λ x. leb x 1) _ _ c.all.result c.all.ensures.ran (YieldsList-from_slice c.args.s.now (cc)) (λ x b q k. search (rules, tests)) ∙ bits_test c.args.s.now
