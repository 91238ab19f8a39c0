use mathlib.Core.Path.{refl, ◌∙◌}
use borrow.Author.Rules.{rules}
use borrow.Author.Tests.{tests}
use lib.Dec.{leb}
use Rattle.std.proofs.lemmas.Iterator.{YieldsList-from_range}
use Rattle.std.proofs.lemmas.Iterator.Consumers.{YieldsList-from_filter, count_from_yields_List}
use Rattle.device.specs.Device.{enable_of}
use Rattle.cells.proofs.Writing.{begun_count}
use Rattle.cells.proofs.cell_at.Goals as goal

pub returns : goal.returns
returns c =
    count_from_yields_List c.filter.result _ c.count.ensures.ran (YieldsList-from_filter _ (λ k. leb (enable_of k) c.args.r) (YieldsList-from_range 1 10 9 c.filter.ensures.source refl) c.filter.ensures.closure (λ x b q k. search (rules, tests)))
    ∙ begun_count c.args.r
