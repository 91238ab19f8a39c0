use Prim.Native.Nat.{◌+◌}
use borrow.Author.Rules.{rules}
use borrow.Author.Tests.{tests}
use Rattle.std.proofs.lemmas.Iterator.{serves_from_Range}
use Rattle.device.proofs.Rule.{rows_fit}
use Rattle.gal.specs.Map.{row_true, total}
use Rattle.gal.proofs.Slices.{any_is}
use Rattle.gal.proofs.cell_total.Goals as goal

pub any-requires-clause-callable : goal.any-requires-clause-callable
any-requires-clause-callable c = serves_from_Range (λ x q k. search (rules, tests)) (λ x low high. let e = c.enable.ensures in let p = c.products-n.ensures in let f = rows_fit _ c.requires.k_bound in search rules)

pub returns : goal.returns
unfolding total
returns c = simp (← c.enable.ensures, ← c.products-n.ensures) (any_is (λ i. row_true c.args.map.now (c.enable.result + 1 + i) c.args.sig.now) c.products-n.result _ _ _ c.any.ensures.ran (λ x b q k. search (rules, tests)))
