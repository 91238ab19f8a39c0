use borrow.Author.Rules.{rules}
use lib.Dec.{eqb}
use Rattle.basics.specs.Choice.{pick}
use Rattle.fusetext.proofs.Puts.{wrote_as}
use Rattle.fuseread.proofs.Endings.{map_filled}
use Rattle.fuseread.proofs.fill.Goals as goal

pub returns : goal.returns
returns c = wrote_as (c.put_each.ensures (λ x. pick (eqb x 2) c.args.f x) (λ x y h q. search rules)) (map_filled c.args.f c.args.src.now)
