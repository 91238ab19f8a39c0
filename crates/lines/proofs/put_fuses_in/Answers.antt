use borrow.Author.Rules.{rules}
use lib.Dec.{eqb}
use Rattle.basics.specs.Choice.{pick}
use Rattle.fusetext.proofs.Puts.{wrote_as}
use Rattle.lines.proofs.Ends.{map_fuses}
use Rattle.lines.proofs.put_fuses_in.Goals as goal

pub returns : goal.returns
returns c = wrote_as (c.put_each.ensures (λ x. pick (eqb x 48) 0 (pick (eqb x 49) 1 2)) (λ x y h q. search rules)) (map_fuses c.args.src.now)
