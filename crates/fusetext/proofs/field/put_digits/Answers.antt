use borrow.Author.Rules.{rules}
use lib.Dec.{eqb}
use Rattle.basics.specs.Choice.{pick}
use Rattle.fusetext.proofs.Files.{map_digits}
use Rattle.fusetext.proofs.Puts.{wrote_as}
use Rattle.fusetext.proofs.field.put_digits.Goals as goal

pub returns : goal.returns
returns c = wrote_as (c.put_each.ensures (λ x. pick (eqb x 1) 49 48) (λ x y h q. search rules)) (map_digits c.args.src.now c.requires.bits)
