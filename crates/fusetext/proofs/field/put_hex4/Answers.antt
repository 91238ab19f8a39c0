use Rattle.fusetext.proofs.Puts.{wrote_as}
use Rattle.fusetext.specs.Digits.{hex4}
use Rattle.fusetext.proofs.field.put_hex4.Goals as goal

pub returns : goal.returns
unfolding hex4
returns c = wrote_as c.put_text.ensures (cc)
