use Rattle.fusetext.specs.Digits.{dec4}
use Rattle.fusetext.proofs.field.put_dec4.Goals as goal

pub returns : goal.returns
unfolding dec4
returns c = c.put_text.ensures
