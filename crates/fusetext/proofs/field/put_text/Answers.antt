use native.Mathlib.Omega.{arith}
use Rattle.fusetext.proofs.Puts.{wrote_over}
use Rattle.fusetext.proofs.field.put_text.Goals as goal

pub returns : goal.returns
returns c = wrote_over c.copy_from_slice.ensures.after c.requires (omega arith)
