use Rattle.lines.proofs.Ends.{length_shown}
use Rattle.lines.specs.Line.{shown_line}
use Rattle.fusetext.proofs.Puts.{then}
use native.Mathlib.Omega.{arith}
use Rattle.lines.proofs.put_shown_line.Goals as goal

pub put_text-requires : goal.put_text-requires
put_text-requires c = omega (arith, length_shown c.args.src.now)

pub returns : goal.returns
unfolding shown_line
returns c = then c.put_shown-n.ensures c.put_text.ensures
