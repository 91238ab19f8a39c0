use native.Mathlib.Omega.{arith}
use mathlib.Core.Path.{sym}
use lib.Seq.{length-take-le}
use Rattle.fusetext.proofs.Puts.{wrote_as}
use Rattle.verbs.proofs.Files.{write_long, write_short}
use Rattle.verbs.proofs.write_answer.Goals as goal

pub returns-then-n-gt5892 : goal.returns-then-n-gt5892
returns-then-n-gt5892 c = wrote_as (rw c.new.ensures at c.put_refused.ensures) (write_long c.args.text.now _ c.line_length-n.ensures.0 c.line_length-n.ensures.1 c.if-n-gt5892.true)

pub slice_bounds-put_fuses_in-end : goal.slice_bounds-put_fuses_in-end
slice_bounds-put_fuses_in-end c = sym (length-take-le c.line_length-n.result c.args.text.now c.line_length-n.ensures.1)

pub put_fuses_in-requires : goal.put_fuses_in-requires
put_fuses_in-requires c = omega (arith, length-take-le c.line_length-n.result c.args.text.now c.line_length-n.ensures.1)

pub slice_bounds-put_file-end : goal.slice_bounds-put_file-end
slice_bounds-put_file-end c = sym (length-take-le c.line_length-n.result c.put_fuses_in.new.out (omega arith))

pub returns : goal.returns
returns c = wrote_as c.put_file.ensures (write_short c.args.text.now _ _ c.line_length-n.result _ c.line_length-n.ensures.0 c.line_length-n.ensures.1 c.put_fuses_in.ensures)
