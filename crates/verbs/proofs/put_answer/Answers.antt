use native.Mathlib.Omega.{arith}
use mathlib.Core.Path.{sym, ap}
use lib.ListN.{length}
use lib.Seq.{length-take-le}
use Rattle.fusetext.proofs.Puts.{wrote_as, wrote_front, length_wrote}
use Rattle.verbs.proofs.put_answer.Goals as goal

pub slice_bounds-put_text-end : goal.slice_bounds-put_text-end
slice_bounds-put_text-end c = let w = c.answer-n.ensures in let r = w.room in let e = w.ends in let l = length_wrote w in sym (length-take-le c.answer-n.result c.answer-n.new.out (omega arith))

pub put_text-requires : goal.put_text-requires
put_text-requires c = let e = ap length (wrote_front c.answer-n.ensures) in omega arith

pub returns : goal.returns
returns c = wrote_as c.put_text.ensures (wrote_front c.answer-n.ensures)
