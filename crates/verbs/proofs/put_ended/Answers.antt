use native.Mathlib.Omega.{arith}
use mathlib.Core.Path.{sym, ap}
use lib.ListN.{length, take}
use Prim.Native.Nat.{ℕ}
use lib.Seq.{length-take-le}
use Rattle.fusetext.proofs.Puts.{wrote_as}
use Rattle.gallines.specs.Lines.{answer_to}
use Rattle.verbs.proofs.put_ended.Goals as goal

pub slice_bounds-put_answer-end : goal.slice_bounds-put_answer-end
slice_bounds-put_answer-end c = sym (length-take-le c.contents_of-k.result c.args.line.now c.contents_of-k.ensures.1)

pub put_answer-requires : goal.put_answer-requires
put_answer-requires c = let e = ap (λ (k : ℕ). length (answer_to c.args.map.now (take k c.args.line.now))) c.contents_of-k.ensures.0 in omega arith

pub returns : goal.returns
returns c = wrote_as c.put_answer.ensures (ap (λ (k : ℕ). answer_to c.args.map.now (take k c.args.line.now)) c.contents_of-k.ensures.0)
