use native.Mathlib.Omega.{arith}
use Rattle.fusetext.proofs.Puts.{length_wrote}
use Rattle.verbs.proofs.Asking.{upto_start, upto_byte, line_room, upto_line, last_room, upto_end}
use Rattle.verbs.proofs.put_answers.Goals.{then-s-i-eq10, else-s-i-eq10}
use Rattle.verbs.proofs.put_answers.Goals as goal

pub loop-i-init : goal.loop-i-init
loop-i-init c = upto_start c.args.map.now c.args.s.now c.args.out.now

pub put_ended-o-requires : goal.put_ended-o-requires
put_ended-o-requires c = line_room c.args.map.now c.args.s.now c.args.out.now c.loop-i.out c.loop-i.start c.loop-i.i c.loop-i.o c.loop-i.invariant (omega arith) c.requires

pub loop-i-preserved : goal.loop-i-preserved
loop-i-preserved c =
    elim c.if-s-i-eq10.branch [
      | then-s-i-eq10 w ↦ rw (w.out-is, w.o-is, w.start-is) (upto_line c.args.map.now c.args.s.now c.args.out.now c.loop-i.out c.loop-i.start c.loop-i.i c.loop-i.o c.loop-i.invariant _ _ (omega arith) w.if-s-i-eq10.true w.put_ended-o.ensures)
      | else-s-i-eq10 w ↦ rw (w.out-is, w.o-is, w.start-is) (upto_byte c.args.map.now c.args.s.now c.args.out.now c.loop-i.out c.loop-i.start c.loop-i.i c.loop-i.o c.loop-i.invariant (omega arith) w.if-s-i-eq10.false)
    ]

pub put_last-requires : goal.put_last-requires
put_last-requires c = last_room c.args.map.now c.args.s.now c.args.out.now c.loop-i.out c.loop-i.start c.loop-i.i c.loop-i.o c.loop-i.invariant c.requires

pub shape_of-out : goal.shape_of-out
shape_of-out c = let a = length_wrote c.loop-i.invariant.wrote in let b = length_wrote c.put_last.ensures in omega arith

pub returns : goal.returns
returns c = upto_end c.args.map.now c.args.s.now c.args.out.now c.loop-i.out c.loop-i.start c.loop-i.i c.loop-i.o c.loop-i.invariant _ _ (omega arith) c.put_last.ensures
