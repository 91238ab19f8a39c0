use mathlib.Core.Path.{sym, ap, ◌∙◌}
use native.Mathlib.Omega.{arith}
use lib.ListN.{length, length-set}
use Rattle.fusefields.proofs.Fronts.{fuse_code, fuses_one, fuses_other, fuses_none}
use Rattle.fusetext.proofs.Puts.{put_turn, put_done}
use Rattle.fusefields.proofs.bytes.put_fuses.Goals.{then-is_fuse, else-is_fuse}
use Rattle.fusefields.proofs.bytes.put_fuses.Goals as goal

pub bounds-cells-o : goal.bounds-cells-o
bounds-cells-o c = omega (arith, ap length (fuses_one c.args.s.now c.loop-b.b-index (omega arith) (sym c.is_fuse.ensures ∙ c.if-is_fuse.true)))

pub loop-b-preserved : goal.loop-b-preserved
loop-b-preserved c = let s = c.args.s.now in let j = c.loop-b.b-index in
    elim c.if-is_fuse.branch [
      | then-is_fuse w ↦
          let e = fuses_one s j (omega arith) (sym c.is_fuse.ensures ∙ w.if-is_fuse.true) in
          rw (w.cells-is, w.o-is) (put_turn _ _ _ c.loop-b.invariant.0 e (omega (arith, ap length e)), omega (arith, ap length e), simp length-set c.loop-b.invariant.2)
      | else-is_fuse w ↦
          let e = fuses_other s j (omega arith) (sym c.is_fuse.ensures ∙ w.if-is_fuse.false) in
          rw (w.cells-is, w.o-is) (rw (← e) c.loop-b.invariant)
    ]

pub returns : goal.returns
returns c =
    let e = fuses_none c.args.s.now c.loop-b.b-index (omega arith) in
    record {
      room = omega arith;
      holds = put_done _ _ c.loop-b.invariant.0 e;
      ends = omega (arith, ap length e);
    }

pub overflow_sub-cells : goal.overflow_sub-cells
overflow_sub-cells c = fuse_code _ (sym c.is_fuse.ensures ∙ c.if-is_fuse.true)
