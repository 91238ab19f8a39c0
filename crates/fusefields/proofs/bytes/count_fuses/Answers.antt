use native.Mathlib.Omega.{arith}
use mathlib.Core.Path.{sym, ap, ◌∙◌}
use lib.ListN.{length}
use Rattle.fusefields.proofs.Fronts.{fuses_one, fuses_other, fuses_none}
use Rattle.fusefields.proofs.bytes.count_fuses.Goals.{then-is_fuse, else-is_fuse}
use Rattle.fusefields.proofs.bytes.count_fuses.Goals as goal

pub loop-b-preserved : goal.loop-b-preserved
loop-b-preserved c = let s = c.args.s.now in let j = c.loop-b.b-index in
    elim c.if-is_fuse.branch [
      | then-is_fuse w ↦ omega (arith, ap length (fuses_one s j (omega arith) (sym c.is_fuse.ensures ∙ w.if-is_fuse.true)))
      | else-is_fuse w ↦ omega (arith, ap length (fuses_other s j (omega arith) (sym c.is_fuse.ensures ∙ w.if-is_fuse.false)))
    ]

pub returns : goal.returns
returns c = omega (arith, ap length (fuses_none c.args.s.now c.loop-b.b-index (omega arith)))
