-- `fusetext::scan::weigh_of` meets its contract: the fuses are weighed one by one. Assumes nothing.
use native.Mathlib.Omega.{arith}
use Rattle.fusetext.proofs.Weights.{weigh_one, weigh_zero, weigh_none, weigh_map}
use Rattle.fusetext.proofs.scan.weigh_of.Goals.{then-s-j-eq1, else-s-j-eq1}
use Rattle.fusetext.proofs.scan.weigh_of.Goals as goal

pub loop-j-preserved : goal.loop-j-preserved
loop-j-preserved c = let s = c.args.s.now in let j = c.loop-j.j in
    elim c.if-s-j-eq1.branch [
      | then-s-j-eq1 w ↦ omega (arith, w.weight-acc.ensures, weigh_one s j (omega arith) w.if-s-j-eq1.true)
      | else-s-j-eq1 w ↦ omega (arith, weigh_zero s j (omega arith) (omega (arith, w.if-s-j-eq1.false, c.requires.bits j)))
    ]

pub returns : goal.returns
returns c = omega (arith, weigh_map c.args.s.now c.requires.s_len, weigh_none c.args.s.now c.loop-j.j (omega arith))
