use Rattle.lines.proofs.Spelling.{spells_start, spells_more, spells_end}
use native.Mathlib.Omega.{arith}
use Rattle.lines.proofs.spell.Goals as goal

pub loop-rest-init : goal.loop-rest-init
loop-rest-init c = spells_start c.args.n c.args.digits.now c.requires (omega (arith, c.ranges))

pub bounds-digits-i : goal.bounds-digits-i
bounds-digits-i c = omega (arith, c.loop-rest.invariant)

pub loop-rest-preserved : goal.loop-rest-preserved
loop-rest-preserved c = spells_more _ _ _ _ c.loop-rest.invariant c.loop-rest-test.true

pub shape_of-digits : goal.shape_of-digits
shape_of-digits c = omega (arith, c.loop-rest.invariant.size)

pub returns : goal.returns
returns c = (spells_end _ _ _ _ c.loop-rest.invariant (omega arith), c.loop-rest.invariant.below)
