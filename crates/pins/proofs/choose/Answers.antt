use Rattle.pins.proofs.Choosing.{choosing_start, choosing_taken, choosing_left, pin_small, mask_room}
use Rattle.pins.specs.Named.{names_pin}
use mathlib.Core.Path.{refl, sym, ap, ◌∙◌}
use native.Mathlib.Omega.{arith}
use Rattle.pins.proofs.choose.Goals.{then-is_named_pin, else-is_named_pin}
use Rattle.pins.proofs.choose.Goals as goal

pub loop-i-init : goal.loop-i-init
loop-i-init c = choosing_start _ _ _ _ refl

pub overflow_cast-vars : goal.overflow_cast-vars
overflow_cast-vars c = let s = pin_small c.args.rows _ c.loop-i-test.true in omega (arith, c.variable_pin-p.ensures, s)

pub overflow_add-mask : goal.overflow_add-mask
overflow_add-mask c = let a = mask_room _ _ _ _ _ _ _ c.loop-i-test.true c.loop-i.invariant in omega arith

pub loop-i-preserved : goal.loop-i-preserved
loop-i-preserved c =
    let n = ap (names_pin _ _) (sym c.variable_pin-p.ensures) ∙ sym c.is_named_pin.ensures in
    elim c.if-is_named_pin.branch [
      | then-is_named_pin w ↦ choosing_taken _ _ _ _ _ _ _ _ _ _ _ c.loop-i-test.true c.loop-i.invariant c.variable_pin-p.ensures (n ∙ w.if-is_named_pin.true) w.vars-is w.count-is w.mask-is
      | else-is_named_pin w ↦ choosing_left _ _ _ _ _ _ _ _ _ _ c.loop-i.invariant (n ∙ w.if-is_named_pin.false) w.vars-is w.count-is w.mask-is
    ]
