use mathlib.Core.Path.{ap}
use Rattle.std.specs.Prelude.{Err}
use Rattle.basics.specs.declared.refusal.Refusal.{Refusal}
use Rattle.gal.specs.Model.{answer_of, modelled}
use Rattle.galmodel.proofs.Answers.{answer_is}
use Rattle.galmodel.proofs.model.Goals as goal

pub returns-then-no_map : goal.returns-then-no_map
unfolding modelled
returns-then-no_map c = simp (← c.no_map.ensures, c.if-no_map.true) (ap (λ (r : Refusal). answer_of (Err r)) c.new.ensures)

pub returns-then-is_outside : goal.returns-then-is_outside
unfolding modelled
returns-then-is_outside c = simp (← c.no_map.ensures, c.if-no_map.false, ← c.is_outside.ensures, c.if-is_outside.true) (ap (λ (r : Refusal). answer_of (Err r)) c.new-then-is_outside.ensures)

pub returns-then-no_values : goal.returns-then-no_values
unfolding modelled
returns-then-no_values c = simp (← c.no_map.ensures, c.if-no_map.false, ← c.is_outside.ensures, c.if-is_outside.false, ← c.no_values.ensures, c.if-no_values.true) (ap (λ (r : Refusal). answer_of (Err r)) c.new-then-no_values.ensures)

pub returns : goal.returns
unfolding modelled
returns c = simp (← c.no_map.ensures, c.if-no_map.false, ← c.is_outside.ensures, c.if-is_outside.false, ← c.no_values.ensures, c.if-no_values.false) (answer_is _ _ _ _ _ _ _ c.all_signals-sig.ensures c.shown_pins.ensures c.value_pins.ensures c.next_bits.ensures)
