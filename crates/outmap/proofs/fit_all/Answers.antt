use mathlib.Core.Path.{refl, ap, ◌∙◌}
use native.Mathlib.Omega.{arith}
use Rattle.basics.specs.declared.refusal.Refusal.{Refusal}
use Rattle.basics.specs.Refusal.{number_of as reason_number}
use Rattle.circuit.specs.StageFive.Verdict.{refused}
use Rattle.trees.specs.Layout.{elements_of}
use Rattle.outmap.proofs.Turns.{reason_positive, turned_start, turned_more, turned_end, refuses, lets_pass}
use Rattle.outmap.proofs.fit_all.Goals as goal

pub loop-i-init : goal.loop-i-init
loop-i-init c = (refl, turned_start _ _ c.kinds_of.ensures)

pub returns-in-Err-clause-result_value : goal.returns-in-Err-clause-result_value
returns-in-Err-clause-result_value c =
    ap (λ (r : Refusal). refused (reason_number r.reason) r.place) c.new.ensures
    ∙ refuses (elements_of c.args.parts.now) _ _ _ c.loop-i-test.true c.loop-i.invariant.1.none c.in-Err.ensures.value (reason_positive _) c.at.ensures

pub loop-i-preserved : goal.loop-i-preserved
loop-i-preserved c = (
  c.take_out.ensures.room_unchanged ∙ c.loop-i.invariant.0,
  turned_more (elements_of c.args.parts.now) _ _ _ c.requires.parts_value c.loop-i-test.true c.loop-i.invariant.1 c.in_default.ensures.value c.take_out.ensures.cells_after,
)

pub returns-clause-result_value : goal.returns-clause-result_value
returns-clause-result_value c = lets_pass _ _ (omega arith) c.loop-i.invariant.1.none

pub returns-clause-cells : goal.returns-clause-cells
returns-clause-cells c = turned_end _ _ _ (omega arith) c.loop-i.invariant.1
