use Rattle.tables.proofs.Tabling.{too_many, untouched, counted, written}
use Rattle.tables.proofs.Filling.{power_fits}
use Rattle.tables.proofs.Values.{vars_pins}
use Rattle.basics.specs.declared.refusal.Refusal.{Refusal}
use Rattle.trees.specs.Layout.{elements_of}
use mathlib.Core.Path.{ap, ◌∙◌}
use native.Mathlib.Omega.{arith}
use Rattle.tables.proofs.table.Goals as goal

pub returns-then-chosen-gt10-clause-said : goal.returns-then-chosen-gt10-clause-said
returns-then-chosen-gt10-clause-said c = too_many (elements_of c.args.parts.now) c.args.rows c.args.o _ c.variables-chosen.ensures.count c.if-chosen-gt10.true _ (ap (λ (r : Refusal). r.place) c.new.ensures ∙ c.at.ensures)

pub returns-then-chosen-gt10-clause-filled : goal.returns-then-chosen-gt10-clause-filled
returns-then-chosen-gt10-clause-filled c = untouched (elements_of c.args.parts.now) c.args.rows c.args.o _ c.variables-chosen.ensures.count c.if-chosen-gt10.true _

pub tabulate-requires : goal.tabulate-requires
tabulate-requires c = record {
  parts_value = c.requires.parts_value;
  matrix = c.reach.ensures;
  pins = vars_pins (elements_of c.args.parts.now) c.args.rows c.args.o _ (c.pins.ensures ∙ c.variables-chosen.ensures.pins);
  o_bound = c.requires.o_bound;
  size_in_bounds = let a = power_fits c.variables-chosen.result.count c.power.result (omega (arith, c.if-chosen-gt10.false)) c.power.ensures in omega (arith, c.requires.in_bounds);
}

pub returns-clause-said : goal.returns-clause-said
returns-clause-said c = counted (elements_of c.args.parts.now) c.args.rows c.args.o _ c.variables-chosen.ensures.count c.if-chosen-gt10.false _ c.variables-chosen.ensures.which

pub returns-clause-filled : goal.returns-clause-filled
returns-clause-filled c = written (elements_of c.args.parts.now) c.args.rows c.args.o _ c.variables-chosen.ensures.count c.if-chosen-gt10.false _ _ _ _ c.power.ensures (c.pins.ensures ∙ c.variables-chosen.ensures.pins) c.tabulate.ensures
