use Rattle.std.proofs.Common.{refl, sym, ap, ◌∙◌}
use Rattle.names.specs.Names.{shown, looked_up}
use Rattle.names.proofs.Laws.{find_here, find_past, find_none}
use Rattle.names.proofs.look_up.Goals as goal

pub loop-names-init : goal.loop-names-init
unfolding looked_up
loop-names-init c = refl

pub returns-then-same_name : goal.returns-then-same_name
returns-then-same_name c = sym (find_here _ _ _ c.in-len5-up.len_at_least (sym c.same_name.ensures ∙ c.if-same_name.true)) ∙ c.loop-names.invariant

pub loop-names-preserved : goal.loop-names-preserved
loop-names-preserved c = sym (ap shown (find_past _ _ _ c.in-len5-up.len_at_least (sym c.same_name.ensures ∙ c.if-same_name.false))) ∙ c.loop-names.invariant

pub returns : goal.returns
returns c = sym (find_none _ _ _ c.in_default.len_below) ∙ c.loop-names.invariant
