use Rattle.tables.proofs.Setting.{differs}
use Rattle.tables.proofs.Values.{shown_is}
use Rattle.trees.specs.Layout.{elements_of}
use Rattle.trees.specs.Machine.{env_of}
use Rattle.basics.specs.Choice.{xor}
use mathlib.Core.Path.{ap, ap₂, ◌∙◌}
use Rattle.tables.proofs.result.Goals as goal

pub returns-then-rows : goal.returns-then-rows
returns-then-rows c =
    simp c.if-rows.true
    (differs _ _
    ∙ ap₂ xor c.inverse-inverted.ensures
    (shown_is (elements_of c.args.parts.now) c.args.o _ (env_of c.args.pins.now) _ _ _ _ c.requires.vals_value c.inverse-inverted.ensures (c.named-shown.ensures ∙ ap (env_of c.args.pins.now) c.at.ensures) (differs _ _) c.value_in-v.ensures))

pub returns-else-rows : goal.returns-else-rows
returns-else-rows c =
    simp c.if-rows.false
    (shown_is (elements_of c.args.parts.now) c.args.o _ (env_of c.args.pins.now) _ _ _ _ c.requires.vals_value c.inverse-inverted.ensures (c.named-shown.ensures ∙ ap (env_of c.args.pins.now) c.at.ensures) (differs _ _) c.value_in-v.ensures)
