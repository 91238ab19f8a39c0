use Rattle.tables.proofs.Setting.{flips_are}
use Rattle.tables.specs.Tables.{set_bits, outcome}
use Rattle.trees.specs.Layout.{elements_of}
use Prim.Native.Nat.{ℕ}
use mathlib.Core.Bool.{Bool}
use mathlib.Core.Path.{ap, ◌∙◌}
use Rattle.tables.proofs.Function.entry.Goals as goal

pub returns : goal.returns
returns c =
    c.result.ensures
    ∙ ap (outcome (elements_of c.args.self.now.parts.now) c.args.self.now.rows c.args.self.now.o)
    (c.pins_of-pins.ensures ∙ ap (λ (f : ℕ → Bool). set_bits f f c.args.self.now.vars.now c.args.k) (flips_are _ _ _ c.requires.complements))
