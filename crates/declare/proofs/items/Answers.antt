use Rattle.std.proofs.Common.{sym, ◌∙◌}
use Rattle.words.specs.declared.Kind.TheVariants.{Name}
use Rattle.words.proofs.Codes.{code_other, other_kind}
use Rattle.declare.proofs.Laws.{items_end}
use Rattle.declare.proofs.items.Goals as goal

pub returns-then-ne : goal.returns-then-ne
returns-then-ne c =
    sym (items_end _ _ _ _ _ _ _ _ _ c.in_ok-word.ensures (code_other _ Name (other_kind _ _ (sym c.ne.ensures ∙ c.if-ne.true)))) ∙ c.loop-word.invariant
