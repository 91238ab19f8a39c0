use Rattle.std.proofs.Common.{sym, ap, ◌∙◌, eqb}
use Rattle.words.specs.Kinds.{code}
use Rattle.words.specs.declared.Kind.{Kind}
use Rattle.words.specs.declared.Kind.TheVariants.{Name, Comma}
use Rattle.words.proofs.Codes.{code_other}
use Rattle.declare.proofs.Laws.{name_more, name_falls, names_end}
use Rattle.declare.proofs.elements.Goals as goal

pub returns-in_default : goal.returns-in_default
returns-in_default c = λ k.
    sym (names_end _ _ _ _ _ _ _ _ _ _ c.in_ok-word.ensures (code_other _ Name c.in_default.not-Name) (code_other _ Comma c.in_default.not-Comma)) ∙ c.loop-word.invariant k

pub loop-word-smaller-in_ok-made-in-Name : goal.loop-word-smaller-in_ok-made-in-Name
loop-word-smaller-in_ok-made-in-Name c =
    name_falls _ _ _ _ _ _ _ _ _ _ c.in_ok-word.ensures (ap (λ (k : Kind). eqb (code k) 1) c.in-Name.is) _ _ _ (rw c.lent.ensures at (c.in_ok-made-in-Name.ensures 0))

pub loop-word-preserved-in_ok-made-in-Name : goal.loop-word-preserved-in_ok-made-in-Name
loop-word-preserved-in_ok-made-in-Name c = λ k.
    sym (name_more _ _ _ _ _ _ _ _ _ _ c.in_ok-word.ensures (ap (λ (k : Kind). eqb (code k) 1) c.in-Name.is) _ _ _ (rw c.lent.ensures at (c.in_ok-made-in-Name.ensures k))) ∙ c.loop-word.invariant k
