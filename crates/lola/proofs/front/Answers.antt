use Rattle.std.proofs.lemmas.Result.{err_from_is_err_and}
use borrow.Author.Tests.{le-leb}
use Rattle.texts.specs.Stages.{front_of, second}
use Rattle.lola.proofs.Laws.{third_from}
use Rattle.lola.proofs.front.Goals as goal

pub returns-in_err-made : goal.returns-in_err-made
unfolding front_of second
returns-in_err-made c =
    let p = err_from_is_err_and c.from_residual-in_err-made.result c.from_residual-in_err-made.ensures.1 in
    rw (p.1, p.2) (simp (le-leb _ _ c.if-text-gt-LONGEST.false, ← c.in_ok-checked.ensures, third_from c.args.text.now c.in_ok-checked.checked.declarations.at c.in_ok-checked.checked.statements.at c.args.parts.now c.requires, ← c.in_err-made.ensures))

pub returns : goal.returns
unfolding front_of second
returns c =
    simp (le-leb _ _ c.if-text-gt-LONGEST.false, ← c.in_ok-checked.ensures, third_from c.args.text.now c.in_ok-checked.checked.declarations.at c.in_ok-checked.checked.statements.at c.args.parts.now c.requires, ← c.in_ok-made.ensures, ← c.lent-names.ensures, ← c.carry_out.ensures)
