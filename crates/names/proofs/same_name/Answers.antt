use Rattle.std.proofs.Common.{sym, ◌∙◌}
use borrow.Author.Tests.{ne_eqb}
use Rattle.names.proofs.Laws.{same_spelt, same_other}
use Rattle.names.proofs.same_name.Goals as goal

pub returns-then-m-n : goal.returns-then-m-n
returns-then-m-n c = c.eq.ensures ∙ rw (c.spelt.ensures, c.spelt-then-m-n.ensures) (same_spelt _ _ _ _ _ c.if-m-n.true)

pub returns-else-m-n : goal.returns-else-m-n
returns-else-m-n c = ne_eqb _ _ c.if-m-n.false ∙ sym (same_other _ _ _ _ _ c.if-m-n.false)
