use borrow.Author.Tests.{eq-eqb, ne_eqb}
use Rattle.std.proofs.Common.{sym, ◌∙◌}
use Rattle.words.specs.Bytes.{is_name_byte}
use Rattle.words.specs.Words.{name_at}
use Rattle.words.proofs.name_at.Goals as goal

pub returns-then-byte_at-eq39 : goal.returns-then-byte_at-eq39
unfolding name_at
returns-then-byte_at-eq39 c =
    let e = c.end_of-end.ensures.end is_name_byte (λ b r h q. q) in
    simp (c.named.ensures, ← e, eq-eqb _ _ (sym c.byte_at.ensures ∙ c.if-byte_at-eq39.true))

pub returns-else-byte_at-eq39 : goal.returns-else-byte_at-eq39
unfolding name_at
returns-else-byte_at-eq39 c =
    let e = c.end_of-end.ensures.end is_name_byte (λ b r h q. q) in
    simp (c.named-else-byte_at-eq39.ensures, ← e, ← c.byte_at.ensures, ne_eqb _ _ c.if-byte_at-eq39.false)
