use borrow.Author.Tests.{le-ltb, lt-ltb}
use Rattle.words.specs.Words.{word_at, form_at}
use Rattle.words.specs.Kinds.{symbol_at}
use Rattle.words.proofs.word_at.Goals as goal

pub returns-then-start-text : goal.returns-then-start-text
unfolding word_at
returns-then-start-text c = simp (c.new.ensures, le-ltb _ _ c.if-start-text.true)

pub returns-then-is_letter : goal.returns-then-is_letter
unfolding word_at form_at
returns-then-is_letter c = simp (c.name_at.ensures, lt-ltb _ _ c.if-start-text.false, c.if-is_letter.true, ← c.is_letter.ensures)

pub returns-then-is_digit : goal.returns-then-is_digit
unfolding word_at form_at
returns-then-is_digit c =
    simp (c.number_at.ensures, lt-ltb _ _ c.if-start-text.false, c.if-is_letter.false, ← c.is_letter.ensures, c.if-is_digit.true, ← c.is_digit.ensures)

pub returns-else-is_digit : goal.returns-else-is_digit
unfolding word_at form_at symbol_at
returns-else-is_digit c =
    simp (c.symbol_at.ensures, lt-ltb _ _ c.if-start-text.false, c.if-is_letter.false, ← c.is_letter.ensures, c.if-is_digit.false, ← c.is_digit.ensures)
