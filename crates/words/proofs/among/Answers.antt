use Rattle.std.proofs.Common.{sym, ◌∙◌}
use Rattle.words.proofs.Reserved.{looked_here, looked_past, looked_none}
use Rattle.words.proofs.among.Goals as goal

pub returns-then-eq : goal.returns-then-eq
returns-then-eq c = sym (looked_here _ _ c.loop-word.word-index _ c.loop-word-test.true (sym c.eq.ensures ∙ c.if-eq.true)) ∙ c.loop-word.invariant

pub loop-word-preserved : goal.loop-word-preserved
loop-word-preserved c = sym (looked_past _ _ c.loop-word.word-index _ c.loop-word-test.true (sym c.eq.ensures ∙ c.if-eq.false)) ∙ c.loop-word.invariant

pub returns : goal.returns
returns c = sym (looked_none _ _ c.loop-word.word-index c.loop-word-test.false) ∙ c.loop-word.invariant
