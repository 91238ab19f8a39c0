use Rattle.std.proofs.Common.{sym, ◌∙◌}
use Rattle.lists.proofs.Laws.{is_end, no_end, back_ended, back_ahead, back_found, back_past, word_falls}
use Rattle.lists.proofs.stands_before.Goals.{then-eq-via-then-eq, then-eq-via-else-eq+then-start-word}
use Rattle.lists.proofs.stands_before.Goals as goal

pub returns-then-eq : goal.returns-then-eq
returns-then-eq c = elim c.then-eq.branch [
  | then-eq-via-then-eq w ↦ sym (back_ended _ _ _ _ _ _ _ _ c.in-Ok.ensures (is_end _ (sym w.if-eq.ensures))) ∙ c.loop-word.invariant
  | then-eq-via-else-eq+then-start-word w ↦ sym (back_ahead _ _ _ _ _ _ _ _ c.in-Ok.ensures (no_end _ (sym w.if-eq.ensures)) w.if-start-word.true) ∙ c.loop-word.invariant
]

pub returns-then-same_name : goal.returns-then-same_name
returns-then-same_name c =
    sym (back_found _ _ _ _ _ _ _ _ c.in-Ok.ensures (no_end _ (sym c.if-eq.ensures)) c.if-start-word.false (simp (← c.span.ensures, ← c.span-in-Ok.ensures) (sym c.if-same_name.ensures))) ∙ c.loop-word.invariant

pub loop-word-smaller : goal.loop-word-smaller
loop-word-smaller c = word_falls _ c.args.start c.args.end _ _ _ _ _ c.in-Ok.ensures (no_end _ (sym c.if-eq.ensures))

pub loop-word-preserved : goal.loop-word-preserved
loop-word-preserved c =
    sym (back_past _ _ _ _ _ _ _ _ c.in-Ok.ensures (no_end _ (sym c.if-eq.ensures)) c.if-start-word.false (simp (← c.span.ensures, ← c.span-in-Ok.ensures) (sym c.if-same_name.ensures))) ∙ c.loop-word.invariant
