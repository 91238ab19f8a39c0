use Rattle.std.proofs.Common.{◌∙◌}
use Rattle.std.proofs.lemmas.Result.{err_from_is_err_and}
use Rattle.words.specs.Words.{next_word}
use Rattle.words.proofs.Laws.{after_here, after_cut}
use Rattle.words.proofs.Cursor.next.Goals as goal

pub returns-in_err-skip : goal.returns-in_err-skip
unfolding next_word
returns-in_err-skip c =
    let p = err_from_is_err_and c.from_residual.result c.from_residual.ensures.1 in
    rw (p.1, p.2) (after_cut _ _ _ c.in_err-skip.ensures)

pub returns : goal.returns
unfolding next_word
returns c = c.word_at.ensures ∙ after_here _ _ _ c.in_ok-skip.ensures
