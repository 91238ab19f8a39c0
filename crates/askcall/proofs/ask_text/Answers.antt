use Rattle.std.proofs.Common.{sym}
use Rattle.std.proofs.lemmas.Result.{err_from_is_err_and}
use Rattle.texts.proofs.Sound.{passed_five}
use Rattle.askcall.proofs.Laws.{text_stays, text_refused}
use Rattle.askcall.proofs.ask_text.Goals as goal

pub returns-in_err-front : goal.returns-in_err-front
returns-in_err-front c =
    let p = err_from_is_err_and c.from_residual.result c.from_residual.ensures.1 in
    rw (p.1, p.2) (text_refused _ _ _ _ c.in_err-front.field-0.0 _ c.in_err-front.ensures c.requires.room_value)

pub ask_parts-requires-clause-parts_value : goal.ask_parts-requires-clause-parts_value
ask_parts-requires-clause-parts_value c = passed_five _ _ (sym c.in_ok-front.ensures)

pub returns : goal.returns
returns c = text_stays _ _ _ _ _ _ _ c.in_ok-front.ensures c.ask_parts.ensures
