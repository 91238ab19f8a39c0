use Rattle.std.proofs.Common.{sym}
use Rattle.std.proofs.lemmas.Result.{err_from_is_err_and}
use Rattle.texts.proofs.Calling.{text_stays, text_refused}
use Rattle.texts.proofs.Sound.{passed_five}
use Rattle.fusewrite.specs.Writing.{written_of}
use Rattle.calls.proofs.say_text.Goals as goal

pub returns-in_err-front : goal.returns-in_err-front
returns-in_err-front g c =
    let p = err_from_is_err_and c.from_residual.result c.from_residual.ensures.1 in
    rw (p.1, p.2) (text_refused written_of g.S.Says.says _ _ _ _ _ _ c.in_err-front.ensures c.requires.room_value)

pub say_parts-requires : goal.say_parts-requires
say_parts-requires g c = record {
  parts_value = passed_five _ _ (sym c.in_ok-front.ensures);
  in_bounds = c.requires.in_bounds;
  in_bounds_2 = c.requires.in_bounds_2;
}

pub returns : goal.returns
returns g c = text_stays written_of g.S.Says.says _ _ _ _ _ _ _ c.in_ok-front.ensures c.say_parts.ensures
