use Rattle.gallines.proofs.Answering.{answer_shown, answer_refused}
use Rattle.gallines.proofs.answer.Goals as goal

pub returns-in-Ok : goal.returns-in-Ok
returns-in-Ok c = answer_shown _ _ _ _ _ _ c.args.out.now _ c.bits_of.ensures c.pins_of.ensures c.model.ensures c.in-Ok.is c.requires c.put_shown.ensures

pub returns-in-Err : goal.returns-in-Err
returns-in-Err c = answer_refused _ _ _ _ _ _ c.bits_of.ensures c.pins_of.ensures c.model.ensures c.in-Err.is c.put_refused.ensures
