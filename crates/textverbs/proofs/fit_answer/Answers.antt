use Rattle.fitlines.specs.Lines.{fit_lines}
use Rattle.textverbs.specs.Answers.{fit_answer}
use Rattle.textverbs.proofs.Laws.{said_given, said_refused}
use Rattle.textverbs.proofs.fit_answer.Goals as goal

pub returns-in-Ok : goal.returns-in-Ok
unfolding fit_answer
returns-in-Ok c = record {
  wrote = said_given fit_lines c.args.text.now c.args.out.now c.args.room.now _ _ _ c.requires.in_bounds c.requires.in_bounds_2 c.fit.ensures _ c.in-Ok.is c.fit.auto.out;
  room_after = c.fit.ensures.clears;
}

pub returns-in-Err : goal.returns-in-Err
unfolding fit_answer
returns-in-Err c = record {
  wrote = said_refused fit_lines c.args.text.now c.args.out.now c.args.room.now _ _ _ c.requires.in_bounds c.requires.in_bounds_2 c.fit.ensures _ _ _ c.in-Err.is c.put_refused.ensures;
  room_after = c.fit.ensures.clears;
}
