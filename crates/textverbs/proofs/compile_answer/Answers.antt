use Rattle.fusetext.specs.File.{file_of}
use Rattle.textverbs.specs.Answers.{compile_answer}
use Rattle.textverbs.proofs.Laws.{said_given, said_refused}
use Rattle.textverbs.proofs.compile_answer.Goals as goal

pub returns-in-Ok : goal.returns-in-Ok
unfolding compile_answer
returns-in-Ok c = record {
  wrote = said_given file_of c.args.text.now c.args.out.now c.args.room.now _ _ _ c.requires.in_bounds c.requires.in_bounds_2 c.compile.ensures _ c.in-Ok.is c.compile.auto.out;
  room_after = c.compile.ensures.clears;
}

pub returns-in-Err : goal.returns-in-Err
unfolding compile_answer
returns-in-Err c = record {
  wrote = said_refused file_of c.args.text.now c.args.out.now c.args.room.now _ _ _ c.requires.in_bounds c.requires.in_bounds_2 c.compile.ensures _ _ _ c.in-Err.is c.put_refused.ensures;
  room_after = c.compile.ensures.clears;
}
