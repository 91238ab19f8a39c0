use Rattle.fusetext.proofs.Puts.{wrote_as}
use Rattle.textverbs.proofs.Laws.{ask_printed}
use Rattle.textverbs.proofs.ask_answer.Goals as goal

pub returns-in-Ok-NoImplicant : goal.returns-in-Ok-NoImplicant
returns-in-Ok-NoImplicant c = record {
  wrote = wrote_as c.put_text.ensures (ask_printed c.args.text.now c.args.pin c.args.product c.args.room.now _ _ _ c.requires.in_bounds_2 c.ask.ensures (rw c.in-Ok-NoImplicant.field-0-is at c.in-Ok-NoImplicant.is));
  room_after = c.ask.ensures.clears;
}

pub returns-in-Ok-Implicant : goal.returns-in-Ok-Implicant
returns-in-Ok-Implicant c = record {
  wrote = wrote_as c.put_text-in-Ok-Implicant.ensures (ask_printed c.args.text.now c.args.pin c.args.product c.args.room.now _ _ _ c.requires.in_bounds_2 c.ask.ensures (rw c.in-Ok-Implicant.field-0-is at c.in-Ok-Implicant.is));
  room_after = c.ask.ensures.clears;
}

pub returns-in-Ok-Prime : goal.returns-in-Ok-Prime
returns-in-Ok-Prime c = record {
  wrote = wrote_as c.put_text-in-Ok-Prime.ensures (ask_printed c.args.text.now c.args.pin c.args.product c.args.room.now _ _ _ c.requires.in_bounds_2 c.ask.ensures (rw c.in-Ok-Prime.field-0-is at c.in-Ok-Prime.is));
  room_after = c.ask.ensures.clears;
}

pub returns-in-Err : goal.returns-in-Err
returns-in-Err c = record {
  wrote = wrote_as c.put_refused.ensures (ask_printed c.args.text.now c.args.pin c.args.product c.args.room.now _ _ _ c.requires.in_bounds_2 c.ask.ensures c.in-Err.is);
  room_after = c.ask.ensures.clears;
}
