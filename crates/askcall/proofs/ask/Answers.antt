use Rattle.texts.proofs.Calling.{zeros_again}
use Rattle.askcall.proofs.Laws.{short_room, lent_room}
use Rattle.askcall.proofs.ask.Goals as goal

pub returns-then-room-lt65536 : goal.returns-then-room-lt65536
returns-then-room-lt65536 c = rw c.new.ensures (short_room _ _ _ _ _ c.clear.ensures c.if-room-lt65536.true)

pub ask_text-requires : goal.ask_text-requires
ask_text-requires c = record {
  in_bounds = c.if-room-lt65536.false;
  room_value = zeros_again c.args.room.now _ c.clear.ensures;
}

pub returns : goal.returns
returns c = lent_room _ _ _ _ _ _ _ c.clear.ensures c.if-room-lt65536.false c.ask_text.ensures
