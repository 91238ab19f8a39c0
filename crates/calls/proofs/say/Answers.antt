use Rattle.texts.proofs.Calling.{short_output, short_cleared, zeros_again, lent_cleared}
use Rattle.fusewrite.specs.Writing.{written_of}
use Rattle.calls.proofs.say.Goals as goal
use Rattle.calls.proofs.say.Goals.{then-out-lt7154-via-then-out-lt7154, then-out-lt7154-via-else-out-lt7154+then-room-lt65536}

pub returns-then-out-lt7154 : goal.returns-then-out-lt7154
returns-then-out-lt7154 g c = elim c.then-out-lt7154.branch [
  | then-out-lt7154-via-then-out-lt7154 w ↦ rw c.new.ensures (short_output written_of g.S.Says.says _ _ _ _ w.if-out-lt7154.true c.clear.ensures)
  | then-out-lt7154-via-else-out-lt7154+then-room-lt65536 w ↦ rw c.new.ensures (short_cleared written_of g.S.Says.says _ _ _ _ c.clear.ensures w.if-room-lt65536.true)
]

pub say_text-requires : goal.say_text-requires
say_text-requires g c = record {
  in_bounds = c.if-out-lt7154.false;
  in_bounds_2 = c.if-room-lt65536.false;
  room_value = zeros_again c.args.room.now _ c.clear.ensures;
}

pub returns : goal.returns
returns g c = lent_cleared written_of g.S.Says.says _ _ _ _ _ _ _ c.clear.ensures c.if-out-lt7154.false c.if-room-lt65536.false c.say_text.ensures
