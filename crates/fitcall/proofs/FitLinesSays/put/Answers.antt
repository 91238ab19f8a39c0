use Rattle.calls.proofs.Maps.{map_length}
use Rattle.fitcall.proofs.Laws.{wrote_lines}
use Rattle.fitcall.proofs.FitLinesSays.put.Goals as goal

pub put_lines-requires-clause-map_len : goal.put_lines-requires-clause-map_len
put_lines-requires-clause-map_len c = map_length _ _ c.requires.mapped

pub returns : goal.returns
returns c = wrote_lines _ _ _ _ _ c.requires.mapped c.put_lines.ensures
