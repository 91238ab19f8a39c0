use Rattle.calls.proofs.Maps.{map_length, map_bits}
use Rattle.compilecall.proofs.FuseFileSays.put.Goals as goal

pub put_file-requires : goal.put_file-requires
put_file-requires c = record {
  in_bounds = c.requires.in_bounds;
  map_len = map_length _ _ c.requires.mapped;
  bits = map_bits _ _ c.requires.mapped;
}
