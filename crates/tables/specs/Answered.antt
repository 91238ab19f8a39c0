-- The answer as the code gives it. Assumes nothing.
use Rattle.std.specs.Prelude.{Result, Ok, Err}
use Rattle.basics.specs.declared.refusal.Refusal.{Refusal}
use Rattle.pins.specs.declared.Chosen.{Chosen}
use Rattle.tables.specs.Tables.{Tabled}
use Rattle.tables.specs.Tables.Tabled.{table, many}

abbrev pub seen : Result Chosen Refusal → Tabled
seen (Ok c) = table c.count c.mask
seen (Err r) = many r.place
