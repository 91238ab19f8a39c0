-- What the code of stage 2 answers, as the grammar's check does. Document 01, 'Refusal numbers': a number and a place.
use Rattle.std.specs.Prelude.{Result, Ok, Err}
use Rattle.basics.specs.Refusal.{number_of}
use Rattle.basics.specs.declared.refusal.Refusal.{Refusal}
use Rattle.words.specs.declared.Cursor.{Cursor}
use Rattle.grammar.specs.Outcome.{Outcome, ok, no, Turn, more, last}
use Rattle.phrases.specs.declared.Turn.{Turn as Held}
use Rattle.phrases.specs.declared.Turn.TheVariants.{More, Last}

-- the end of a part, or its refusal
abbrev pub seen_end : Result Cursor Refusal → Outcome (Unit {0}) (Unit {0})
seen_end (Ok c) = ok tt c.at tt
seen_end (Err r) = no (number_of r.reason) r.place tt

-- one turn of a list
abbrev pub seen_go : Result Held Refusal → Turn (Unit {0}) (Unit {0})
seen_go (Ok (More c)) = more tt c.at tt
seen_go (Ok (Last c)) = last (ok tt c.at tt)
seen_go (Err r) = last (no (number_of r.reason) r.place tt)
