-- What the code of stage 2 answers for a whole text, as the grammar's check does. Document 01, 'Refusal numbers': a number and a place.
use Rattle.std.specs.Prelude.{ℕ, Result, Ok, Err}
use Rattle.basics.specs.Refusal.{number_of}
use Rattle.basics.specs.declared.refusal.Refusal.{Refusal}
use Rattle.grammar.specs.Outcome.{Outcome, ok, no}
use Rattle.grammar.specs.Modules.{Module}
use Rattle.checking.specs.declared.Body.{Body}
use Rattle.checking.specs.declared.Head.{Head}
use Rattle.checking.specs.declared.Checked.{Checked}

-- where the statements start and end
abbrev pub seen_body : Result Body Refusal → Outcome (Unit {0}) (ℕ × Unit {0})
seen_body (Ok b) = ok (b.start.at, tt) b.next.at tt
seen_body (Err r) = no (number_of r.reason) r.place tt

-- the module's name
abbrev pub seen_head : Result Head Refusal → Outcome (Unit {0}) (ℕ × ℕ)
seen_head (Ok h) = ok (h.name.start, h.name.next.at) h.next.at tt
seen_head (Err r) = no (number_of r.reason) r.place tt

-- a whole text
abbrev pub seen_text : Result Checked Refusal → Outcome (Unit {0}) (Module (Unit {0}) (Unit {0}))
seen_text (Ok c) = ok (record { declarations = c.declarations.at; statements = c.statements.at; declared = tt; body = tt }) c.next.at tt
seen_text (Err r) = no (number_of r.reason) r.place tt
