-- What the code of stages 1 to 5 answers, with what the memory holds then (document 01, 'Refusal numbers': a number and a place). Assumes nothing.
use Rattle.std.specs.Prelude.{ℕ, List, Result, Ok, Err}
use Rattle.basics.specs.Refusal.{number_of}
use Rattle.basics.specs.declared.refusal.Refusal.{Refusal}
use Rattle.texts.specs.Stages.{Front, stays, refused}

abbrev pub seen_front : {A : Type 0} → Result A Refusal → List ℕ → Front
seen_front (Ok a) parts = stays parts
seen_front (Err r) parts = refused (number_of r.reason) r.place
