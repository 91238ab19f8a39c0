-- What `compile` answers and leaves (document 01, 'Refusal numbers'). Assumes nothing.
use Rattle.std.specs.Prelude.{List, ℕ, length, Result}
use Rattle.basics.specs.declared.refusal.Refusal.{Refusal}
use Rattle.basics.specs.Refusal.{answered}
use Rattle.texts.specs.Calls.{compiled_of, Does}
use Rattle.fusewrite.specs.Writing.{written_of}

-- What a call of `compile` does.
abbrev pub Compiles : List ℕ → List ℕ → List ℕ → Result ℕ Refusal → List ℕ → List ℕ → Type 0
Compiles text out room answer = Does written_of (compiled_of text (length out) (length room)) out room (answered answer)
