-- What `fit` answers and leaves (document 01, 'The fuse file', on the fit program; 'Refusal numbers'). Assumes nothing.
use Rattle.std.specs.Prelude.{List, ℕ, length, Result}
use Rattle.basics.specs.declared.refusal.Refusal.{Refusal}
use Rattle.basics.specs.Refusal.{answered}
use Rattle.fusetext.specs.Outcome.{Outcome}
use Rattle.fitlines.specs.Lines.{fit_lines}
use Rattle.texts.specs.Stages.{Front}
use Rattle.texts.specs.Calls.{written, called, Does}
use Rattle.fusewrite.specs.Writing.{written_of}

-- fit says the lines of the map
abbrev pub lined : Front → Outcome
lined f = written fit_lines f

abbrev pub fitted_of : List ℕ → ℕ → ℕ → Outcome
fitted_of s out room = called fit_lines s out room

-- What a call of `fit` does.
abbrev pub Fits : List ℕ → List ℕ → List ℕ → Result ℕ Refusal → List ℕ → List ℕ → Type 0
Fits text out room answer = Does written_of (fitted_of text (length out) (length room)) out room (answered answer)
