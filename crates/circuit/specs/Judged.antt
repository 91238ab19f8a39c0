-- The answer of stage 5 as the code gives it. Assumes nothing.
use Rattle.std.specs.Prelude.{◌≡◌, Bool, true, false, List, ℕ, ◌<◌, length, get_or, Result, Ok, Err}
use Rattle.basics.specs.Choice.{bit}
use Rattle.basics.specs.declared.refusal.Refusal.{Refusal}
use Rattle.basics.specs.Refusal.{number_of}
use Rattle.circuit.specs.StageFive.{Verdict}
use Rattle.circuit.specs.StageFive.Verdict.{fine, refused}

abbrev pub seen : Result Unit Refusal → Verdict
seen (Ok u) = fine
seen (Err r) = refused (number_of r.reason) r.place

-- i is the first of the 64 elements that passes a test, where says is what the test may answer
pub record IsFirst (says : ℕ → Bool → Type 0) (i : ℕ) : Type 0 where
  pub inside : i < 64
  pub passes : says i true
  pub before : (k : ℕ) → k < i → says k false

-- bytes hold what a test may answer at the numbers below n
pub record AsBytes (says : ℕ → Bool → Type 0) (n : ℕ) (bytes : List ℕ) : Type 0 where
  pub size : length bytes ≡ n
  pub holds : (k : ℕ) → k < n → (b : Bool) × (says k b × (get_or bytes k 0 ≡ bit b))
