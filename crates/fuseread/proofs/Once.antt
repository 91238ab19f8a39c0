-- The reader's promise determines what a call does: no second outcome fits. Assumes nothing.
use mathlib.Core.Path.{◌≡◌, sym, ◌∙◌}
use mathlib.Core.List.{List}
use Prim.Native.Nat.{ℕ}
use Rattle.std.specs.Prelude.{Result}
use Rattle.basics.specs.declared.refusal.Refusal.{Refusal}
use Rattle.basics.proofs.Refusals.{answered_once}
use Rattle.fuseread.specs.Reading.{Reads}

-- two outcomes of `read` on the same file and lent map, each an answer and the map's final contents, are equal
pub read_once : {file before : List ℕ} {a b : Result (Unit {0}) Refusal} {x y : List ℕ} → Reads file before a x → Reads file before b y → (a ≡ b) × (x ≡ y)
read_once {file} {before} {a} {b} p q = (answered_once a b (p.answers ∙ sym q.answers), p.leaves ∙ sym q.leaves)
