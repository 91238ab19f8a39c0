-- The writer's promise determines what a call does: no second outcome fits. Assumes nothing.
use mathlib.Core.Path.{◌≡◌, sym, ◌∙◌}
use mathlib.Core.List.{List}
use Prim.Native.Nat.{ℕ}
use Rattle.std.specs.Prelude.{Result}
use Rattle.basics.specs.declared.refusal.Refusal.{Refusal}
use Rattle.basics.proofs.Refusals.{answered_once}
use Rattle.fusewrite.specs.Writing.{Writes}

-- two outcomes of `write` on the same map and output, each an answer and the output's final contents, are equal
pub write_once : {map before : List ℕ} {a b : Result ℕ Refusal} {x y : List ℕ} → Writes map before a x → Writes map before b y → (a ≡ b) × (x ≡ y)
write_once {map} {before} {a} {b} p q = (answered_once a b (p.answers ∙ sym q.answers), p.leaves ∙ sym q.leaves)
