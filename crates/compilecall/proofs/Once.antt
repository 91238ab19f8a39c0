-- The promise of `compile` determines what a call does: no second outcome fits. Assumes nothing.
use mathlib.Core.Path.{◌≡◌}
use mathlib.Core.List.{List}
use Prim.Native.Nat.{ℕ}
use lib.ListN.{length}
use Rattle.std.specs.Prelude.{Result}
use Rattle.basics.specs.declared.refusal.Refusal.{Refusal}
use Rattle.texts.specs.Calls.{compiled_of}
use Rattle.calls.proofs.Laws.{say_once}
use Rattle.compilecall.specs.Compiling.{Compiles}

-- two outcomes of `compile` on the same text, output and room, each an answer and the final contents of both, are equal
pub compile_once : (text out room : List ℕ) (a b : Result ℕ Refusal) (x y v w : List ℕ) → Compiles text out room a x v → Compiles text out room b y w → (a ≡ b) × (x ≡ y) × (v ≡ w)
compile_once text out room a b x y v w p q = say_once (compiled_of text (length out) (length room)) out room a b x y v w p q
