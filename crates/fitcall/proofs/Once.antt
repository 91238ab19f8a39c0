-- The promise of `fit` determines what a call does: no second outcome fits. Assumes nothing.
use mathlib.Core.Path.{◌≡◌}
use mathlib.Core.List.{List}
use Prim.Native.Nat.{ℕ}
use lib.ListN.{length}
use Rattle.std.specs.Prelude.{Result}
use Rattle.basics.specs.declared.refusal.Refusal.{Refusal}
use Rattle.calls.proofs.Laws.{say_once}
use Rattle.fitcall.specs.Fitting.{fitted_of, Fits}

-- two outcomes of `fit` on the same text, output and room, each an answer and the final contents of both, are equal
pub fit_once : (text out room : List ℕ) (a b : Result ℕ Refusal) (x y v w : List ℕ) → Fits text out room a x v → Fits text out room b y w → (a ≡ b) × (x ≡ y) × (v ≡ w)
fit_once text out room a b x y v w p q = say_once (fitted_of text (length out) (length room)) out room a b x y v w p q
