-- A compiler that refuses all texts breaks the promise. Assumes nothing.
use mathlib.Core.Path.{◌≡◌, ap, ◌∙◌}
use mathlib.Core.List.{List}
use Prim.Native.Nat.{ℕ}
use lib.ListN.{length}
use Rattle.std.specs.Prelude.{Err}
use Rattle.basics.specs.declared.refusal.Refusal.{Refusal}
use Rattle.fusetext.specs.Outcome.{gives}
use Rattle.texts.specs.Calls.{compiled_of}
use Rattle.fusewrite.specs.Writing.{written_of}
use Rattle.compilecall.specs.Compiling.{Compiles}

-- a compiler that refuses all texts: no text that has a file is refused
pub refusing_all : (text out room file : List ℕ) (r : Refusal) (x y : List ℕ) → compiled_of text (length out) (length room) ≡ gives file
    → Compiles text out room (Err r) x y → ⊥
refusing_all text out room file r x y e c = let q = c.answers ∙ ap written_of e in cc
