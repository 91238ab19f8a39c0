-- What stays behind stage 5 has passed it. Assumes nothing.
use mathlib.Core.Path.{◌≡◌, refl, subst}
use mathlib.Core.Bool.{Bool, true, false}
use mathlib.Core.List.{List}
use Prim.Native.Nat.{ℕ}
use lib.Dec.{leb}
use lib.IntN.{ℤ}
use lib.ListN.{length, replicate}
use Rattle.basics.specs.Choice.{pick}
use Rattle.grammar.specs.Outcome.{Outcome as Read, ok, no, levels}
use Rattle.grammar.specs.Modules.{Module}
use Rattle.grammar.specs.Forms.{checked_text}
use Rattle.judging.specs.Reading.{State}
use Rattle.declare.specs.Declarations.{declarations_of}
use Rattle.unroll.specs.Loops.{statements_of}
use Rattle.trees.specs.Layout.{elements_of}
use Rattle.circuit.specs.StageFive.{Verdict, stage_five}
use Rattle.circuit.specs.StageFive.Verdict.{fine, refused as faulty}
use Rattle.texts.specs.Stages.{Front, stays, refused, unless, fifth, unrolled, fourth, declared, third, checked, second, front_of}

abbrev pub Sound : Front → Type 0
Sound (stays parts) = stage_five (elements_of parts) ≡ fine
Sound (refused n p) = Unit {0}

sound_fifth : (parts : List ℕ) → Sound (fifth parts)
unfolding fifth
sound_fifth parts = go (stage_five (elements_of parts)) refl
  where
    go : (v : Verdict) → stage_five (elements_of parts) ≡ v → Sound (unless v parts)
    go fine e = e
    go (faulty n p) e = tt

sound_fourth : (s : List ℕ) (at : ℕ) (t : List ℕ) (x : State) → Sound (fourth s at t x)
unfolding fourth
sound_fourth s at t x = go (statements_of s levels t at x)
  where
    go : (o : Read State ℤ) → Sound (unrolled o)
    go (ok v e y) = sound_fifth y.0
    go (no n p y) = tt

sound_third : (s : List ℕ) (at b : ℕ) → Sound (third s at b)
unfolding third
sound_third s at b = go (declarations_of s at (replicate 2588 0, 0))
  where
    go : (o : Read State (List ℕ)) → Sound (declared s b o)
    go (ok t e y) = sound_fourth s b t y
    go (no n p y) = tt

sound_second : (s : List ℕ) → Sound (second s)
unfolding second
sound_second s = go (checked_text s)
  where
    go : (o : Read (Unit {0}) (Module (Unit {0}) (Unit {0}))) → Sound (checked s o)
    go (ok m e u) = sound_third s m.declarations m.statements
    go (no n p u) = tt

pub sound_front : (s : List ℕ) → Sound (front_of s)
unfolding front_of
sound_front s = go (leb (length s) 32768)
  where
    go : (b : Bool) → Sound (pick b (second s) (refused 1 0))
    go true = sound_second s
    go false = tt

pub passed_five : (s parts : List ℕ) → front_of s ≡ stays parts → stage_five (elements_of parts) ≡ fine
passed_five s parts e = subst Sound e (sound_front s)
