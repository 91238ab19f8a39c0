-- What is known of a text that has a file. Assumes nothing.
use mathlib.Core.Path.{◌≡◌, refl, sym, ap, subst}
use mathlib.Core.Bool.{Bool, true, false}
use mathlib.Core.List.{List, []}
use Prim.Native.Nat.{ℕ}
use Rattle.basics.specs.Choice.{pick}
use Rattle.trees.specs.Layout.{elements_of}
use Rattle.circuit.specs.StageFive.{Verdict, stage_five}
use Rattle.circuit.specs.StageFive.Verdict.{fine, refused as faulty}
use Rattle.meaning.specs.Circuit.{Circuit, circuit_of}
use Rattle.outputs.specs.Outputs.{stage_six, map_for}
use Rattle.agree.specs.Passed.{Passed}
use Rattle.agree.proofs.Reading.{few_read}
use Rattle.fusetext.specs.File.{file_of}
use Rattle.fusetext.specs.Outcome.{Outcome, gives, refuses}
use Rattle.texts.specs.Stages.{Front, stays, refused, unless, front_of, fitting, whole_of}
use Rattle.texts.specs.Calls.{lent, called, filed, compiled_of}
use Rattle.texts.specs.Meaning.{Meaning, means, nothing, circuit_in, meaning}
use Rattle.texts.proofs.Sound.{Sound, sound_front}

-- ---- outcomes are told apart

abbrev is_file : Outcome → Type 0
is_file (gives l) = Unit {0}
is_file (refuses n p) = ⊥

pub no_file : (n p : ℕ) (f : List ℕ) → refuses n p ≡ gives f → ⊥
no_file n p f e = subst is_file (sym e) tt

abbrev bytes : Outcome → List ℕ
bytes (gives l) = l
bytes (refuses n p) = []

pub same_file : (f g : List ℕ) → gives f ≡ gives g → f ≡ g
same_file f g e = ap bytes e

abbrev circuit_from : Circuit → Meaning → Circuit
circuit_from c (means d) = d
circuit_from c (nothing n p) = c

pub same_meaning : (c d : Circuit) → means c ≡ means d → c ≡ d
same_meaning c d e = ap (circuit_from c) e

-- ---- a text that has a file

-- its memory, whose elements all stages let pass, and its file
pub record Accepted (s file : List ℕ) : Type 0 where
  pub parts : List ℕ
  pub front : front_of s ≡ stays parts
  pub passed : Passed (elements_of parts)
  pub file_is : file ≡ file_of (map_for (elements_of parts))

pub accepted : (s file : List ℕ) (out room : ℕ) → compiled_of s out room ≡ gives file → Accepted s file
unfolding called whole_of
accepted s file out room e = lending (lent out room) e
  where
    fits : (parts : List ℕ) → front_of s ≡ stays parts → stage_five (elements_of parts) ≡ fine → (v : Verdict) → stage_six (elements_of parts) ≡ v
        → filed (unless v parts) ≡ gives file → Accepted s file
    fits parts f five fine six e =
        record { parts = parts; front = f; passed = record { few = few_read parts; five = five; six = six }; file_is = sym (same_file _ _ e) }
    fits parts f five (faulty n p) six e = absurd (no_file n p file e)

    all : (f : Front) → front_of s ≡ f → Sound f → filed (fitting f) ≡ gives file → Accepted s file
    all (stays parts) f five e = fits parts f five (stage_six (elements_of parts)) refl e
    all (refused n p) f five e = absurd (no_file n p file e)

    lending : (b : Bool) → pick b (filed (fitting (front_of s))) (refuses 13 0) ≡ gives file → Accepted s file
    lending true e = all (front_of s) refl (sound_front s) e
    lending false e = absurd (no_file 13 0 file e)

-- it has a meaning
pub its_meaning : (s file : List ℕ) (a : Accepted s file) → meaning s ≡ means (circuit_of (elements_of a.parts))
unfolding meaning
its_meaning s file a = ap circuit_in a.front
