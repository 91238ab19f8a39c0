-- Demand 2: the file of a text is that of a device which shows what the text's circuit shows. The circuit of a text is `meaning` (texts/specs/Meaning), read off
-- the module's tree in treewise (`meaning_is`). Assumes nothing.
use mathlib.Core.Path.{◌≡◌, refl, sym, ap, ◌∙◌, subst}
use mathlib.Core.Bool.{Bool, false}
use mathlib.Core.List.{List, map}
use Prim.Native.Nat.{ℕ, ◌-◌}
use lib.ListN.{length, take, drop, get_or}
use lib.Seq.{take_at}
use Rattle.basics.specs.Choice.{on}
use Rattle.gal.specs.Refuse.{wrong_pins}
use Rattle.trees.specs.Layout.{Elements, elements_of}
use Rattle.meaning.specs.Circuit.{Circuit, circuit_of, runs}
use Rattle.gal.specs.Model.{runs as modelRuns}
use Rattle.outputs.specs.Outputs.{map_for}
use Rattle.agree.specs.Pins.{is_callers, pins_for, seen, seen_of}
use Rattle.agree.proofs.Agrees.{agrees, all_pins}
use Rattle.fusetext.specs.Outcome.{Outcome, gives, refuses, left}
use Rattle.std.specs.Prelude.{Result, Ok, Err}
use Rattle.basics.specs.Refusal.{Numbered}
use Rattle.fusewrite.specs.Writing.{written_of}
use Rattle.compilecall.specs.Compiling.{Compiles}
use Rattle.fuseread.specs.Reading.{read_of}
use Rattle.fusetrip.proofs.Trip.{trip}
use Rattle.texts.specs.Calls.{compiled_of}
use Rattle.texts.specs.Meaning.{means, meaning, is_given, setting_for}
use Rattle.texts.proofs.Emits.{emits_map}
use Rattle.demands.proofs.Accepted.{Accepted, accepted, its_meaning}

-- What is promised of a text and its file.
pub record Carries (s file : List ℕ) : Type 0 where
  -- the text describes a circuit
  pub circuit : Circuit
  pub described : meaning s ≡ means circuit
  -- the file, read back, gives a map of fuses
  pub fuses : List ℕ
  pub reads_back : read_of file ≡ gives fuses
  -- for every list of settings of the caller's pins, one for each cycle from power-up: the model of that map refuses nothing, shows just the OUT
  -- pins, and shows on each of them in each cycle what the circuit shows
  pub cycles : (inputs : List (ℕ → Bool)) → map seen (modelRuns fuses (map (setting_for circuit) inputs)) ≡ map (seen_of circuit) (runs circuit inputs)
  -- and no input is left out: values that the model takes for the pins are those of a setting
  pub every_input : (pins : List ℕ) → length pins ≡ 24 → wrong_pins fuses pins ≡ false → (ins : ℕ → Bool) × (pins ≡ setting_for circuit ins)

-- the caller's pins of a module are those of its circuit
same_setting : (e : Elements) → pins_for e ≡ setting_for (circuit_of e)
unfolding pins_for setting_for is_callers is_given
same_setting e = refl

-- THE THEOREM: every text that has a file, and that file
pub demand2 : (s file : List ℕ) (out room : ℕ) → compiled_of s out room ≡ gives file → Carries s file
demand2 s file out room c =
    let a : Accepted s file = accepted s file out room c in
    let e : Elements = elements_of a.parts in
    record {
      circuit = circuit_of e;
      described = its_meaning s file a;
      fuses = map_for e;
      reads_back = ap read_of a.file_is ∙ trip (map_for e) (emits_map e);
      cycles = λ inputs. ap (λ (f : (ℕ → Bool) → List ℕ). map seen (modelRuns (map_for e) (map f inputs))) (sym (same_setting e)) ∙ agrees e a.passed inputs;
      every_input = λ pins h w. ((λ p. on (get_or pins (p - 1) 0)), all_pins e a.passed pins h w ∙ ap (λ (f : (ℕ → Bool) → List ℕ). f (λ p. on (get_or pins (p - 1) 0))) (same_setting e));
    }

-- the same of the call: what `compile` wrote is such a file
pub compile_carries : (text out room : List ℕ) (n : ℕ) (x y : List ℕ) → Compiles text out room (Ok n) x y → Carries text (take n x)
compile_carries text out room n x y c = go (compiled_of text (length out) (length room)) refl c.answers c.leaves
  where
    is_file : Result ℕ Numbered → Type 0
    is_file (Ok k) = Unit {0}
    is_file (Err r) = ⊥

    length_in : Result ℕ Numbered → ℕ
    length_in (Ok k) = k
    length_in (Err r) = 0

    go : (o : Outcome) → compiled_of text (length out) (length room) ≡ o → Ok n ≡ written_of o → x ≡ left o out → Carries text (take n x)
    go (gives f) e a l =
        subst (Carries text) (sym (ap (λ (k : ℕ). take k x) (ap length_in a) ∙ ap (take (length f)) l ∙ take_at f (drop (length f) out) (length f) refl)) (demand2 text f (length out) (length room) e)
    go (refuses k p) e a l = absurd (subst is_file a tt)
