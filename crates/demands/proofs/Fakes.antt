-- The fakes that document 01 names ('Holding the promises to account') break the promises; each is shown on the module T of document 01. Assumes nothing.
use mathlib.Core.Path.{◌≡◌, refl, sym, ap, ap₂, ◌∙◌, subst}
use mathlib.Core.Bool.{Bool, true, false}
use mathlib.Core.List.{List, [], ◌∷◌, map}
use Prim.Native.Nat.{ℕ, zero, suc, ◌≤◌}
use native.Mathlib.Omega.{arith}
use lib.ListN.{length, take, drop, get_or, replicate}
use lib.Dec.{eqb, leb}
use Rattle.basics.proofs.Truth.{clash}
use Rattle.meaning.specs.Circuit.{Circuit, circuit_of, runs, SameCircuit}
use Rattle.agree.specs.Pins.{Cycle, seen, seen_of}
use Rattle.fusetext.specs.Outcome.{gives, refuses}
use Rattle.fusetrip.proofs.Example.{example_file}
use Rattle.texts.specs.Meaning.{means, circuit_in}
use Rattle.std.specs.Prelude.{Err}
use Rattle.basics.specs.declared.refusal.Refusal.{Refusal}
use Rattle.compilecall.specs.Compiling.{Compiles}
use Rattle.compilecall.proofs.Refusals as refusals
use Rattle.demands.proofs.Demand3.{same_file_same_circuit}
use Rattle.marked.proofs.Fronts.{module_T, parts_T, elements_T, front_T, module_S, parts_S, elements_S, front_S}
use Rattle.demands.proofs.Example.{compile_T}
use Rattle.basics.specs.Below.{listed}
use Rattle.trees.specs.Layout.{nodes_at, class_of}
use Rattle.trees.specs.Machine.{run, value_of as trees-valueOf}
use Rattle.reach.specs.Uses.{from_end, inverts, registers, replaced, remains}
use Rattle.circuit.specs.StageFive.{first_below}
use Rattle.meaning.specs.Circuit.{out_at, shows, clocked, run_from}
use Rattle.meaning.specs.Meaning.{value, shows_next}
use Rattle.texts.specs.Calls.{compiled_of}
use Rattle.texts.specs.Meaning.{meaning}
use Rattle.basics.specs.Choice.{pick}
use Rattle.gal.specs.Model.{Answer, runs as modelRuns}
use Rattle.fusefields.specs.Bytes.{not_end, not_star, front}
use Rattle.fuseread.specs.Reading.{opened, read_of}
use Rattle.texts.specs.Meaning.{is_given, setting_for}
use Rattle.demands.proofs.Accepted.{no_file, same_file, same_meaning}
use Rattle.demands.proofs.Demand2.{Carries}

abbrev zeros : ℕ → List ℕ
zeros n = replicate n 0

-- ---- the circuits of T and of another module

-- cycles with all inputs 1, and what pin 23 shows in cycle k
abbrev one_cycle : List (ℕ → Bool)
one_cycle = (λ p. true) ∷ []

abbrev three_cycles : List (ℕ → Bool)
three_cycles = (λ p. true) ∷ (λ p. true) ∷ (λ p. true) ∷ []

abbrev value_in : ℕ → List Cycle → ℕ
value_in k l = get_or (get_or (map (λ (c : Cycle). c.values) l) k []) 22 0

-- what T and S show: T 0, 1, 0 and S 1
abbrev shows_T : List Cycle
shows_T = map (seen_of (circuit_of elements_T)) (runs (circuit_of elements_T) three_cycles)

shown_T : ◌≡◌ {A = List ℕ} ((value_in 0 shows_T ∷ value_in 1 shows_T ∷ value_in 2 shows_T ∷ [])) (0 ∷ 1 ∷ 0 ∷ [])
unfolding listed run trees-valueOf from_end inverts registers replaced remains first_below value shows_next out_at shows clocked run_from class_of nodes_at parts_T
shown_T = refl

first_T : value_in 0 (map (seen_of (circuit_of elements_T)) (runs (circuit_of elements_T) one_cycle)) ≡ 0
unfolding listed run trees-valueOf from_end inverts registers replaced remains first_below value shows_next out_at shows clocked run_from class_of nodes_at parts_T
first_T = refl

first_S : value_in 0 (map (seen_of (circuit_of elements_S)) (runs (circuit_of elements_S) one_cycle)) ≡ 1
unfolding listed run trees-valueOf from_end inverts registers replaced remains first_below value shows_next out_at shows clocked run_from class_of nodes_at parts_S
first_S = refl

-- the caller's pins are the same in both
same_inputs : map (setting_for (circuit_of elements_T)) one_cycle ≡ map (setting_for (circuit_of elements_S)) one_cycle
unfolding listed first_below out_at class_of setting_for is_given parts_T parts_S
same_inputs = refl

meaning_T : meaning module_T ≡ means (circuit_of elements_T)
unfolding meaning
meaning_T = ap circuit_in front_T

meaning_S : meaning module_S ≡ means (circuit_of elements_S)
unfolding meaning
meaning_S = ap circuit_in front_S

zero_one : ◌≡◌ {A = ℕ} 0 1 → ⊥
zero_one e = absurd (omega arith)

-- A compiler that refuses all texts: T has a file where enough memory is lent, so a refusal of it does not fit.
pub refusing_all : (out room : List ℕ) (r : Refusal) (x y : List ℕ) → 7154 ≤ length out → 65536 ≤ length room → Compiles module_T out room (Err r) x y → ⊥
refusing_all out room r x y h k c = refusals.refusing_all module_T out room example_file r x y (compile_T (length out) (length room) h k) c

-- One file for all texts: no file carries both T and S, since a device that shows what T shows in the first cycle does not show what S shows.
pub one_file_for_all : (file : List ℕ) → Carries module_T file → Carries module_S file → ⊥
one_file_for_all file a b = zero_one (sym first_T ∙ ap (value_in 0) (sym (cycles-T a)) ∙ ap (value_in 0) both ∙ ap (value_in 0) (cycles-S b) ∙ first_S)
  where
    Shows : List ℕ → Circuit → Type 0
    Shows fuses c = map seen (modelRuns fuses (map (setting_for c) one_cycle)) ≡ map (seen_of c) (runs c one_cycle)

    cycles-T : (a : Carries module_T file) → Shows a.fuses (circuit_of elements_T)
    cycles-T a = subst (Shows a.fuses) (same_meaning _ _ (sym a.described ∙ meaning_T)) (a.cycles one_cycle)

    cycles-S : (b : Carries module_S file) → Shows b.fuses (circuit_of elements_S)
    cycles-S b = subst (Shows b.fuses) (same_meaning _ _ (sym b.described ∙ meaning_S)) (b.cycles one_cycle)

    both : map seen (modelRuns a.fuses (map (setting_for (circuit_of elements_T)) one_cycle)) ≡ map seen (modelRuns b.fuses (map (setting_for (circuit_of elements_S)) one_cycle))
    both = ap₂ (λ (m : List ℕ) (l : List (List ℕ)). map seen (modelRuns m l)) (same_file a.fuses b.fuses (sym a.reads_back ∙ b.reads_back)) same_inputs

-- and any two texts whose circuits differ have two files
pub two_files : (s t file : List ℕ) (out room out₂ room₂ : ℕ) (c d : Circuit) → meaning s ≡ means c → meaning t ≡ means d → (SameCircuit c d → ⊥)
    → compiled_of s out room ≡ gives file → compiled_of t out₂ room₂ ≡ gives file → ⊥
two_files s t file out room out₂ room₂ c d cs dt differ fs ft = differ (same_file_same_circuit s t file file out room out₂ room₂ c d fs ft cs dt refl)

-- Writing nothing: bytes that are all 0 carry no text, since reading them back gives no fuses.
pub writing_nothing : (s : List ℕ) (n : ℕ) → Carries s (zeros n) → ⊥
unfolding read_of
writing_nothing s n c = go (leb (length (zeros n)) 65536) (eqb (get_or (zeros n) 0 0) 2) (ap (λ (k : ℕ). eqb k 2) (nought n)) c.reads_back
  where
    nought : (n : ℕ) → get_or (zeros n) 0 0 ≡ 0
    nought zero = refl
    nought (suc n) = refl

    go : (a b : Bool) → b ≡ false
        → pick a (pick b (opened (zeros n) (length (front not_end (zeros n))) (length (front not_star (drop 1 (take (length (front not_end (zeros n))) (zeros n)))))) (refuses 20 0)) (refuses 20 (length (zeros n))) ≡ gives c.fuses → ⊥
    go true true h e = clash h
    go true false h e = no_file 20 0 c.fuses e
    go false b h e = no_file 20 (length (zeros n)) c.fuses e

-- A model that clocks once and then repeats itself: where T's input is 1 in three cycles, one answer does not stand for the second and the third.
pub clocking_once : (q r : Answer) → map seen (q ∷ r ∷ r ∷ []) ≡ map (seen_of (circuit_of elements_T)) (runs (circuit_of elements_T) three_cycles) → ⊥
clocking_once q r e = zero_one (sym (third shown_T) ∙ sym (ap (value_in 2) e) ∙ ap (value_in 1) e ∙ second shown_T)
  where
    second : {a b c x y z : ℕ} → ◌≡◌ {A = List ℕ} (a ∷ b ∷ c ∷ []) (x ∷ y ∷ z ∷ []) → b ≡ y
    second e = ap (λ (l : List ℕ). get_or l 1 0) e

    third : {a b c x y z : ℕ} → ◌≡◌ {A = List ℕ} (a ∷ b ∷ c ∷ []) (x ∷ y ∷ z ∷ []) → c ≡ z
    third e = ap (λ (l : List ℕ). get_or l 2 0) e
