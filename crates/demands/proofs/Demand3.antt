-- Demand 3: two texts have the same file exactly if they describe the same circuit. Assumes nothing.
use mathlib.Core.Path.{◌≡◌, sym, ap, ◌∙◌, subst}
use mathlib.Core.List.{List}
use Prim.Native.Nat.{ℕ}
use Rattle.trees.specs.Layout.{Elements, elements_of}
use Rattle.meaning.specs.Circuit.{Circuit, circuit_of, SameCircuit}
use Rattle.outputs.specs.Outputs.{map_for}
use Rattle.agree.proofs.Same.{map_of_circuit, circuit_of_map}
use Rattle.fusetext.specs.File.{file_of}
use Rattle.fusetext.specs.Outcome.{gives}
use Rattle.fusetrip.proofs.Trip.{file_tells}
use Rattle.texts.specs.Calls.{compiled_of}
use Rattle.texts.specs.Meaning.{means, meaning}
use Rattle.texts.proofs.Emits.{emits_map}
use Rattle.demands.proofs.Accepted.{Accepted, accepted, its_meaning, same_meaning}

-- Two texts that have files and describe the circuits c and d (`SameCircuit`: the same OUT pins, each with a register in both or in none, started
-- alike, and the same value, or the same next value, on every setting of the pins).
module _
    (s t f g : List ℕ) (out room out₂ room₂ : ℕ) (c d : Circuit)
    (fs : compiled_of s out room ≡ gives f) (gt : compiled_of t out₂ room₂ ≡ gives g)
    (cs : meaning s ≡ means c) (dt : meaning t ≡ means d)
  where
    is-circuit : (s f : List ℕ) (c : Circuit) (a : Accepted s f) → meaning s ≡ means c → circuit_of (elements_of a.parts) ≡ c
    is-circuit s f c a m = same_meaning _ _ (sym (its_meaning s f a) ∙ m)

    -- THE THEOREM: the same file is that of the same circuit
    pub same_file_same_circuit : f ≡ g → SameCircuit c d
    same_file_same_circuit e =
        let a : Accepted s f = accepted s f out room fs in
        let b : Accepted t g = accepted t g out₂ room₂ gt in
        let x : Elements = elements_of a.parts in
        let y : Elements = elements_of b.parts in
        let maps : map_for x ≡ map_for y = file_tells (map_for x) (map_for y) (emits_map x) (emits_map y) (sym a.file_is ∙ e ∙ b.file_is) in
        subst (λ (z : Circuit). SameCircuit z d) (is-circuit s f c a cs)
        (subst (λ (z : Circuit). SameCircuit (circuit_of x) z) (is-circuit t g d b dt) (circuit_of_map x y a.passed b.passed maps))

    -- THE THEOREM: the same circuit has the same file
    pub same_circuit_same_file : SameCircuit c d → f ≡ g
    same_circuit_same_file k =
        let a : Accepted s f = accepted s f out room fs in
        let b : Accepted t g = accepted t g out₂ room₂ gt in
        let x : Elements = elements_of a.parts in
        let y : Elements = elements_of b.parts in
        let same : SameCircuit (circuit_of x) (circuit_of y) =
        subst (λ (z : Circuit). SameCircuit z (circuit_of y)) (sym (is-circuit s f c a cs))
        (subst (λ (z : Circuit). SameCircuit c z) (sym (is-circuit t g d b dt)) k) in
        a.file_is ∙ ap file_of (map_of_circuit x y a.passed b.passed same) ∙ sym b.file_is
