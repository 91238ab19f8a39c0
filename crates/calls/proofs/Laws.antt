-- What a call that says bytes of its map did, as the definitions say it. Assumes nothing.
use mathlib.Core.Path.{◌≡◌, sym, ap, ◌∙◌}
use mathlib.Core.List.{List}
use Prim.Native.Nat.{ℕ}
use lib.ListN.{length, replicate}
use native.Mathlib.Nat.{zero-add}
use Rattle.std.specs.Prelude.{Result, Ok}
use Rattle.basics.specs.declared.refusal.Refusal.{Refusal}
use Rattle.basics.specs.Refusal.{answered}
use Rattle.basics.proofs.Refusals.{answered_once}
use Rattle.trees.specs.Layout.{elements_of}
use Rattle.circuit.specs.StageFive.{stage_five}
use Rattle.circuit.specs.StageFive.Verdict.{fine}
use Rattle.outputs.specs.Outputs.{stage_six, map_for}
use Rattle.outmap.specs.Sixth.{after, facts_of}
use Rattle.outmap.proofs.Turns.{after_new}
use Rattle.fusetext.specs.Put.{Wrote}
use Rattle.fusetext.proofs.Puts.{put_front}
use Rattle.fusetext.specs.Outcome.{Outcome}
use Rattle.texts.specs.Stages.{unless}
use Rattle.texts.specs.Calls.{written, Does}
use Rattle.texts.proofs.Calling.{does_once, says_fits}
use Rattle.calls.specs.Saying.{Mapped}
use Rattle.fusewrite.specs.Writing.{written_of}

-- where stage 6 lets pass, what it left is the map of those elements and what was counted of it
pub mapped : (parts map facts map-old facts-old : List ℕ) → stage_five (elements_of parts) ≡ fine → fine ≡ stage_six (elements_of parts)
    → map ≡ after (stage_six (elements_of parts)) (map_for (elements_of parts)) map-old
    → facts ≡ after (stage_six (elements_of parts)) (facts_of (elements_of parts)) facts-old
    → Mapped map facts
mapped parts map facts map-old facts-old five six m f =
    record { parts = parts; five = five; six = sym six; map_is = after_new _ _ map-old map six m; facts_are = after_new _ _ facts-old facts six f }

-- what was put there is what the call says
pub said : (says : List ℕ → List ℕ) (parts map map-old before now room y : List ℕ) (r : ℕ) → fine ≡ stage_six (elements_of parts)
    → map ≡ after (stage_six (elements_of parts)) (map_for (elements_of parts)) map-old
    → Wrote before 0 (says map) now r → y ≡ replicate (length room) 0
    → Does written_of (written says (unless (stage_six (elements_of parts)) parts)) before room (Ok r) now y
said says parts map map-old before now room y r six m w z =
    says_fits written_of says parts before room (says map) (Ok r) now y six (ap says (after_new _ _ map-old map six m))
    (ap Ok (w.ends ∙ zero-add _)) (w.holds ∙ put_front _ _) z

-- two outcomes of one call, each an answer and the final contents of output and room, are equal
pub say_once : (o : Outcome) (out room : List ℕ) (a b : Result ℕ Refusal) (x y v w : List ℕ)
    → Does written_of o out room (answered a) x v → Does written_of o out room (answered b) y w → (a ≡ b) × (x ≡ y) × (v ≡ w)
say_once o out room a b x y v w p q =
    let e = does_once written_of o out room (answered a) (answered b) x y v w p q in (answered_once a b e.0, e.1, e.2)
