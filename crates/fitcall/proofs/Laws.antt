-- The lines of a module's map with what was counted of it are those of the map. Assumes nothing.
use mathlib.Core.Path.{◌≡◌, sym, ap, ap₂, ◌∙◌, subst}
use mathlib.Core.List.{List}
use Prim.Native.Nat.{ℕ}
use Rattle.trees.specs.Layout.{elements_of}
use Rattle.agree.proofs.Reading.{few_read}
use Rattle.fusetext.specs.Put.{Wrote}
use Rattle.fitlines.specs.Lines.{fit_lines, lines_by}
use Rattle.fitlaws.proofs.Counting.{lines_counted}
use Rattle.calls.specs.Saying.{Mapped}

counted : (map facts : List ℕ) → Mapped map facts → lines_by map facts ≡ fit_lines map
counted map facts m =
    ap₂ lines_by m.map_is m.facts_are ∙ lines_counted (elements_of m.parts) (record { few = few_read m.parts; five = m.five; six = m.six }) ∙ sym (ap fit_lines m.map_is)

pub wrote_lines : (before map facts after : List ℕ) (r : ℕ) → Mapped map facts → Wrote before 0 (lines_by map facts) after r → Wrote before 0 (fit_lines map) after r
wrote_lines before map facts after r m w = subst (λ (l : List ℕ). Wrote before 0 l after r) (counted map facts m) w
