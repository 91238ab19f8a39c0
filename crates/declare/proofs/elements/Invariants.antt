use Rattle.std.proofs.Common.{◌≡◌, ℕ, ◌-◌, length}
use Rattle.names.specs.Names.{held}
use Rattle.declare.specs.Declarations.{class_of, elements_of}
use Rattle.declare.proofs.Laws.{elements}
use Rattle.declare.proofs.elements.Given as goal

abbrev pub invariant-loop-word : goal.invariant-loop-word
invariant-loop-word l =
    (k : ℕ) → elements l.text (class_of l.section) l.length (held l.made.table) l.made.next.at (l.room, k) ≡ elements_of l.text (class_of l.section) l.length (held l.initial.made.table) l.initial.made.next.at (l.initial.room, k)

abbrev pub decreases-loop-word : goal.decreases-loop-word
decreases-loop-word l = length l.text - l.made.next.at
