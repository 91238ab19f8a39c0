use Rattle.std.proofs.Common.{◌≡◌, ◌-◌, length}
use Rattle.names.specs.Names.{held}
use Rattle.declare.specs.Declarations.{class_of, items_of}
use Rattle.declare.proofs.Laws.{items}
use Rattle.declare.proofs.items.Given as goal

abbrev pub invariant-loop-word : goal.invariant-loop-word
invariant-loop-word l =
    items l.text (class_of l.section) (held l.made.table) l.made.next.at (l.room, l.count) ≡ items_of l.text (class_of l.section) (held l.initial.made.table) l.initial.made.next.at (l.initial.room, l.initial.count)

abbrev pub decreases-loop-word : goal.decreases-loop-word
decreases-loop-word l = length l.text - l.made.next.at
