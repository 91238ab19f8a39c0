use Rattle.std.proofs.Common.{◌≡◌, drop}
use Rattle.names.specs.Names.{held}
use Rattle.declare.specs.Declarations.{declarations_of}
use Rattle.declare.proofs.Laws.{declared}
use Rattle.declare.proofs.declare.Given as goal

abbrev pub invariant-loop-section : goal.invariant-loop-section
invariant-loop-section l =
    declared l.text (drop l.section-index l.section-items) (held l.made.table) l.made.next.at (l.parts, l.count) ≡ declarations_of l.text l.fn.from.at (l.initial.parts, l.initial.count)
