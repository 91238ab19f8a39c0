use Rattle.std.proofs.Common.{rules, of_calls}
use Rattle.std.specs.Fn.Refs.{fn_at_ref}
use Rattle.checking.proofs.Sections.{constant_nearer}
use Rattle.checking.proofs.constant_section.Goals as goal

pub repeat-requires : goal.repeat-requires
repeat-requires c κs within = search (of_calls, fn_at_ref, rules, within.0, within.1.0, constant_nearer) parts 8
