use Rattle.std.proofs.Common.{rules, of_calls}
use Rattle.std.specs.Fn.Refs.{fn_at_ref}
use Rattle.phrases.proofs.Lists.{number_nearer}
use Rattle.phrases.proofs.number_list.Goals as goal

pub repeat-requires : goal.repeat-requires
repeat-requires c κs within =
    (search (rules, within.0, within.1.0, within.1.1.0, within.1.1.1.0) depth 12 fits 9000, (search (of_calls, fn_at_ref) parts 8, ((λ at r p. search (rules, p.1)), number_nearer _ _ _)))
