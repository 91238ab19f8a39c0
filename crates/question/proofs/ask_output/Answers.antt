use mathlib.Core.Path.{ap, ◌∙◌}
use native.Mathlib.Omega.{arith}
use Rattle.std.specs.Prelude.{Err}
use Rattle.basics.specs.declared.refusal.Refusal.{Refusal}
use Rattle.trees.specs.Layout.{elements_of}
use Rattle.question.specs.Question.{seen}
use Rattle.question.proofs.Asking.{few_pins, asked_out, asked_none}
use Rattle.question.proofs.ask_output.Goals as goal

pub ask_out-requires-clause-o_bound_2 : goal.ask_out-requires-clause-o_bound_2
ask_out-requires-clause-o_bound_2 c = few_pins (elements_of c.args.parts.now) c.args.pin _ c.requires.parts_value_2 c.in-Some.ensures.found c.in-Some.ensures.inside

pub returns-in-Some-clause-value : goal.returns-in-Some-clause-value
returns-in-Some-clause-value c = asked_out (elements_of c.args.parts.now) c.args.pin c.args.number _ _ c.in-Some.ensures.found c.in-Some.ensures.inside c.ask_out.ensures.value

pub returns-in-None-clause-value : goal.returns-in-None-clause-value
returns-in-None-clause-value c = ap (λ (r : Refusal). seen (Err r)) c.new.ensures ∙ asked_none (elements_of c.args.parts.now) c.args.pin c.args.number 64 c.in-None.ensures.found (omega arith)
