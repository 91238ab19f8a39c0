use mathlib.Core.Path.{ap, ◌∙◌}
use Rattle.std.specs.Prelude.{Err}
use Rattle.basics.specs.declared.refusal.Refusal.{Refusal}
use Rattle.trees.specs.Layout.{elements_of}
use Rattle.question.specs.Question.{seen}
use Rattle.question.proofs.Asking.{question_length, graded, beyond}
use Rattle.question.proofs.ask_table.Goals as goal

pub ask-requires-clause-f_len : goal.ask-requires-clause-f_len
ask-requires-clause-f_len c = question_length (elements_of c.args.parts.now) c.args.o _ _ c.requires.n_value c.requires.f_value

pub returns-then-number-pow3-clause-value : goal.returns-then-number-pow3-clause-value
returns-then-number-pow3-clause-value c = graded (elements_of c.args.parts.now) c.args.o c.args.number _ _ _ _ c.requires.n_value c.requires.f_value c.pow3.ensures c.if-number-pow3.true c.ask.ensures.value

pub returns-else-number-pow3-clause-value : goal.returns-else-number-pow3-clause-value
returns-else-number-pow3-clause-value c =
    ap (λ (r : Refusal). seen (Err r)) c.new.ensures ∙ beyond (elements_of c.args.parts.now) c.args.o c.args.number _ _ c.requires.n_value c.pow3.ensures c.if-number-pow3.false
