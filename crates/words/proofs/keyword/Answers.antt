use native.Mathlib.Omega.{arith}
use Rattle.std.proofs.Common.{◌∙◌}
use Rattle.words.proofs.Reserved.{two_says, three_says, four_says, five_says, six_says, other_says}
use Rattle.words.proofs.keyword.Goals as goal

pub returns-in-2 : goal.returns-in-2
returns-in-2 c = c.among.ensures ∙ two_says _ c.in-2.is

pub returns-in-3 : goal.returns-in-3
returns-in-3 c = c.among-in-3.ensures ∙ three_says _ c.in-3.is

pub returns-in-4 : goal.returns-in-4
returns-in-4 c = c.among-in-4.ensures ∙ four_says _ c.in-4.is

pub returns-in-5 : goal.returns-in-5
returns-in-5 c = c.among-in-5.ensures ∙ five_says _ c.in-5.is

pub returns-in-6 : goal.returns-in-6
returns-in-6 c = c.among-in-6.ensures ∙ six_says _ c.in-6.is

pub returns-in_default : goal.returns-in_default
returns-in_default c = other_says _ (λ e. omega arith) (λ e. omega arith) (λ e. omega arith) (λ e. omega arith) (λ e. omega arith)
