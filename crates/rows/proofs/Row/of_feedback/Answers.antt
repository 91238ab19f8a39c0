use borrow.Author.Rules.{rules}
use borrow.Author.Tests.{tests}
use Rattle.rows.specs.Row.{feedback_fuse, feedback_row}
use Rattle.rows.proofs.Arrays.{array_is}
use Rattle.rows.proofs.Row.of_feedback.Goals as goal

pub returns : goal.returns
unfolding feedback_row
returns c = simp (← c.feedback_of-x.ensures) (array_is (feedback_fuse c.args.k c.feedback_of-x.result) _ (λ x y q k. search (rules, tests)) _ 44 c.from_fn.ensures.items)
