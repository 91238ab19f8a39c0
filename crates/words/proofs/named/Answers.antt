use Rattle.std.proofs.Common.{◌∙◌}
use borrow.Author.Tests.{lt-ltb, le-ltb}
use Rattle.words.specs.Words.{named}
use Rattle.words.proofs.Reserved.{keyword_taken, name_length}
use Rattle.words.proofs.named.Goals as goal

pub returns-then-name-gt-LONGEST : goal.returns-then-name-gt-LONGEST
unfolding named
returns-then-name-gt-LONGEST c =
    let l = name_length c.args.text.now c.args.start c.args.end c.requires.within.0 c.requires.within.1 in
    simp (c.new.ensures, lt-ltb 16 _ (rw l at c.if-name-gt-LONGEST.true))

pub returns : goal.returns
unfolding named
returns c =
    let w = c.requires.within in
    let l = name_length c.args.text.now c.args.start c.args.end w.0 w.1 in
    let k = c.keyword.ensures ∙ keyword_taken c.args.text.now c.args.start c.args.end w.0 w.1 in
    simp (c.new-2.ensures, k, le-ltb 16 _ (rw l at c.if-name-gt-LONGEST.false))
