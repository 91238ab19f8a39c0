use borrow.Author.Tests.{eq-eqb, ne_eqb}
use Rattle.std.proofs.Common.{◌∙◌}
use Rattle.words.proofs.Symbols.{kinded_some, kinded_none, symbol_two, symbol_one, symbol_row, symbol_other}
use Rattle.words.proofs.symbol_at.Goals as goal

pub returns-in-Some : goal.returns-in-Some
returns-in-Some c =
    let k = kinded_some _ _ (rw c.byte_at.ensures at c.in-Some.ensures) in
    rw (c.new-in-Some.ensures, k.0) (symbol_two c.args.text.now c.args.start k.1)

pub returns-in-Some-single : goal.returns-in-Some-single
returns-in-Some-single c =
    let k = kinded_some _ _ c.in-Some-single.ensures in
    rw (c.new-in-Some-single.ensures, k.0) (symbol_one c.args.text.now c.args.start (kinded_none _ (rw c.byte_at.ensures at c.in_default.ensures)) k.1)

pub returns-then-b-eq39 : goal.returns-then-b-eq39
returns-then-b-eq39 c =
    c.logic_at.ensures ∙ rw (eq-eqb _ _ c.if-b-eq39.true) at (symbol_other c.args.text.now c.args.start (kinded_none _ c.in_default-single.ensures))

pub returns-else-b-eq39 : goal.returns-else-b-eq39
returns-else-b-eq39 c =
    rw c.new-else-b-eq39.ensures (rw (ne_eqb _ _ c.if-b-eq39.false) at (symbol_other c.args.text.now c.args.start (kinded_none _ c.in_default-single.ensures)))

pub returns-then-b-le45 : goal.returns-then-b-le45
returns-then-b-le45 c = rw (c.new.ensures, c.first_symbol.ensures) (symbol_row c.args.text.now c.args.start c.if-b-ge40.true c.if-b-le45.true)
