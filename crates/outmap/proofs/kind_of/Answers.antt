use mathlib.Core.Bool.{true, false}
use mathlib.Core.Path.{refl, sym, ◌∙◌}
use borrow.Author.Tests.{lt-ltb}
use Rattle.trees.specs.Layout.{elements_of}
use Rattle.outmap.proofs.Turns.{kind_is}
use Rattle.outmap.proofs.kind_of.Goals as goal

pub returns-in-None : goal.returns-in-None
returns-in-None c = kind_is (elements_of c.args.parts.now) c.args.k 64 false _ c.in-None.ensures.found refl refl

pub returns-in-Some : goal.returns-in-Some
returns-in-Some c = kind_is (elements_of c.args.parts.now) c.args.k _ true true c.in-Some.ensures.found (lt-ltb _ 64 c.in-Some.ensures.inside) (sym c.registered.ensures ∙ c.if-registered.true)

pub returns-in-Some-2 : goal.returns-in-Some-2
returns-in-Some-2 c = kind_is (elements_of c.args.parts.now) c.args.k _ true false c.in-Some.ensures.found (lt-ltb _ 64 c.in-Some.ensures.inside) (sym c.registered.ensures ∙ c.if-registered.false)
