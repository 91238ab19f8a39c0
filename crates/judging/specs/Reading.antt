-- Expressions read where they stand: the algebra that judges each part, and writes a node for each part of a signal. Document 01, 'The language we
-- take' and refusal 6 (tree nodes); decision 23.
use Rattle.std.specs.Prelude.{ℕ, ◌+◌, List, length, set, ltb, Result, Ok, Err, ℤ, pos}
use Rattle.basics.specs.Choice.{pick}
use Rattle.integers.specs.Integers.{num}
use Rattle.grammar.specs.Outcome.{Outcome, ok, no, Built, built, bad, Turn, more, last}
use Rattle.grammar.specs.Grammar.{Algebra, dotted, pointed}
use Rattle.judging.specs.Judging.{Verdict, number, node, fault, Array, base, unfit, mark_of, literal_of, logic_of, plain_of, opened_of, element_of, operator_of}
use Rattle.basics.specs.Refusal.{number_of}
use Rattle.basics.specs.declared.refusal.Refusal.{Refusal}
use Rattle.judging.specs.declared.Read.{Read}
use Rattle.judging.specs.declared.Step.{Step}
use Rattle.judging.specs.declared.Step.TheVariants.{More, Last}

-- the contents of the room that is lent, and how many nodes of the module are in it
abbrev pub State : Type 0
State = List ℕ × ℕ

-- a node more, for the word at p: at most 2,048 over the module, and no more than the room holds
unfoldable pub emitted : ℕ → ℕ → State → Built State ℤ
emitted c p x =
    pick (ltb x.1 2048)
    (pick (ltb x.1 (length x.0)) (built (pos 0) (set x.0 x.1 c, x.1 + 1)) (bad 6 p x))
    (bad 6 p x)

-- what was judged of the word at p: a node is written, and nothing else is
abbrev pub done : Verdict → ℕ → State → Built State ℤ
done (number v) p x = built v x
done (node c) p x = emitted c p x
done (fault n q) p x = bad n q x

-- an array, by its first element and its length
abbrev pub based : Array → State → Built State (ℕ × ℕ)
based (base f n) x = built (f, n) x
based (unfit n p) x = bad n p x

-- the algebra of a text and the names that stand there: ~ is node 2, MUX 6, REG of one part 7, of two parts 8
abbrev pub reads : List ℕ → List ℕ → Algebra State ℤ (ℕ × ℕ)
reads s t = record {
  literal = λ o p v x. done (literal_of o p v) p x;
  logic = λ o p v x. done (logic_of o p v) p x;
  plain = λ o st e x. done (plain_of s t o st e) st x;
  opened = λ o st e p x. based (opened_of s t o st e p) x;
  element = λ o st e p b i x. done (element_of o st p b.0 b.1 i) st x;
  invert = λ o p v x. done (mark_of o 2 p) p x;
  apply = λ o k p v w x. done (operator_of o k p v w) p x;
  choose = λ o p a b c x. done (mark_of o 6 p) p x;
  hold = λ o p a x. done (mark_of o 7 p) p x;
  keep = λ o p a b x. done (mark_of o 8 p) p x;
}

-- what the code answers, with what the room holds then and how many nodes are in it
abbrev pub seen : Result Read Refusal → State → Outcome State ℤ
seen (Ok r) x = ok (num r.value) r.next.at x
seen (Err r) x = no (number_of r.reason) r.place x

abbrev pub seen_step : Result Step Refusal → State → Turn State ℤ
seen_step (Ok (More r)) x = more (num r.value) r.next.at x
seen_step (Ok (Last r)) x = last (ok (num r.value) r.next.at x)
seen_step (Err r) x = last (no (number_of r.reason) r.place x)

-- behind the dot of an index
abbrev pub dotted_of : List ℕ → List ℕ → ℕ → ℕ → State → Outcome State ℤ
dotted_of s t = dotted (reads s t) s

-- an index with a dot
abbrev pub pointed_of : List ℕ → List ℕ → ℕ → ℕ → ℕ → ℕ → ℕ → State → Outcome State ℤ
pointed_of s t = pointed (reads s t) s
