-- The number or the signal that an expression is: its syntax tree's meaning at the algebra that judges as the readers do, and builds the equation's
-- tree in place of writing nodes. Document 01, 'The language we take'.
use Rattle.std.specs.Prelude.{ℕ, ◌+◌, Bool, true, false, List, length, eqb, ℤ, pos, negsuc}
use Rattle.std.proofs.lemmas.List.Edits.{sets}
use Rattle.basics.specs.Choice.{pick}
use Rattle.trees.specs.Tree.{Tree, name, low, high, neg, conj, disj, differ, mux, reg, held}
use Rattle.grammar.specs.Outcome.{Built, built, bad}
use Rattle.grammar.specs.Grammar.{Algebra}
use Rattle.grammar.specs.Trees.{eval}
use Rattle.grammar.specs.Trees as syntax
use Rattle.judging.specs.Judging.{Verdict, number, node, fault, Array, base, unfit, Meaning, valued, signal, nothing, meaning_of, mark_of, literal_of, logic_of, plain_of, opened_of, element_of, operator_of}
use Rattle.judging.specs.Reading.{State}

-- the tree nodes of a module, refusal 6
abbrev pub nodes : ℕ
nodes = 2048

-- what was judged: a number; a signal, by its tree; or a refusal
abbrev pub kept : Verdict → Tree → Built (Unit {0}) (ℤ × Tree)
kept (number v) g = built (v, g) tt
kept (node c) g = built (pos 0, g) tt
kept (fault n p) g = bad n p tt

-- an array, by its first element and its length
abbrev pub opens : Array → Built (Unit {0}) (ℕ × ℕ)
opens (base f n) = built (f, n) tt
opens (unfit n p) = bad n p tt

-- the signal of a name
abbrev pub name_of : Meaning → Tree
name_of (signal f n) = name f
name_of (valued v) = low
name_of nothing = low

-- the element of an index
abbrev pub element_at : ℕ → ℤ → Tree
element_at f (pos i) = name (f + i)
element_at f (negsuc i) = low

-- + is or, - exclusive or, * and
abbrev pub joined : ℕ → Tree → Tree → Tree
joined k a b = pick (eqb k 43) (disj a b) (pick (eqb k 45) (differ a b) (conj a b))

-- the algebra of a text and the names that stand there
abbrev pub signals : List ℕ → List ℕ → Algebra (Unit {0}) (ℤ × Tree) (ℕ × ℕ)
signals s t = record {
  literal = λ o p v u. kept (literal_of o p v) low;
  logic = λ o p v u. kept (logic_of o p v) (pick (eqb v 0) low high);
  plain = λ o st e u. kept (plain_of s t o st e) (name_of (meaning_of s t st e));
  opened = λ o st e p u. opens (opened_of s t o st e p);
  element = λ o st e p b i u. kept (element_of o st p b.0 b.1 i.0) (element_at b.0 i.0);
  invert = λ o p v u. kept (mark_of o 2 p) (neg v.1);
  apply = λ o k p v w u. kept (operator_of o k p v.0 w.0) (joined k v.1 w.1);
  choose = λ o p a b c u. kept (mark_of o 6 p) (mux a.1 b.1 c.1);
  hold = λ o p a u. kept (mark_of o 7 p) (reg a.1);
  keep = λ o p a b u. kept (mark_of o 8 p) (held a.1 b.1);
}

-- the equation of a right side's syntax tree, or its refusal
abbrev pub equation : List ℕ → List ℕ → syntax.Tree → Built (Unit {0}) (ℤ × Tree)
equation s t a = eval (signals s t) 2 a tt

-- nodes behind those that are there
abbrev pub writes : Bool → State → List ℕ → State
writes true x ns = (sets x.0 x.1 ns, x.1 + length ns)
writes false x ns = x
