-- Statements and FOR, unrolled where they stand in a text that is of the grammar: the body of a FOR is read again for each round. Document 01, 'The
-- language we take' and 'Refusal numbers', order (4); decisions 13, 21, 22.
use Rattle.std.specs.Prelude.{ℕ, zero, suc, ◌+◌, ◌-◌, List, length, eqb, ltb, ℤ, pos, negsuc, Result, Ok, Err}
use Rattle.basics.specs.Choice.{pick}
use Rattle.words.specs.Words.{next_word}
use Rattle.integers.specs.Integers.{num, nextℤ, rounds_of}
use Rattle.names.specs.Names.{extended}
use Rattle.grammar.specs.Outcome.{Outcome, ok, no, Turn, more, last, on_word, and_then}
use Rattle.grammar.specs.Grammar.{closed}
use Rattle.grammar.specs.Modules.{then_turn, word_turn, repeat}
use Rattle.judging.specs.Reading.{State}
use Rattle.readers.specs.Readers.{expression_of}
use Rattle.parts.specs.Parts.{used_at, allows, one_more}
use Rattle.simple.specs.Statements.{simple_of}
use Rattle.basics.specs.declared.refusal.Refusal.{Refusal}
use Rattle.basics.specs.Refusal.{number_of}
use Rattle.words.specs.declared.Cursor.{Cursor}
use Rattle.unroll.specs.declared.Pass.{Pass}
use Rattle.unroll.specs.declared.Pass.TheVariants.{Deeper, Ended}
use Rattle.unroll.specs.declared.Header.{Header}

-- the names with the loop variable from st to e in front, which hides an outer name: its value is z
abbrev pub with_loop : List ℕ → ℕ → ℕ → ℤ → List ℕ
with_loop t st e (pos m) = extended t st (e - st) 3 m 0
with_loop t st e (negsuc m) = extended t st (e - st) 3 m 1

-- the word after which a body ends, where l bodies are open within it; they are at most 32 deep
unfoldable pub pass_turn : List ℕ → ℕ → ℕ → Unit {0} → Turn (Unit {0}) ℕ
pass_turn s l at x =
    word_turn x (next_word s at) (λ k st v nx.
    pick (eqb k 0) (last (no 2 st x))
    (pick (eqb k 200) (more (pick (ltb l 200) (l + 1) l) nx x)
    (pick (eqb k 202) (pick (eqb l 0) (last (ok 0 nx x)) (more (l - 1) nx x))
    (more l nx x))))

-- the place past the END that closes a body
unfoldable pub passed_of : List ℕ → ℕ → Outcome (Unit {0}) ℕ
passed_of s at = repeat (pass_turn s) (suc (length s)) 0 at tt

abbrev pub seen_pass : Result Pass Refusal → Turn (Unit {0}) ℕ
seen_pass (Ok (Deeper l c)) = more l c.at tt
seen_pass (Ok (Ended c)) = last (ok 0 c.at tt)
seen_pass (Err r) = last (no (number_of r.reason) r.place tt)

abbrev pub seen_over : Result Cursor Refusal → Outcome (Unit {0}) ℕ
seen_over (Ok c) = ok 0 c.at tt
seen_over (Err r) = no (number_of r.reason) r.place tt

-- the name of a FOR, from its first byte to the place past it, and its bounds
pub record Range : Type 0 where
  pub first : ℕ
  pub past : ℕ
  pub low : ℤ
  pub high : ℤ

abbrev pub range : ℕ → ℕ → ℤ → ℤ → Range
range st e a b = record { first = st; past = e; low = a; high = b }

abbrev pub seen_header : Result Header Refusal → State → Outcome State Range
seen_header (Ok h) x = ok (range h.start h.end (num h.low) (num h.high)) h.next.at x
seen_header (Err r) x = no (number_of r.reason) r.place x

-- what stands before the body of a FOR, with d levels left: the bounds are valued before the variable exists
module _ (s t : List ℕ) (d : ℕ) where
  -- behind `..`: the upper bound and DO
  unfoldable pub upper_of : ℕ → ℕ → ℤ → ℕ → State → Outcome State Range
  upper_of st e a at x = and_then (expression_of s t d 1 at x) (λ b at y. and_then (closed s 201 b at y) (λ b q y. ok (range st e a b) q y))

  -- behind `:=`: the lower bound and `..`
  unfoldable pub lower_of : ℕ → ℕ → ℕ → State → Outcome State Range
  lower_of st e at x = and_then (expression_of s t d 1 at x) (λ a at y. and_then (closed s 174 a at y) (upper_of st e))

  -- behind the name
  unfoldable pub range_of : ℕ → ℕ → State → Outcome State Range
  range_of st e x = on_word x (next_word s e) (λ k q v nx. pick (eqb k 189) (lower_of st e nx x) (no 2 q x))

  -- behind FOR
  unfoldable pub header_of : ℕ → State → Outcome State Range
  header_of at x = on_word x (next_word s at) (λ k st v nx. pick (eqb k 1) (range_of st nx x) (no 2 st x))

-- `body t at` carries out the statements at a place among the names t
module _ (s t : List ℕ) (body : List ℕ → ℕ → State → Outcome State ℤ) where
  -- one round of the FOR at p, over the name from st to e with its body at q: it is counted first, at its FOR
  unfoldable pub round_of : ℕ → ℕ → ℕ → ℕ → ℤ → State → Outcome State ℤ
  round_of p st e q z x = pick (allows x.0 used_at 4096) (body (with_loop t st e z) q (one_more x.0 used_at 4096, x.1)) (no 6 p x)

  -- n rounds from z on; r is the place past END
  unfoldable pub turns_of : ℕ → ℕ → ℕ → ℕ → ℕ → ℕ → ℤ → State → Outcome State ℤ
  turns_of p st e q r zero z x = ok (pos 0) r x
  turns_of p st e q r (suc n) z x = and_then (round_of p st e q z x) (λ v at y. turns_of p st e q r n (nextℤ z) y)

  -- behind DO: no round if the lower bound is above the upper
  abbrev pub closed_by : ℕ → ℕ → ℕ → ℤ → ℤ → ℕ → State → Outcome (Unit {0}) ℕ → Outcome State ℤ
  closed_by p st e a b q x (ok l r u) = turns_of p st e q r (rounds_of a b) a x
  closed_by p st e a b q x (no n w u) = no n w x

  unfoldable pub loop_of : ℕ → ℕ → ℕ → ℤ → ℤ → ℕ → State → Outcome State ℤ
  loop_of p st e a b q x = closed_by p st e a b q x (passed_of s q)

  -- behind the FOR at p
  unfoldable pub for_from : ℕ → ℕ → ℕ → State → Outcome State ℤ
  for_from d p at x = and_then (header_of s t d at x) (λ h q y. loop_of p h.first h.past h.low h.high q y)

-- `loops p` carries out what stands behind the FOR at p
module _ (s t : List ℕ) (d : ℕ) (loops : ℕ → ℕ → State → Outcome State ℤ) where
  abbrev pub again : Outcome State ℤ → Turn State ℤ
  again o = then_turn o (λ v e y. more (pos 0) e y)

  -- a statement, possibly empty; a word that begins none ends them
  unfoldable pub statement_turn : ℤ → ℕ → State → Turn State ℤ
  statement_turn v at x =
      word_turn x (next_word s at) (λ k st v' nx.
      pick (eqb k 1) (again (simple_of s t d st nx x))
      (pick (eqb k 200) (again (loops st nx x))
      (pick (eqb k 59) (more (pos 0) nx x)
      (last (ok (pos 0) at x)))))

  unfoldable pub statements_with : ℕ → State → Outcome State ℤ
  statements_with at x = repeat statement_turn (suc (length s)) (pos 0) at x

-- behind the FOR at p with d levels left: it takes one, from its word to its END, its bounds included
unfoldable pub for_of : List ℕ → ℕ → List ℕ → ℕ → ℕ → State → Outcome State ℤ
for_of s zero t p at x = no 6 p x
for_of s (suc d) t p at x = for_from s t (λ u q y. statements_with s u d (for_of s d u) q y) d p at x

-- the statements at a place, among the names t, with d levels left
abbrev pub statements_of : List ℕ → ℕ → List ℕ → ℕ → State → Outcome State ℤ
statements_of s d t at x = statements_with s t d (for_of s d t) at x
