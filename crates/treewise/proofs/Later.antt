-- Stages 3 and 4 of a text that is of the grammar refuse with 3 to 6 alone: what is wrong in words and grammar was found before them.
-- Assumes nothing.
use mathlib.Core.Path.{◌≡◌, sym, subst}
use mathlib.Core.Bool.{Bool, true, false}
use mathlib.Core.List.{List, [], ◌∷◌}
use Prim.Native.Nat.{ℕ, zero, suc, ◌+◌, ◌-◌, ◌≤◌}
use native.Mathlib.Omega.{arith}
use lib.ListN.{length, get_or, set}
use lib.Dec.{eqb, leb, ltb}
use lib.IntN.{ℤ, pos, negsuc}
use Rattle.basics.specs.Choice.{pick}
use Rattle.words.specs.Words.{next_word}
use Rattle.integers.specs.Integers.{Answer, held, broken, combined, nextℤ, rounds_of}
use Rattle.names.specs.Names.{looked_up}
use Rattle.grammar.specs.Outcome.{Outcome, ok, no, Built, built, bad, and_built, after_built, levels}
use Rattle.grammar.specs.Grammar.{index_sort, part_sort}
use Rattle.grammar.specs.Trees.{Tree, literal, logic, plain, element, invert, apply, choose, hold, keep, eval}
use Rattle.grammar.specs.Modules.{Module}
use Rattle.grammar.specs.Forms.{Numbers, no_numbers, and_number, Statements, nothing, and_statement, assign, place, places, loop, Names, first_name, and_name, Shape, bit, array, Declarations, undeclared, constant, signals, parsed_text}
use Rattle.judging.specs.Judging.{Verdict, number, node, fault, Array, base, unfit, Meaning, valued, signal, meaning_of, mark_of, literal_of, logic_of, plain_on, plain_of, opened_on, opened_of, element_on, element_of, answered, operator_of}
use Rattle.judging.specs.Judging.Meaning.{nothing as meaningless}
use Rattle.judging.specs.Reading.{State, emitted, done, based, reads}
use Rattle.parts.specs.Parts.{used_at, elements_at, constants_at, allows, one_more}
use Rattle.simple.specs.Statements.{upward}
use Rattle.lists.specs.Lists.{is_known, is_length}
use Rattle.declare.specs.Declarations.{width_of, declarations_of}
use Rattle.unroll.specs.Loops.{with_loop, statements_of}
use Rattle.treewise.specs.Unrolled.{Aim, from, off, aim_on, whole_on, on_plain, on_aim, counted, rounds_in, target_in, site_in, assigned, placed, values_in, placed_all, carried}
use Rattle.treewise.specs.Declared.{Fresh, new, old, unless_old, start_of, element_in, elements_in, fresh_in, length_in, signals_in, constant_in, declared_in}
use Rattle.treewise.proofs.Whole.{tree_agrees}

abbrev pub Later : ℕ → Type 0
Later n = (3 ≤ n) × (n ≤ 6)

-- an answer, if it is a refusal
abbrev pub LaterIn : {A : Type 0} → Outcome State A → Type 0
LaterIn (ok v e x) = Unit {0}
LaterIn (no n p x) = Later n

abbrev LaterB : {A : Type 0} → Built State A → Type 0
LaterB (built v x) = Unit {0}
LaterB (bad n p x) = Later n

abbrev LaterV : Verdict → Type 0
LaterV (number v) = Unit {0}
LaterV (node c) = Unit {0}
LaterV (fault n p) = Later n

abbrev LaterA : Array → Type 0
LaterA (base f n) = Unit {0}
LaterA (unfit n p) = Later n

abbrev LaterAim : Aim → Type 0
LaterAim (from k n) = Unit {0}
LaterAim (off n p) = Later n

three : Later 3
three = (omega arith, omega arith)

four : Later 4
four = (omega arith, omega arith)

five : Later 5
five = (omega arith, omega arith)

six : Later 6
six = (omega arith, omega arith)

then_later : {A B : Type 0} (b : Built State A) (f : A → State → Built State B) → LaterB b → ((v : A) (y : State) → LaterB (f v y)) → LaterB (and_built b f)
then_later (built v y) f h g = g v y
then_later (bad n p y) f h g = h

pick_later : {A : Type 0} (b : Bool) (x y : Built State A) → LaterB x → LaterB y → LaterB (pick b x y)
pick_later true x y p q = p
pick_later false x y p q = q

pick_v : (b : Bool) (x y : Verdict) → LaterV x → LaterV y → LaterV (pick b x y)
pick_v true x y p q = p
pick_v false x y p q = q

pick_a : (b : Bool) (x y : Array) → LaterA x → LaterA y → LaterA (pick b x y)
pick_a true x y p q = p
pick_a false x y p q = q

-- ---- expressions

emitted_later : (c p : ℕ) (x : State) → LaterB (emitted c p x)
unfolding emitted
emitted_later c p x =
    pick_later (ltb x.1 2048) _ (bad 6 p x) (pick_later (ltb x.1 (length x.0)) (built (pos 0) (set x.0 x.1 c, x.1 + 1)) (bad 6 p x) tt six) six

done_later : (j : Verdict) (p : ℕ) (x : State) → LaterV j → LaterB (done j p x)
done_later (number v) p x h = tt
done_later (node c) p x h = emitted_later c p x
done_later (fault n q) p x h = h

based_later : (a : Array) (x : State) → LaterA a → LaterB (based a x)
based_later (base f n) x h = tt
based_later (unfit n p) x h = h

mark_later : (o c p : ℕ) → LaterV (mark_of o c p)
unfolding mark_of
mark_later o c p = pick_v (eqb o 2) (node c) _ tt (pick_v (eqb o 1) (fault 4 p) (number (pos 0)) four tt)

literal_later : (o p v : ℕ) → LaterV (literal_of o p v)
unfolding literal_of
literal_later o p v = pick_v (eqb o 1) (number (pos v)) _ tt (pick_v (eqb o 0) (number (pos 0)) (fault 4 p) tt four)

logic_later : (o p v : ℕ) → LaterV (logic_of o p v)
unfolding logic_of
logic_later o p v = pick_v (eqb v 0) (mark_of o 0 p) (mark_of o 1 p) (mark_later o 0 p) (mark_later o 1 p)

plain_on_later : (o p : ℕ) (m : Meaning) → LaterV (plain_on o p m)
plain_on_later o p meaningless = four
plain_on_later o p (valued v) = pick_v (eqb o 1) (number v) (fault 4 p) tt four
plain_on_later o p (signal f n) = pick_v (eqb o 1) (fault 4 p) _ four (pick_v (eqb n 0) (mark_of o (9 + f) p) (fault 5 p) (mark_later o (9 + f) p) five)

opened_on_later : (o st p : ℕ) (m : Meaning) → LaterA (opened_on o st p m)
opened_on_later o st p meaningless = four
opened_on_later o st p (valued v) = pick_a (eqb o 1) (unfit 5 p) (unfit 4 st) five four
opened_on_later o st p (signal f n) = pick_a (eqb o 1) (unfit 4 st) _ four (pick_a (eqb n 0) (unfit 5 p) (base f n) five tt)

element_on_later : (o st p f n : ℕ) (i : ℤ) → LaterV (element_on o st p f n i)
element_on_later o st p f n (pos i) = pick_v (ltb i n) (mark_of o (9 + (f + i)) st) (fault 5 p) (mark_later o (9 + (f + i)) st) five
element_on_later o st p f n (negsuc i) = five

element_later : (o st p f n : ℕ) (i : ℤ) → LaterV (element_of o st p f n i)
unfolding element_of
element_later o st p f n i = pick_v (eqb o 0) (number (pos 0)) (element_on o st p f n i) tt (element_on_later o st p f n i)

answered_later : (p : ℕ) (a : Answer) → LaterV (answered p a)
answered_later p (held z) = tt
answered_later p broken = three

operator_later : (o k p : ℕ) (a b : ℤ) → LaterV (operator_of o k p a b)
unfolding operator_of
operator_later o k p a b =
    pick_v (eqb o 0) (number (pos 0)) _ tt
    (pick_v (eqb o 1) (answered p (combined k a b)) _ (answered_later p (combined k a b))
    (pick_v (eqb k 43) (mark_of o 4 p) _ (mark_later o 4 p)
    (pick_v (eqb k 45) (mark_of o 5 p) _ (mark_later o 5 p)
    (pick_v (eqb k 42) (mark_of o 3 p) (fault 4 p) (mark_later o 3 p) four))))

module _ (s t : List ℕ) where
  plain-later : (o st e : ℕ) → LaterV (plain_of s t o st e)
  unfolding plain_of
  plain-later o st e = pick_v (eqb o 0) (number (pos 0)) (plain_on o st (meaning_of s t st e)) tt (plain_on_later o st (meaning_of s t st e))

  opened-later : (o st e p : ℕ) → LaterA (opened_of s t o st e p)
  unfolding opened_of
  opened-later o st e p = pick_a (eqb o 0) (base 0 0) (opened_on o st p (meaning_of s t st e)) tt (opened_on_later o st p (meaning_of s t st e))

  eval-later : (w : Tree) (o : ℕ) (x : State) → LaterB (eval (reads s t) o w x)
  eval-later (literal p v) o x = done_later (literal_of o p v) p x (literal_later o p v)
  eval-later (logic p v) o x = done_later (logic_of o p v) p x (logic_later o p v)
  eval-later (plain st e) o x = done_later (plain_of s t o st e) st x (plain-later o st e)
  eval-later (element st e p i) o x =
      then_later (based (opened_of s t o st e p) x) _ (based_later (opened_of s t o st e p) x (opened-later o st e p)) (λ b x.
      then_later (eval (reads s t) (index_sort o) i x) _ (eval-later i (index_sort o) x) (λ v x. done_later (element_of o st p b.0 b.1 v) st x (element_later o st p b.0 b.1 v)))
  eval-later (invert p w) o x = then_later (eval (reads s t) o w x) _ (eval-later w o x) (λ v x. done_later (mark_of o 2 p) p x (mark_later o 2 p))
  eval-later (apply k p l r) o x =
      then_later (eval (reads s t) o l x) _ (eval-later l o x) (λ v x.
      then_later (eval (reads s t) o r x) _ (eval-later r o x) (λ w x. done_later (operator_of o k p v w) p x (operator_later o k p v w)))
  eval-later (choose p a b c) o x =
      then_later (eval (reads s t) (part_sort o) a x) _ (eval-later a (part_sort o) x) (λ u x.
      then_later (eval (reads s t) (part_sort o) b x) _ (eval-later b (part_sort o) x) (λ v x.
      then_later (eval (reads s t) (part_sort o) c x) _ (eval-later c (part_sort o) x) (λ w x. done_later (mark_of o 6 p) p x (mark_later o 6 p))))
  eval-later (hold p a) o x = then_later (eval (reads s t) (part_sort o) a x) _ (eval-later a (part_sort o) x) (λ v x. done_later (mark_of o 7 p) p x (mark_later o 7 p))
  eval-later (keep p a b) o x =
      then_later (eval (reads s t) (part_sort o) a x) _ (eval-later a (part_sort o) x) (λ u x.
      then_later (eval (reads s t) (part_sort o) b x) _ (eval-later b (part_sort o) x) (λ v x. done_later (mark_of o 8 p) p x (mark_later o 8 p)))

  -- ---- statements

  aim-later : (b : Built State ℤ) → LaterB b → LaterAim (aim_on b)
  aim-later (built v y) h = tt
  aim-later (bad n p y) h = h

  whole-later : (p : ℕ) (m : Meaning) → LaterAim (whole_on p m)
  whole-later p meaningless = four
  whole-later p (valued z) = four
  whole-later p (signal f n) = tt

  onPlain-later : (v : Tree) (f : ℕ → ℕ → Aim) (a : Aim) → ((st e : ℕ) → LaterAim (f st e)) → LaterAim a → LaterAim (on_plain v f a)
  onPlain-later (plain st e) f a h g = h st e
  onPlain-later (literal p v) f a h g = g
  onPlain-later (logic p v) f a h g = g
  onPlain-later (element st e p i) f a h g = g
  onPlain-later (invert p v) f a h g = g
  onPlain-later (apply k p v w) f a h g = g
  onPlain-later (choose p u v w) f a h g = g
  onPlain-later (hold p v) f a h g = g
  onPlain-later (keep p v w) f a h g = g

  onAim-later : (a : Aim) (x : State) (f : ℕ → ℕ → Built State (Unit {0})) → LaterAim a → ((k n : ℕ) → LaterB (f k n)) → LaterB (on_aim a x f)
  onAim-later (from k n) x f h g = g k n
  onAim-later (off n p) x f h g = h

  target-later : (v : Tree) → LaterAim (target_in s t v)
  unfolding target_in
  target-later v = aim-later (eval (reads s t) 2 v (0 ∷ [], 0)) (eval-later v 2 (0 ∷ [], 0))

  site-later : (v : Tree) → LaterAim (site_in s t v)
  unfolding site_in
  site-later v = onPlain-later v (λ st e. whole_on st (meaning_of s t st e)) (target_in s t v) (λ st e. whole-later st (meaning_of s t st e)) (target-later v)

  assigned-later : (v w : Tree) (x : State) → LaterB (assigned s t v w x)
  unfolding assigned
  assigned-later v w x = onAim-later (target_in s t v) x _ (target-later v) (λ k n. then_later (eval (reads s t) 2 w x) _ (eval-later w 2 x) (λ u y. tt))

  placed-later : (v w : Tree) (x : State) → LaterB (placed s t v w x)
  unfolding placed
  placed-later v w x = onAim-later (site_in s t v) x _ (site-later v) (λ k n. then_later (eval (reads s t) 1 w x) _ (eval-later w 1 x) (λ u y. tt))

  values-later : (l : Numbers) (x : State) → LaterB (values_in s t l x)
  unfolding values_in
  values-later no_numbers x = tt
  values-later (and_number l w) x = then_later (values_in s t l x) _ (values-later l x) (λ zs y. then_later (eval (reads s t) 1 w y) _ (eval-later w 1 y) (λ z y. tt))

  placedAll-later : (v : Tree) (l : Numbers) (x : State) → LaterB (placed_all s t v l x)
  unfolding placed_all
  placedAll-later v l x = onAim-later (site_in s t v) x _ (site-later v) (λ k n. then_later (values_in s t l x) _ (values-later l x) (λ u y. tt))

counted_later : (p : ℕ) (f : State → Built State (Unit {0})) (x : State) → ((y : State) → LaterB (f y)) → LaterB (counted p f x)
unfolding counted
counted_later p f x h = pick_later (allows x.0 used_at 4096) (f (one_more x.0 used_at 4096, x.1)) (bad 6 p x) (h (one_more x.0 used_at 4096, x.1)) six

rounds_later : (body : List ℕ → State → Built State (Unit {0})) → ((r : List ℕ) (y : State) → LaterB (body r y)) → (t : List ℕ) (p st e n : ℕ) (z : ℤ) (x : State)
    → LaterB (rounds_in body t p st e n z x)
unfolding rounds_in
rounds_later body h t p st e zero z x = tt
rounds_later body h t p st e (suc n) z x =
    then_later (counted p (body (with_loop t st e z)) x) _ (counted_later p (body (with_loop t st e z)) x (h (with_loop t st e z))) (λ u y. rounds_later body h t p st e n (nextℤ z) y)

carried_later : (s t : List ℕ) (u : Statements) (x : State) → LaterB (carried s t u x)
unfolding carried
carried_later s t nothing x = tt
carried_later s t (and_statement u v) x = then_later (carried s t u x) _ (carried_later s t u x) (λ w y. carried_later s t v y)
carried_later s t (assign p v w) x = counted_later p (assigned s t v w) x (assigned-later s t v w)
carried_later s t (place p v w) x = counted_later p (placed s t v w) x (placed-later s t v w)
carried_later s t (places p v l) x = counted_later p (placed_all s t v l) x (placedAll-later s t v l)
carried_later s t (loop p st e a b at u) x =
    then_later (eval (reads s t) 1 a x) _ (eval-later s t a 1 x) (λ lo y.
    then_later (eval (reads s t) 1 b y) _ (eval-later s t b 1 y) (λ hi z.
    rounds_later (λ r y. carried s r u y) (λ r y. carried_later s r u y) t p st e (rounds_of lo hi) lo z))

-- ---- declarations

module _ (s : List ℕ) where
  elementIn-later : (c n : ℕ) (t : List ℕ) (st e : ℕ) (x : State) → LaterB (element_in c n t st e x)
  unfolding element_in
  elementIn-later c n t st e x = pick_later (leb (get_or x.0 elements_at 0 + width_of n) 64) _ (bad 6 st x) tt six

  elements-later : (c n : ℕ) (t : List ℕ) (l : Names) (x : State) → LaterB (elements_in c n t l x)
  unfolding elements_in
  elements-later c n t (first_name st e) x = elementIn-later c n t st e x
  elements-later c n t (and_name l st e) x = then_later (elements_in c n t l x) _ (elements-later c n t l x) (λ u y. elementIn-later c n u st e y)

  length-later : (t : List ℕ) (y : Shape) (x : State) → LaterB (length_in s t y x)
  unfolding length_in
  length-later t bit x = tt
  length-later t (array at v) x =
      then_later (eval (reads s t) 1 v x) _ (eval-later s t v 1 x) (λ z y. pick_later (is_length z) (built z y) (bad 5 (start_of (next_word s at)) y) tt five)

  unless-later : {A : Type 0} (f : Fresh) (x : State) (b : Built State A) → LaterB b → LaterB (unless_old f x b)
  unless-later new x b h = h
  unless-later (old p) x b h = four

  signals-later : (t : List ℕ) (c : ℕ) (l : Names) (y : Shape) (x : State) → LaterB (signals_in s t c l y x)
  unfolding signals_in
  signals-later t c l y x = unless-later (fresh_in s t l) x _ (then_later (length_in s t y x) _ (length-later t y x) (λ z x. elements-later c (upward z) t l x))

  constant-later : (t : List ℕ) (st e : ℕ) (w : Tree) (x : State) → LaterB (constant_in s t st e w x)
  unfolding constant_in
  constant-later t st e w x =
      pick_later (is_known (looked_up s t st (e - st))) (bad 4 st x) _ four
      (pick_later (allows x.0 constants_at 32) _ (bad 6 st x)
      (then_later (eval (reads s t) 1 w (one_more x.0 constants_at 32, x.1)) _ (eval-later s t w 1 (one_more x.0 constants_at 32, x.1)) (λ z y. tt)) six)

  declared-later : (v : Declarations) (x : State) → LaterB (declared_in s v x)
  unfolding declared_in
  declared-later undeclared x = tt
  declared-later (constant v st e w) x = then_later (declared_in s v x) _ (declared-later v x) (λ t y. constant-later t st e w y)
  declared-later (signals v k l y) x = then_later (declared_in s v x) _ (declared-later v x) (λ t x. signals-later t (k - 208) l y x)

-- ---- along the text

after_later : {A B : Type 0} (b : Built State A) (f : A → State → Outcome State B) → LaterB b → ((v : A) (y : State) → LaterIn (f v y)) → LaterIn (after_built b f)
after_later (built v y) f h g = g v y
after_later (bad n p y) f h g = h

module _ (s : List ℕ) (small : length s ≤ 65535) (m : Module Declarations Statements) (e : ℕ) (tree : parsed_text s ≡ ok m e tt) where
  pub declarations_later : (x : State) → LaterIn (declarations_of s m.declarations x)
  declarations_later x =
      subst LaterIn (sym ((tree_agrees s small m e tree).declares x)) (after_later (declared_in s m.declared x) _ (declared-later s m.declared x) (λ t y. tt))

  pub statements_later : (t : List ℕ) (x : State) → LaterIn (statements_of s levels t m.statements x)
  statements_later t x =
      subst LaterIn (sym ((tree_agrees s small m e tree).carries t x)) (after_later (carried s t m.body x) _ (carried_later s t m.body x) (λ u y. tt))
