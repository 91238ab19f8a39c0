-- What reading for a signal writes: exactly the nodes of the equation's tree, operands first, behind those that were there. What it refuses is what the
-- tree's evaluation refuses, but for the bound of nodes.
-- Assumes nothing.
use mathlib.Core.Path.{◌≡◌, refl, sym, ap, ap₂, subst, ◌∙◌}
use mathlib.Core.Logic.{◌⊎◌, inl, inr}
use mathlib.Core.Bool.{Bool, true, false}
use mathlib.Core.List.{List, [], ◌∷◌, ◌++◌}
use Prim.Native.Nat.{ℕ, suc, ◌+◌}
use native.Mathlib.Omega.{arith}
use native.Mathlib.Nat.{add-zero}
use lib.ListN.{length, set, length-append}
use lib.Seq.{sets}
use lib.Dec.{eqb, ltb}
use lib.IntN.{ℤ, pos, negsuc}
use borrow.Author.Tests.{eqb-true, ne_eqb}
use Rattle.basics.specs.Choice.{pick}
use Rattle.integers.specs.Integers.{Answer, held as kept-number, broken, combined}
use Rattle.trees.specs.Tree.{Tree, low, high, neg, conj, disj, differ, mux, reg, held, flat}
use Rattle.grammar.specs.Outcome.{ok, Built, built, bad, and_built, built_at}
use Rattle.grammar.specs.Grammar.{index_sort, part_sort, expression, nested}
use Rattle.grammar.specs.Trees.{literal, logic, plain, element, invert, apply, choose, hold, keep, eval, parsed}
use Rattle.grammar.specs.Trees as syntax
use Rattle.grammar.proofs.Agree.{reads_meaning}
use Rattle.judging.specs.Judging.{Verdict, number, node, fault, Array, base, unfit, Meaning, valued, signal, nothing, meaning_of, mark_of, literal_of, logic_of, plain_on, plain_of, opened_of, element_on, element_of, answered, operator_of}
use Rattle.judging.specs.Reading.{State, emitted, done, based, reads}
use Rattle.equations.specs.Signals.{kept, opens, name_of, element_at, joined, signals, equation, writes}

-- stores, one behind the other
sets_snoc : (l : List ℕ) (i : ℕ) (pre : List ℕ) (n : ℕ) → sets l i (pre ++ (n ∷ [])) ≡ set (sets l i pre) (i + length pre) n
sets_snoc l i [] n = rw add-zero refl
sets_snoc l i (m ∷ pre) n =
    let e : i + suc (length pre) ≡ suc i + length pre = omega arith in
    rw e (sets_snoc (set l i m) (suc i) pre n)

sets_append : (l : List ℕ) (i : ℕ) (xs ys : List ℕ) → sets (sets l i xs) (i + length xs) ys ≡ sets l i (xs ++ ys)
sets_append l i [] ys = rw add-zero refl
sets_append l i (m ∷ xs) ys =
    let e : i + suc (length xs) ≡ suc i + length xs = omega arith in
    rw e (sets_append (set l i m) (suc i) xs ys)

writes_none : (b : Bool) (x : State) → x ≡ writes b x []
writes_none true x = ap (λ (n : ℕ). (x.0, n)) (sym (add-zero x.1))
writes_none false x = refl

writes_append : (b : Bool) (x : State) (xs ys : List ℕ) → writes b (writes b x xs) ys ≡ writes b x (xs ++ ys)
writes_append true x xs ys =
    let e : x.1 + length xs + length ys ≡ x.1 + length (xs ++ ys) = simp length-append (omega arith) in
    ap₂ (λ (l : List ℕ) (n : ℕ). (l, n)) (sets_append x.0 x.1 xs ys) e
writes_append false x xs ys = refl

writes_more : (x : State) (pre : List ℕ) (n : ℕ)
    → (set (writes true x pre).0 (writes true x pre).1 n, (writes true x pre).1 + 1) ≡ writes true x (pre ++ (n ∷ []))
writes_more x pre n =
    let e : x.1 + length pre + 1 ≡ x.1 + length (pre ++ (n ∷ [])) = simp length-append (omega arith) in
    ap₂ (λ (l : List ℕ) (k : ℕ). (l, k)) (sym (sets_snoc x.0 x.1 pre n)) e

-- two trees one behind the other
behind : (b : Bool) (x y z : State) (xs ys : List ℕ) → y ≡ writes b x xs → z ≡ writes b y ys → z ≡ writes b x (xs ++ ys)
behind b x y z xs ys p q = q ∙ (ap (λ (w : State). writes b w ys) p ∙ writes_append b x xs ys)

-- what a judgement writes: a node only for a counted signal
abbrev pub Emits : ℕ → ℕ → Verdict → Type 0
Emits o c (number v) = eqb o 2 ≡ false
Emits o c (node k) = (eqb o 2 ≡ true) × (k ≡ c)
Emits o c (fault n p) = Unit {0}

emits_pick : (o c : ℕ) (b : Bool) (j k : Verdict) → (b ≡ true → Emits o c j) → (b ≡ false → Emits o c k) → Emits o c (pick b j k)
emits_pick o c true j k f g = f refl
emits_pick o c false j k f g = g refl

not_two : (o n : ℕ) → (n ≡ 2 → ⊥) → eqb o n ≡ true → eqb o 2 ≡ false
not_two o n z e = ne_eqb o 2 (λ q. z (sym (eqb-true o n e) ∙ q))

pub emits_mark : (o c p : ℕ) → Emits o c (mark_of o c p)
unfolding mark_of
emits_mark o c p =
    emits_pick o c (eqb o 2) (node c) _ (λ e. (e, refl)) (λ e. emits_pick o c (eqb o 1) (fault 4 p) (number (pos 0)) (λ f. tt) (λ f. e))

emits_mark_at : (o c d p : ℕ) → c ≡ d → Emits o d (mark_of o c p)
emits_mark_at o c d p q = subst (λ (k : ℕ). Emits o k (mark_of o c p)) q (emits_mark o c p)

pub emits_literal : (o c p v : ℕ) → Emits o c (literal_of o p v)
unfolding literal_of
emits_literal o c p v =
    emits_pick o c (eqb o 1) (number (pos v)) _ (λ e. not_two o 1 (λ z. omega arith) e) (λ e.
    emits_pick o c (eqb o 0) (number (pos 0)) (fault 4 p) (λ e. not_two o 0 (λ z. omega arith) e) (λ e. tt))

-- a logic value's node
abbrev pub logic_code : ℕ → ℕ
logic_code v = pick (eqb v 0) 0 1

pub emits_logic : (o p v : ℕ) → Emits o (logic_code v) (logic_of o p v)
unfolding logic_of
emits_logic o p v =
    emits_pick o (logic_code v) (eqb v 0) (mark_of o 0 p) (mark_of o 1 p)
    (λ e. emits_mark_at o 0 (logic_code v) p (rw e refl)) (λ e. emits_mark_at o 1 (logic_code v) p (rw e refl))

flat_logic : (v : ℕ) → flat (pick (eqb v 0) low high) ≡ logic_code v ∷ []
unfolding flat
flat_logic v = go (eqb v 0)
  where
    go : (b : Bool) → flat (pick b low high) ≡ pick b 0 1 ∷ []
    go true = refl
    go false = refl

-- a name's node
abbrev pub name_code : Meaning → ℕ
name_code (signal f n) = 9 + f
name_code (valued v) = 0
name_code nothing = 0

flat_name : (m : Meaning) → flat (name_of m) ≡ name_code m ∷ []
unfolding flat
flat_name (signal f n) = refl
flat_name (valued v) = refl
flat_name nothing = refl

emits_plain_on : (o p : ℕ) (m : Meaning) → Emits o (name_code m) (plain_on o p m)
emits_plain_on o p nothing = tt
emits_plain_on o p (valued v) = emits_pick o 0 (eqb o 1) (number v) (fault 4 p) (λ e. not_two o 1 (λ z. omega arith) e) (λ e. tt)
emits_plain_on o p (signal f n) =
    emits_pick o (9 + f) (eqb o 1) (fault 4 p) _ (λ e. tt) (λ e. emits_pick o (9 + f) (eqb n 0) (mark_of o (9 + f) p) (fault 5 p) (λ e. emits_mark o (9 + f) p) (λ e. tt))

pub emits_plain : (s t : List ℕ) (o st e : ℕ) → Emits o (name_code (meaning_of s t st e)) (plain_of s t o st e)
unfolding plain_of
emits_plain s t o st e =
    emits_pick o (name_code (meaning_of s t st e)) (eqb o 0) (number (pos 0)) (plain_on o st (meaning_of s t st e)) (λ f. not_two o 0 (λ z. omega arith) f)
    (λ f. emits_plain_on o st (meaning_of s t st e))

-- an element's node
abbrev pub element_code : ℕ → ℤ → ℕ
element_code f (pos i) = 9 + (f + i)
element_code f (negsuc i) = 0

flat_element : (f : ℕ) (i : ℤ) → flat (element_at f i) ≡ element_code f i ∷ []
unfolding flat
flat_element f (pos i) = refl
flat_element f (negsuc i) = refl

emits_element_on : (o st p f n : ℕ) (i : ℤ) → Emits o (element_code f i) (element_on o st p f n i)
emits_element_on o st p f n (pos i) =
    emits_pick o (9 + (f + i)) (ltb i n) (mark_of o (9 + (f + i)) st) (fault 5 p) (λ e. emits_mark o (9 + (f + i)) st) (λ e. tt)
emits_element_on o st p f n (negsuc i) = tt

pub emits_element : (o st p f n : ℕ) (i : ℤ) → Emits o (element_code f i) (element_of o st p f n i)
unfolding element_of
emits_element o st p f n i =
    emits_pick o (element_code f i) (eqb o 0) (number (pos 0)) (element_on o st p f n i) (λ e. not_two o 0 (λ z. omega arith) e) (λ e. emits_element_on o st p f n i)

-- an operator's node
abbrev pub operator_code : ℕ → ℕ
operator_code k = pick (eqb k 43) 4 (pick (eqb k 45) 5 3)

flat_joined : (k : ℕ) (a b : Tree) → flat (joined k a b) ≡ (flat a ++ flat b) ++ (operator_code k ∷ [])
unfolding flat
flat_joined k a b = go (eqb k 43) (eqb k 45)
  where
    go : (u v : Bool) → flat (pick u (disj a b) (pick v (differ a b) (conj a b))) ≡ (flat a ++ flat b) ++ (pick u 4 (pick v 5 3) ∷ [])
    go true v = refl
    go false true = refl
    go false false = refl

emits_answered : (o c p : ℕ) (a : Answer) → eqb o 2 ≡ false → Emits o c (answered p a)
emits_answered o c p (kept-number z) e = e
emits_answered o c p broken e = tt

pub emits_operator : (o k p : ℕ) (a b : ℤ) → Emits o (operator_code k) (operator_of o k p a b)
unfolding operator_of
emits_operator o k p a b =
    emits_pick o (operator_code k) (eqb o 0) (number (pos 0)) _ (λ e. not_two o 0 (λ z. omega arith) e) (λ e.
    emits_pick o (operator_code k) (eqb o 1) (answered p (combined k a b)) _ (λ e. emits_answered o (operator_code k) p (combined k a b) (not_two o 1 (λ z. omega arith) e)) (λ e.
    emits_pick o (operator_code k) (eqb k 43) (mark_of o 4 p) _ (λ f. emits_mark_at o 4 (operator_code k) p (rw f refl)) (λ f.
    emits_pick o (operator_code k) (eqb k 45) (mark_of o 5 p) _ (λ g. emits_mark_at o 5 (operator_code k) p (rw (f, g) refl)) (λ g.
    emits_pick o (operator_code k) (eqb k 42) (mark_of o 3 p) (fault 4 p) (λ h. emits_mark_at o 3 (operator_code k) p (rw (f, g) refl)) (λ h. tt)))))

pub part_two : (o : ℕ) → eqb (part_sort o) 2 ≡ eqb o 2
unfolding part_sort
part_two o = go (eqb o 1) refl
  where
    go : (b : Bool) → eqb o 1 ≡ b → eqb (pick b 3 o) 2 ≡ eqb o 2
    go true e = sym (not_two o 1 (λ z. omega arith) e)
    go false e = refl

pub index_two : (o : ℕ) → eqb (index_sort o) 2 ≡ false
unfolding index_sort
index_two o = go (eqb o 0)
  where
    go : (b : Bool) → eqb (pick b 0 1) 2 ≡ false
    go true = refl
    go false = refl

abbrev Meant : Type 0
Meant = Built (Unit {0}) (ℤ × Tree)

-- What was read from a state, and what the tree means. Accepted: the tree's number, and the nodes of the tree's signal written behind those that were
-- there (b: for a counted signal; else nothing is). Refused: 6, too many nodes, or as the tree's evaluation is.
abbrev pub Wrote : Bool → State → Built State ℤ → Meant → Type 0
Wrote b x (built v y) (built g u) = (v ≡ g.0) × (y ≡ writes b x (flat g.1))
Wrote b x (built v y) (bad n p u) = ⊥
Wrote b x (bad n p y) (built g u) = n ≡ 6
Wrote b x (bad n p y) (bad m q u) = (n ≡ 6) ⊎ ((n ≡ m) × (p ≡ q))

-- after 6, whatever the tree means
six : (b : Bool) (x : State) (p : ℕ) (y : State) (r : Meant) → Wrote b x (bad 6 p y) r
six b x p y (built g u) = refl
six b x p y (bad m q u) = inl refl

six_of : (b : Bool) (x : State) (n p : ℕ) (y : State) (r : Meant) → n ≡ 6 → Wrote b x (bad n p y) r
six_of b x n p y (built g u) e = e
six_of b x n p y (bad m q u) e = inl e

wrote_then : (b c : Bool) (x y : State) (r : Built State ℤ) (r' : Meant) (f : ℤ → State → Built State ℤ) (f' : ℤ × Tree → Unit {0} → Meant)
    → Wrote c y r r' → ((v : ℤ) (g : ℤ × Tree) (z : State) → v ≡ g.0 → z ≡ writes c y (flat g.1) → Wrote b x (f v z) (f' g tt))
    → Wrote b x (and_built r f) (and_built r' f')
wrote_then b c x y (built v z) (built g u) f f' a h = h v g z a.0 a.1
wrote_then b c x y (built v z) (bad n p u) f f' a h = absurd a
wrote_then b c x y (bad n p z) (built g u) f f' a h = six_of b x n p z (f' g tt) a
wrote_then b c x y (bad n p z) (bad m q u) f f' a h = a

-- the last node of a tree
finish : (o p : ℕ) (j : Verdict) (x y : State) (pre : List ℕ) (n : ℕ) (g : Tree) → Emits o n j → y ≡ writes (eqb o 2) x pre → flat g ≡ pre ++ (n ∷ [])
    → Wrote (eqb o 2) x (done j p y) (kept j g)
unfolding emitted
finish o p (number v) x y pre n g e q f = (refl, rw e (rw e at q))
finish o p (node k) x y pre n g e q f = go (ltb y.1 2048) (ltb y.1 (length y.0))
  where
    stored : (set y.0 y.1 k, y.1 + 1) ≡ writes (eqb o 2) x (flat g)
    stored = rw (f, e.0, e.1) (ap (λ (z : State). (set z.0 z.1 n, z.1 + 1)) (rw e.0 at q) ∙ writes_more x pre n)

    go : (b c : Bool) → Wrote (eqb o 2) x (pick b (pick c (built (pos 0) (set y.0 y.1 k, y.1 + 1)) (bad 6 p y)) (bad 6 p y)) (built (pos 0, g) tt)
    go true true = (refl, stored)
    go true false = refl
    go false c = refl
finish o p (fault m r) x y pre n g e q f = inr (refl, refl)

module _ (s t : List ℕ) where
  -- an index, from the name on: what is read there writes nothing
  wrote-index : (o st e p : ℕ) (i : syntax.Tree) (x : State) (j : Array)
      → Wrote false x (eval (reads s t) (index_sort o) i x) (eval (signals s t) (index_sort o) i tt)
      → Wrote (eqb o 2) x
      (and_built (based j x) (λ b x. and_built (eval (reads s t) (index_sort o) i x) (λ v x. done (element_of o st p b.0 b.1 v) st x)))
      (and_built (opens j) (λ b u. and_built (eval (signals s t) (index_sort o) i u) (λ v u. kept (element_of o st p b.0 b.1 v.0) (element_at b.0 v.0))))
  wrote-index o st e p i x (base f n) h =
      wrote_then (eqb o 2) false x x (eval (reads s t) (index_sort o) i x) (eval (signals s t) (index_sort o) i tt) _ _ h (λ v g z q w.
      rw (q, w)
      (finish o st (element_of o st p f n g.0) x x [] (element_code f g.0) (element_at f g.0) (emits_element o st p f n g.0) (writes_none (eqb o 2) x) (flat_element f g.0)))
  wrote-index o st e p i x (unfit n q) h = inr (refl, refl)

  -- every tree, for every sort, from every state
  pub wrote : (a : syntax.Tree) (o : ℕ) (x : State) → Wrote (eqb o 2) x (eval (reads s t) o a x) (eval (signals s t) o a tt)
  unfolding flat
  wrote (literal p v) o x = finish o p (literal_of o p v) x x [] 0 low (emits_literal o 0 p v) (writes_none (eqb o 2) x) refl
  wrote (logic p v) o x = finish o p (logic_of o p v) x x [] (logic_code v) (pick (eqb v 0) low high) (emits_logic o p v) (writes_none (eqb o 2) x) (flat_logic v)
  wrote (plain st e) o x =
      finish o st (plain_of s t o st e) x x [] (name_code (meaning_of s t st e)) (name_of (meaning_of s t st e)) (emits_plain s t o st e) (writes_none (eqb o 2) x)
      (flat_name (meaning_of s t st e))
  wrote (element st e p i) o x = wrote-index o st e p i x (opened_of s t o st e p) (rw (index_two o) at (wrote i (index_sort o) x))
  wrote (invert p a) o x =
      wrote_then (eqb o 2) (eqb o 2) x x (eval (reads s t) o a x) (eval (signals s t) o a tt) _ _ (wrote a o x) (λ v g z q w.
      finish o p (mark_of o 2 p) x z (flat g.1) 2 (neg g.1) (emits_mark o 2 p) w refl)
  wrote (apply k p a b) o x =
      wrote_then (eqb o 2) (eqb o 2) x x (eval (reads s t) o a x) (eval (signals s t) o a tt) _ _ (wrote a o x) (λ v g y q w.
      wrote_then (eqb o 2) (eqb o 2) x y (eval (reads s t) o b y) (eval (signals s t) o b tt) _ _ (wrote b o y) (λ v' g' z q' w'.
      rw (q, q')
      (finish o p (operator_of o k p g.0 g'.0) x z (flat g.1 ++ flat g'.1) (operator_code k) (joined k g.1 g'.1)
      (emits_operator o k p g.0 g'.0) (behind (eqb o 2) x y z (flat g.1) (flat g'.1) w w') (flat_joined k g.1 g'.1))))
  wrote (choose p a b c) o x =
      wrote_then (eqb o 2) (eqb o 2) x x (eval (reads s t) (part_sort o) a x) (eval (signals s t) (part_sort o) a tt) _ _ (rw (part_two o) at (wrote a (part_sort o) x)) (λ v g y q w.
      wrote_then (eqb o 2) (eqb o 2) x y (eval (reads s t) (part_sort o) b y) (eval (signals s t) (part_sort o) b tt) _ _ (rw (part_two o) at (wrote b (part_sort o) y)) (λ v' g' z q' w'.
      wrote_then (eqb o 2) (eqb o 2) x z (eval (reads s t) (part_sort o) c z) (eval (signals s t) (part_sort o) c tt) _ _ (rw (part_two o) at (wrote c (part_sort o) z)) (λ v'' g'' z' q'' w''.
      finish o p (mark_of o 6 p) x z' ((flat g.1 ++ flat g'.1) ++ flat g''.1) 6 (mux g.1 g'.1 g''.1) (emits_mark o 6 p)
      (behind (eqb o 2) x z z' (flat g.1 ++ flat g'.1) (flat g''.1) (behind (eqb o 2) x y z (flat g.1) (flat g'.1) w w') w'')
      refl)))
  wrote (hold p a) o x =
      wrote_then (eqb o 2) (eqb o 2) x x (eval (reads s t) (part_sort o) a x) (eval (signals s t) (part_sort o) a tt) _ _ (rw (part_two o) at (wrote a (part_sort o) x)) (λ v g z q w.
      finish o p (mark_of o 7 p) x z (flat g.1) 7 (reg g.1) (emits_mark o 7 p) w refl)
  wrote (keep p a b) o x =
      wrote_then (eqb o 2) (eqb o 2) x x (eval (reads s t) (part_sort o) a x) (eval (signals s t) (part_sort o) a tt) _ _ (rw (part_two o) at (wrote a (part_sort o) x)) (λ v g y q w.
      wrote_then (eqb o 2) (eqb o 2) x y (eval (reads s t) (part_sort o) b y) (eval (signals s t) (part_sort o) b tt) _ _ (rw (part_two o) at (wrote b (part_sort o) y)) (λ v' g' z q' w'.
      finish o p (mark_of o 8 p) x z (flat g.1 ++ flat g'.1) 8 (held g.1 g'.1) (emits_mark o 8 p)
      (behind (eqb o 2) x y z (flat g.1) (flat g'.1) w w') refl))

  -- where the text has a tree a, reading it for a signal answers the tree's meaning, and what it wrote is the flat list of the tree's equation; what it
  -- refuses is 6, too many nodes, or as the tree's equation is
  pub writes_tree : (d at : ℕ) (x : State) (a : syntax.Tree) (e : ℕ) → parsed s d at ≡ ok a e tt
      → (expression (reads s t) s (nested (reads s t) s d) 2 at x ≡ built_at e (eval (reads s t) 2 a x)) × Wrote true x (eval (reads s t) 2 a x) (equation s t a)
  writes_tree d at x a e q = (reads_meaning (reads s t) s d 2 at x a e q, wrote a 2 x)

  -- for a number the same, and nothing is written
  pub reads_number : (d at : ℕ) (x : State) (a : syntax.Tree) (e : ℕ) → parsed s d at ≡ ok a e tt
      → (expression (reads s t) s (nested (reads s t) s d) 1 at x ≡ built_at e (eval (reads s t) 1 a x)) × Wrote false x (eval (reads s t) 1 a x) (eval (signals s t) 1 a tt)
  reads_number d at x a e q = (reads_meaning (reads s t) s d 1 at x a e q, wrote a 1 x)
