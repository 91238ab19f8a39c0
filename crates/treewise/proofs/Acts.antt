-- A simple statement, carried out where it stands in the text, does what its tree says.
-- Assumes nothing.
use mathlib.Core.Path.{◌≡◌, refl, sym, ap, subst, ◌∙◌}
use mathlib.Core.Bool.{Bool, true, false}
use mathlib.Core.List.{List, [], ◌∷◌, ◌++◌}
use Prim.Native.Nat.{ℕ, suc, ◌+◌, ◌-◌, ◌<◌, ◌≤◌}
use native.Mathlib.Omega.{arith}
use native.Mathlib.Nat.{add-zero}
use lib.ListN.{length, get_or, length-append}
use lib.Dec.{eqb}
use lib.IntN.{ℤ, pos}
use borrow.Author.Tests.{lt-ltb, eqb-true}
use Rattle.basics.specs.Choice.{pick}
use Rattle.words.specs.declared.Cursor.{Cursor}
use Rattle.words.specs.Taken.{Taken, Word}
use Rattle.words.specs.Words.{next_word}
use Rattle.words.proofs.Forward.{Forward, next_forward}
use Rattle.integers.specs.Integers.{nextℤ}
use Rattle.grammar.specs.Outcome.{Outcome, ok, no, Built, built, bad, more, last, and_then, built_at, after_built, and_built}
use Rattle.grammar.specs.Grammar.{Algebra, named, bracketed, pointed, part, dotted, factor, nested, index_sort}
use Rattle.grammar.specs.Trees.{Tree, plain, trees, eval, parsed}
use Rattle.grammar.specs.Modules.{number_turn as treeNumber, numbers, positioned, aimed, simple}
use Rattle.grammar.specs.Forms.{Numbers, no_numbers, and_number, Statements, tree_forms}
use Rattle.grammar.proofs.Agree.{Agree, agree_nested, reads_meaning}
use Rattle.grammar.proofs.Chain.{Past, past_nested}
use Rattle.judging.specs.Judging.{Meaning, valued, signal, nothing, meaning_of}
use Rattle.judging.specs.Reading.{State, reads}
use Rattle.readers.specs.Readers.{index_of, expression_of}
use Rattle.parts.specs.Parts.{used_at, allows, one_more, assigned_in, positioned_in, miscounted_from}
use Rattle.simple.specs.Statements.{target_on, target_of, assignment_of, gave_of, number_turn, numbers_of, counted_of, list_of, one_of, position_of, placed_of, behind_of, act_of, simple_of}
use Rattle.simple.proofs.Laws.{rest, numbers_more, numbers_last}
use Rattle.treewise.specs.Unrolled.{Aim, aim_on, whole_on, on_plain, on_aim, counted, given_from, target_in, site_in, assigned, placed, values_in, placed_all, carried}
use Rattle.treewise.proofs.Trace.{When, when_pick, when_then, when_is, when_t_pick, when_t_then, when_repeat, when_word, when_t_word, within_bracket}
use Rattle.treewise.proofs.Quiet.{Known, gave, failed, stated, quiet_eval}

-- an answer without its value: the place past the part and the state, or the refusal
abbrev pub settled : {A : Type 0} → Outcome State A → Outcome State (Unit {0})
settled (ok v e y) = ok tt e y
settled (no n p y) = no n p y

agree_is : (alg : Algebra State ℤ (ℕ × ℕ)) (o : ℕ) (x : State) (r : Outcome State ℤ) (t : Tree) (e : ℕ) → Agree alg o x r (ok t e tt) → r ≡ built_at e (eval alg o t x)
agree_is alg o x (ok v e' y) t e a = rw a.0 (ap (λ (i : ℕ). ok v i y) a.1)
agree_is alg o x (no n p y) t e a = rw a refl

-- a factor whose first word is a name
factor_name : {S A B : Type 0} (alg : Algebra S A B) (s : List ℕ) (inner : Bool → ℕ → ℕ → ℕ → S → Outcome S A) (o at st v : ℕ) (c : Cursor) (x : S)
    → next_word s at ≡ Word 1 st v c → factor alg s inner o at x ≡ named alg s inner o st c.at x
unfolding factor
factor_name alg s inner o at st v c x q = rw q refl

-- the designator whose name is from st to e₀: the name alone, or an index behind it
data Form (s : List ℕ) (st e₀ : ℕ) (w : Tree) (e : ℕ) : Type 0 where
  alone : w ≡ plain st e₀ → e ≡ e₀ → Form s st e₀ w e
  indexed : (k p v : ℕ) (c : Cursor) → next_word s e₀ ≡ Word k p v c → eqb k 186 ≡ false → ((f : ℕ → ℕ → Aim) (a : Aim) → on_plain w f a ≡ a) → Form s st e₀ w e

no_position : (k m : ℕ) → eqb k m ≡ true → eqb m 186 ≡ false → eqb k 186 ≡ false
no_position k m b h = subst (λ (i : ℕ). eqb i 186 ≡ false) (sym (eqb-true k m b)) h

named_form : (s : List ℕ) (d st e₀ : ℕ) → When (Form s st e₀) (named trees s (nested trees s d) 0 st e₀ tt)
unfolding named bracketed pointed
named_form s d st e₀ =
    when_word s (Form s st e₀) e₀ _ (λ k p v c q.
    when_pick (Form s st e₀) (eqb k 91) _ _
    (λ b. when_then (Form s st e₀) (part trees s (nested trees s d) (index_sort 0) p 93 c.at tt) _ (λ i e r. indexed k p v c q (no_position k 91 b refl) (λ f a. refl))) (λ a.
    when_pick (Form s st e₀) (eqb k 46) _ (ok (plain st e₀) e₀ tt)
    (λ b. when_then (Form s st e₀) (dotted trees s (index_sort 0) c.at tt) _ (λ i e r. indexed k p v c q (no_position k 46 b refl) (λ f a. refl)))
    (λ b. alone refl refl)))

-- what holds where numbers were valued
abbrev Given : Built State (List ℤ) → (List ℤ → State → Type 0) → Type 0
Given (built zs y) P = P zs y
Given (bad n p y) P = Unit {0}

given_next : (l : List ℕ) (k : ℕ) (zs : List ℤ) (z : ℤ) → given_from l k (zs ++ (z ∷ [])) ≡ positioned_in (given_from l k zs) (k + length zs) z
unfolding given_from
given_next l k [] z = rw (add-zero k) refl
given_next l k (a ∷ zs) z =
    let e : k + 1 + length zs ≡ k + suc (length zs) = omega arith in
    given_next (positioned_in l k a) (k + 1) zs z ∙ ap (λ (i : ℕ). positioned_in (given_from (positioned_in l k a) (k + 1) zs) i z) e

count_next : (zs : List ℤ) (z : ℤ) → length (zs ++ (z ∷ [])) ≡ length zs + 1
count_next zs z = length-append zs (z ∷ [])

count_steps : (zs : List ℤ) (z : ℤ) → length zs < 65535 → nextℤ (pos (length zs)) ≡ pos (length (zs ++ (z ∷ [])))
count_steps zs z h = rw (lt-ltb (length zs) 65535 h) (ap pos (sym (count_next zs z)))

module _ (s t : List ℕ) (d : ℕ) where
  -- an expression and a designator that have a tree
  pub read_is : (o at : ℕ) (x : State) (w : Tree) (e : ℕ) → parsed s d at ≡ ok w e tt → expression_of s t d o at x ≡ built_at e (eval (reads s t) o w x)
  read_is o at x w e q = reads_meaning (reads s t) s d o at x w e q

  factors : (o at : ℕ) (x : State)
      → Agree (reads s t) o x (factor (reads s t) s (nested (reads s t) s d) o at x) (factor trees s (nested trees s d) 0 at tt)
  unfolding nested
  factors o at x = agree_nested (reads s t) s (suc d) true o 0 0 at x

  named_is : (o at st v : ℕ) (c : Cursor) (x : State) (w : Tree) (e : ℕ) → next_word s at ≡ Word 1 st v c
      → named trees s (nested trees s d) 0 st c.at tt ≡ ok w e tt → index_of s t d o st c.at x ≡ built_at e (eval (reads s t) o w x)
  named_is o at st v c x w e q h =
      agree_is (reads s t) o x (index_of s t d o st c.at x) w e
      (subst (λ (r : Outcome State ℤ). Agree (reads s t) o x r (ok w e tt)) (factor_name (reads s t) s (nested (reads s t) s d) o at st v c x q)
      (subst (λ (r : Outcome (Unit {0}) Tree). Agree (reads s t) o x (factor (reads s t) s (nested (reads s t) s d) o at x) r)
      (factor_name trees s (nested trees s d) 0 at st v c tt q ∙ h) (factors o at x)))

  -- ---- the numbers of a list

  module _ (g : Bool) (f : ℕ) (v : ℤ) (i : ℕ) (y : State) (w : Tree) (e : ℕ) (q : parsed s d i ≡ ok w e tt) where
    number-fails : (n p : ℕ) (y' : State) → eval (reads s t) 1 w y ≡ bad n p y' → rest s t d g f v i y ≡ no n p y'
    number-fails n p y' h = numbers_last s t d g f v i y (no n p y') turned
      where
        turned : number_turn s t d g f v i y ≡ last (no n p y')
        turned = unfold number_turn in rw (read_is 1 i y w e q, h) refl

    module _ (k st v' : ℕ) (c : Cursor) (word : next_word s e ≡ Word k st v' c) (z : ℤ) (y' : State) (h : eval (reads s t) 1 w y ≡ built z y') where
      number_more : eqb k 59 ≡ true → rest s t d g f v i y ≡ rest s t d g f (nextℤ v) c.at (gave_of s t d g f v z y')
      number_more b = numbers_more s t d g f v (nextℤ v) i c.at y (gave_of s t d g f v z y') turned
        where
          turned : number_turn s t d g f v i y ≡ more (nextℤ v) c.at (gave_of s t d g f v z y')
          turned = unfold number_turn in rw (read_is 1 i y w e q, h, word, b) refl

      number_last : eqb k 59 ≡ false → eqb k 93 ≡ true → rest s t d g f v i y ≡ ok (nextℤ v) c.at (gave_of s t d g f v z y')
      number_last a b = numbers_last s t d g f v i y (ok (nextℤ v) c.at (gave_of s t d g f v z y')) turned
        where
          turned : number_turn s t d g f v i y ≡ last (ok (nextℤ v) c.at (gave_of s t d g f v z y'))
          turned = unfold number_turn in rw (read_is 1 i y w e q, h, word, a, b) refl

  -- a number of the grammar starts within the text and ends behind its start
  number_past : (q i : ℕ) (w : Tree) (e : ℕ) → nested trees s d false 0 q i tt ≡ ok w e tt → (i < e) × (i < length s)
  number_past q i w e h = subst (λ (r : Outcome (Unit {0}) Tree). Past (length s) i r) h (past_nested trees s d false 0 q i tt)

  further : (e k m st v : ℕ) (c : Cursor) → next_word s e ≡ Word k st v c → eqb k m ≡ true → (m ≡ 0 → ⊥) → e < c.at
  further e k m st v c q b nz =
      let f : Forward (length s) e (Word k st v c) = subst (λ (t : Taken). Forward (length s) e t) q (next_forward s e) in
      let h : (e < c.at) × (e < length s) = f (λ z. nz (sym (eqb-true k m b) ∙ z)) in
      h.0

  module _ (small : length s ≤ 65535) (q at f : ℕ) (x : State) where
    -- they are counted as they are valued
    Count : Numbers → ℕ → Type 0
    Count l i = (numbers_of s t d false f at x ≡ after_built (values_in s t l x) (λ zs y. rest s t d false f (pos (length zs)) i y)) × Given (values_in s t l x) (λ zs y. length zs ≤ i)

    Counted : Numbers → ℕ → Type 0
    Counted l e = numbers_of s t d false f at x ≡ after_built (values_in s t l x) (λ zs y. ok (pos (length zs)) e y)

    module _ (i : ℕ) (w : Tree) (e : ℕ) (read : nested trees s d false 0 q i tt ≡ ok w e tt) (k st v : ℕ) (c : Cursor) (word : next_word s e ≡ Word k st v c) where
      valued-more : (b : Built State (List ℤ)) → Given b (λ zs y. length zs ≤ i) → eqb k 59 ≡ true
          → after_built b (λ zs y. rest s t d false f (pos (length zs)) i y)
          ≡ after_built (and_built b (λ zs y. and_built (eval (reads s t) 1 w y) (λ z y. built (zs ++ (z ∷ [])) y))) (λ zs y. rest s t d false f (pos (length zs)) c.at y)
      valued-more (bad n p y) m b = refl
      valued-more (built zs y) m b = go (eval (reads s t) 1 w y) refl
        where
          go : (r : Built State ℤ) → eval (reads s t) 1 w y ≡ r
              → rest s t d false f (pos (length zs)) i y ≡ after_built (and_built r (λ z y. built (zs ++ (z ∷ [])) y)) (λ zs y. rest s t d false f (pos (length zs)) c.at y)
          go (built z y') h =
              let o : (i < e) × (i < length s) = number_past q i w e read in
              number_more false f (pos (length zs)) i y w e (within_bracket s d q i w e read).1 k st v c word z y' h b
              ∙ ap (λ (n : ℤ). rest s t d false f n c.at y') (count_steps zs z (omega arith))
          go (bad n p y') h = number-fails false f (pos (length zs)) i y w e (within_bracket s d q i w e read).1 n p y' h

      valued-last : (b : Built State (List ℤ)) → Given b (λ zs y. length zs ≤ i) → eqb k 59 ≡ false → eqb k 93 ≡ true
          → after_built b (λ zs y. rest s t d false f (pos (length zs)) i y)
          ≡ after_built (and_built b (λ zs y. and_built (eval (reads s t) 1 w y) (λ z y. built (zs ++ (z ∷ [])) y))) (λ zs y. ok (pos (length zs)) c.at y)
      valued-last (bad n p y) m a b = refl
      valued-last (built zs y) m a b = go (eval (reads s t) 1 w y) refl
        where
          go : (r : Built State ℤ) → eval (reads s t) 1 w y ≡ r
              → rest s t d false f (pos (length zs)) i y ≡ after_built (and_built r (λ z y. built (zs ++ (z ∷ [])) y)) (λ zs y. ok (pos (length zs)) c.at y)
          go (built z y') h =
              let o : (i < e) × (i < length s) = number_past q i w e read in
              number_last false f (pos (length zs)) i y w e (within_bracket s d q i w e read).1 k st v c word z y' h a b
              ∙ ap (λ (n : ℤ). ok n c.at y') (count_steps zs z (omega arith))
          go (bad n p y') h = number-fails false f (pos (length zs)) i y w e (within_bracket s d q i w e read).1 n p y' h

      valued-few : (b : Built State (List ℤ)) → Given b (λ zs y. length zs ≤ i) → eqb k 59 ≡ true
          → Given (and_built b (λ zs y. and_built (eval (reads s t) 1 w y) (λ z y. built (zs ++ (z ∷ [])) y))) (λ zs y. length zs ≤ c.at)
      valued-few (bad n p y) m b = tt
      valued-few (built zs y) m b = go (eval (reads s t) 1 w y)
        where
          go : (r : Built State ℤ) → Given (and_built r (λ z y. built (zs ++ (z ∷ [])) y)) (λ zs y. length zs ≤ c.at)
          go (built z y') =
              let o : (i < e) × (i < length s) = number_past q i w e read in
              let p : e < c.at = further e k 59 st v c word b (λ z. omega arith) in
              let n : length (zs ++ (z ∷ [])) ≡ length zs + 1 = count_next zs z in
              omega arith
          go (bad n p y') = tt

    numbers-counted : When Counted (numbers trees tree_forms s d q at tt)
    unfolding Count Counted numbers treeNumber values_in
    numbers-counted =
        when_repeat Count Counted (treeNumber trees tree_forms s d q) (λ l i m.
        when_t_then Count Counted (nested trees s d false 0 q i tt) _ (λ w e h.
        when_t_word s Count Counted e _ (λ k st v c g.
        when_t_pick Count Counted (eqb k 59) (more (and_number l w) c.at tt) _
        (λ b. (m.0 ∙ valued-more i w e h k st v c g (values_in s t l x) m.1 b, valued-few i w e h k st v c g (values_in s t l x) m.1 b)) (λ a.
        when_t_pick Count Counted (eqb k 93) (last (ok (and_number l w) c.at tt)) (last (no 2 st tt))
        (λ b. m.0 ∙ valued-last i w e h k st v c g (values_in s t l x) m.1 a b) (λ b. tt)))))
        (suc (length s)) no_numbers at (start, le-start)
      where
        start : numbers_of s t d false f at x ≡ rest s t d false f (pos 0) at x
        start = unfold numbers_of in refl

        le-start : 0 ≤ at
        le-start = omega arith

    -- and where they are as many as the elements, they are given as they are read again
    Give : Numbers → ℕ → Type 0
    Give l i =
        Given (values_in s t l x) (λ zs y.
        (length zs ≤ i) × (numbers_of s t d true f at y ≡ rest s t d true f (pos (length zs)) i (given_from y.0 f zs, y.1)))

    Gave : Numbers → ℕ → Type 0
    Gave l e = Given (values_in s t l x) (λ zs y. settled (numbers_of s t d true f at y) ≡ ok tt e (given_from y.0 f zs, y.1))

    module _ (i : ℕ) (w : Tree) (e : ℕ) (read : nested trees s d false 0 q i tt ≡ ok w e tt) (k st v : ℕ) (c : Cursor) (word : next_word s e ≡ Word k st v c) where
      given-more : (b : Built State (List ℤ))
          → Given b (λ zs y. (length zs ≤ i) × (numbers_of s t d true f at y ≡ rest s t d true f (pos (length zs)) i (given_from y.0 f zs, y.1))) → eqb k 59 ≡ true
          → Given (and_built b (λ zs y. and_built (eval (reads s t) 1 w y) (λ z y. built (zs ++ (z ∷ [])) y)))
          (λ zs y. (length zs ≤ c.at) × (numbers_of s t d true f at y ≡ rest s t d true f (pos (length zs)) c.at (given_from y.0 f zs, y.1)))
      given-more (bad n p y) m b = tt
      given-more (built zs y) m b = go (quiet_eval s t w 1 refl).0 (quiet_eval s t w 1 refl).1
        where
          After : Built State ℤ → Type 0
          After r =
              Given (and_built r (λ z y. built (zs ++ (z ∷ [])) y))
              (λ zs y. (length zs ≤ c.at) × (numbers_of s t d true f at y ≡ rest s t d true f (pos (length zs)) c.at (given_from y.0 f zs, y.1)))

          go : (a : Known ℤ) → ((x : State) → eval (reads s t) 1 w x ≡ stated a x) → After (eval (reads s t) 1 w y)
          go (gave z) h =
              let o : (i < e) × (i < length s) = number_past q i w e read in
              let p : e < c.at = further e k 59 st v c word b (λ z. omega arith) in
              let n : length (zs ++ (z ∷ [])) ≡ length zs + 1 = count_next zs z in
              let y₂ : State = (given_from y.0 f zs, y.1) in
              subst After (sym (h y)) (
                omega arith,
                m.1 ∙ number_more true f (pos (length zs)) i y₂ w e (within_bracket s d q i w e read).1 k st v c word z y₂ (h y₂) b
                    ∙ ap (λ (n : ℤ). rest s t d true f n c.at (positioned_in (given_from y.0 f zs) (f + length zs) z, y.1)) (count_steps zs z (omega arith))
                    ∙ ap (λ (l : List ℕ). rest s t d true f (pos (length (zs ++ (z ∷ [])))) c.at (l, y.1)) (sym (given_next y.0 f zs z)),
              )
          go (failed n p) h = subst After (sym (h y)) tt

      given-last : (b : Built State (List ℤ))
          → Given b (λ zs y. (length zs ≤ i) × (numbers_of s t d true f at y ≡ rest s t d true f (pos (length zs)) i (given_from y.0 f zs, y.1)))
          → eqb k 59 ≡ false → eqb k 93 ≡ true
          → Given (and_built b (λ zs y. and_built (eval (reads s t) 1 w y) (λ z y. built (zs ++ (z ∷ [])) y)))
          (λ zs y. settled (numbers_of s t d true f at y) ≡ ok tt c.at (given_from y.0 f zs, y.1))
      given-last (bad n p y) m a b = tt
      given-last (built zs y) m a b = go (quiet_eval s t w 1 refl).0 (quiet_eval s t w 1 refl).1
        where
          After : Built State ℤ → Type 0
          After r =
              Given (and_built r (λ z y. built (zs ++ (z ∷ [])) y)) (λ zs y. settled (numbers_of s t d true f at y) ≡ ok tt c.at (given_from y.0 f zs, y.1))

          go : (a : Known ℤ) → ((x : State) → eval (reads s t) 1 w x ≡ stated a x) → After (eval (reads s t) 1 w y)
          go (gave z) h =
              let y₂ : State = (given_from y.0 f zs, y.1) in
              subst After (sym (h y))
              (ap settled (m.1 ∙ number_last true f (pos (length zs)) i y₂ w e (within_bracket s d q i w e read).1 k st v c word z y₂ (h y₂) a b)
              ∙ ap (λ (l : List ℕ). ok tt c.at (l, y.1)) (sym (given_next y.0 f zs z)))
          go (failed n p) h = subst After (sym (h y)) tt

    numbers-given : When Gave (numbers trees tree_forms s d q at tt)
    unfolding Give Gave numbers treeNumber values_in given_from
    numbers-given =
        when_repeat Give Gave (treeNumber trees tree_forms s d q) (λ l i m.
        when_t_then Give Gave (nested trees s d false 0 q i tt) _ (λ w e h.
        when_t_word s Give Gave e _ (λ k st v c g.
        when_t_pick Give Gave (eqb k 59) (more (and_number l w) c.at tt) _
        (λ b. given-more i w e h k st v c g (values_in s t l x) m b) (λ a.
        when_t_pick Give Gave (eqb k 93) (last (ok (and_number l w) c.at tt)) (last (no 2 st tt))
        (λ b. given-last i w e h k st v c g (values_in s t l x) m a b) (λ b. tt)))))
        (suc (length s)) no_numbers at (le-start, start)
      where
        start : numbers_of s t d true f at x ≡ rest s t d true f (pos 0) at x
        start = unfold numbers_of in refl

        le-start : 0 ≤ at
        le-start = omega arith

    -- a position with a list, for n elements from f on
    list-is : (n : ℕ) (l : Numbers) (e : ℕ) → numbers trees tree_forms s d q at tt ≡ ok l e tt
        → settled (list_of s t d f n at x)
        ≡ built_at e (and_built (values_in s t l x) (λ zs y.
        built tt (pick (eqb (length zs) n) (given_from y.0 f zs) (miscounted_from y.0 f (pick (eqb n 0) 1 n)), y.1)))
    unfolding list_of Counted Gave
    list-is n l e r =
        ap (λ (o : Outcome State ℤ). settled (and_then o (counted_of s t d f n at))) (when_is Counted (numbers trees tree_forms s d q at tt) l e r numbers-counted)
        ∙ go (values_in s t l x) (when_is Gave (numbers trees tree_forms s d q at tt) l e r numbers-given)
      where
        choice : (zs : List ℤ) (y : State) → settled (numbers_of s t d true f at y) ≡ ok tt e (given_from y.0 f zs, y.1) → (b : Bool)
            → settled (pick b (numbers_of s t d true f at y) (ok (pos 0) e (miscounted_from y.0 f (pick (eqb n 0) 1 n), y.1)))
            ≡ ok tt e (pick b (given_from y.0 f zs) (miscounted_from y.0 f (pick (eqb n 0) 1 n)), y.1)
        choice zs y h true = h
        choice zs y h false = refl

        go : (b : Built State (List ℤ)) → Given b (λ zs y. settled (numbers_of s t d true f at y) ≡ ok tt e (given_from y.0 f zs, y.1))
            → settled (and_then (after_built b (λ zs y. ok (pos (length zs)) e y)) (counted_of s t d f n at))
            ≡ built_at e (and_built b (λ zs y. built tt (pick (eqb (length zs) n) (given_from y.0 f zs) (miscounted_from y.0 f (pick (eqb n 0) 1 n)), y.1)))
        go (built zs y) h = choice zs y h (eqb (length zs) n)
        go (bad k p y) h = refl

  -- a position with one number
  one-is : (f n at : ℕ) (x : State) (w : Tree) (e : ℕ) → parsed s d at ≡ ok w e tt
      → settled (one_of s t d f n at x)
      ≡ built_at e (and_built (eval (reads s t) 1 w x) (λ z y. built tt (pick (eqb n 0) (positioned_in y.0 f z) (miscounted_from y.0 f n), y.1)))
  unfolding one_of
  one-is f n at x w e q = rw (read_is 1 at x w e q) (go (eval (reads s t) 1 w x))
    where
      go : (b : Built State ℤ)
          → settled (and_then (built_at e b) (λ z e y. ok (pos 0) e (pick (eqb n 0) (positioned_in y.0 f z) (miscounted_from y.0 f n), y.1)))
          ≡ built_at e (and_built b (λ z y. built tt (pick (eqb n 0) (positioned_in y.0 f z) (miscounted_from y.0 f n), y.1)))
      go (built z y) = refl
      go (bad k p y) = refl

  -- an assignment behind its `:=`
  assign-is : (k at : ℕ) (x : State) (w : Tree) (e : ℕ) → parsed s d at ≡ ok w e tt
      → settled (assignment_of s t d k at x) ≡ built_at e (and_built (eval (reads s t) 2 w x) (λ u y. built tt (assigned_in y.0 k x.1 y.1, y.1)))
  unfolding assignment_of
  assign-is k at x w e q = rw (read_is 2 at x w e q) (go (eval (reads s t) 2 w x))
    where
      go : (b : Built State ℤ)
          → settled (and_then (built_at e b) (λ v e y. ok (pos 0) e (assigned_in y.0 k x.1 y.1, y.1)))
          ≡ built_at e (and_built b (λ u y. built tt (assigned_in y.0 k x.1 y.1, y.1)))
      go (built z y) = refl
      go (bad k p y) = refl

  -- ---- what stands behind a designator

  module _ (b : Built State ℤ) (e₁ k p v : ℕ) (c : Cursor) (word : next_word s e₁ ≡ Word k p v c) (x : State) where
    behind-assign : (w : Tree) (e : ℕ) → eqb k 189 ≡ true → parsed s d c.at ≡ ok w e tt
        → settled (behind_of s t d x (target_on (built_at e₁ b)))
        ≡ built_at e (on_aim (aim_on b) x (λ k n. and_built (eval (reads s t) 2 w x) (λ u y. built tt (assigned_in y.0 k x.1 y.1, y.1))))
    behind-assign w e h q = go b
      where
        go : (b : Built State ℤ)
            → settled (behind_of s t d x (target_on (built_at e₁ b)))
            ≡ built_at e (on_aim (aim_on b) x (λ k n. and_built (eval (reads s t) 2 w x) (λ u y. built tt (assigned_in y.0 k x.1 y.1, y.1))))
        go (built z y) = rw (word, h) (assign-is (get_or y.0 0 0 - 9) c.at x w e q)
        go (bad n r y) = refl

    behind-place : (e : ℕ) (f : ℕ → ℕ → Built State (Unit {0})) → eqb k 189 ≡ false → eqb k 186 ≡ true
        → ((i n : ℕ) → settled (position_of s t d i n c.at x) ≡ built_at e (f i n))
        → settled (behind_of s t d x (target_on (built_at e₁ b))) ≡ built_at e (on_aim (aim_on b) x f)
    behind-place e f h h' q = go b
      where
        go : (b : Built State ℤ) → settled (behind_of s t d x (target_on (built_at e₁ b))) ≡ built_at e (on_aim (aim_on b) x f)
        go (built z y) = rw (word, h, h') (q (get_or y.0 0 0 - 9) 0)
        go (bad n r y) = refl

  whole-place : (st at : ℕ) (x : State) (m : Meaning) (e : ℕ) (f : ℕ → ℕ → Built State (Unit {0}))
      → ((i n : ℕ) → settled (position_of s t d i n at x) ≡ built_at e (f i n)) → settled (placed_of s t d st at x m) ≡ built_at e (on_aim (whole_on st m) x f)
  whole-place st at x nothing e f q = refl
  whole-place st at x (valued z) e f q = refl
  whole-place st at x (signal i n) e f q = q i n

  -- a simple statement is counted first
  counts : (f : State → Built State (Unit {0})) (st e₀ e : ℕ) (x : State) → ((y : State) → settled (act_of s t d st e₀ y) ≡ built_at e (f y))
      → settled (simple_of s t d st e₀ x) ≡ built_at e (counted st f x)
  unfolding simple_of counted
  counts f st e₀ e x h = go (allows x.0 used_at 4096)
    where
      go : (b : Bool)
          → settled (pick b (act_of s t d st e₀ (one_more x.0 used_at 4096, x.1)) (no 6 st x))
          ≡ built_at e (pick b (f (one_more x.0 used_at 4096, x.1)) (bad 6 st x))
      go true = h (one_more x.0 used_at 4096, x.1)
      go false = refl

  module _ (small : length s ≤ 65535) (at st v₀ : ℕ) (c₀ : Cursor) (name : next_word s at ≡ Word 1 st v₀ c₀) where
    act-behind : (k p v : ℕ) (c : Cursor) (x : State) (w : Tree) (e : ℕ) → next_word s c₀.at ≡ Word k p v c → eqb k 186 ≡ false
        → named trees s (nested trees s d) 0 st c₀.at tt ≡ ok w e tt
        → act_of s t d st c₀.at x ≡ behind_of s t d x (target_on (built_at e (eval (reads s t) 2 w (0 ∷ [], 0))))
    unfolding act_of target_of
    act-behind k p v c x w e q b h =
        rw (q, b) (ap (λ (r : Outcome State ℤ). behind_of s t d x (target_on r)) (named_is 2 at st v₀ c₀ (0 ∷ [], 0) w e name h))

    act-whole : (k p v : ℕ) (c : Cursor) (x : State) → next_word s c₀.at ≡ Word k p v c → eqb k 186 ≡ true
        → act_of s t d st c₀.at x ≡ placed_of s t d st c.at x (meaning_of s t st c₀.at)
    unfolding act_of
    act-whole k p v c x q b = rw (q, b) refl

    module _ (w : Tree) (e₁ : ℕ) (read : named trees s (nested trees s d) 0 st c₀.at tt ≡ ok w e₁ tt) (k p v : ℕ) (c : Cursor)
        (word : next_word s e₁ ≡ Word k p v c) where
      assign-acts : (u : Tree) (e : ℕ) → eqb k 189 ≡ true → parsed s d c.at ≡ ok u e tt → (y : State)
          → settled (act_of s t d st c₀.at y) ≡ built_at e (assigned s t w u y)
      unfolding assigned target_in
      assign-acts u e h q y = go (when_is (Form s st c₀.at) (named trees s (nested trees s d) 0 st c₀.at tt) w e₁ read (named_form s d st c₀.at))
        where
          go : Form s st c₀.at w e₁ → settled (act_of s t d st c₀.at y)
              ≡ built_at e (on_aim (aim_on (eval (reads s t) 2 w (0 ∷ [], 0))) y (λ k n. and_built (eval (reads s t) 2 u y) (λ z x. built tt (assigned_in x.0 k y.1 x.1, x.1))))
          go (alone i j) =
              ap settled (act-behind k p v c y w e₁ (subst (λ (i : ℕ). next_word s i ≡ Word k p v c) j word) (no_position k 189 h refl) read)
              ∙ behind-assign (eval (reads s t) 2 w (0 ∷ [], 0)) e₁ k p v c word y u e h q
          go (indexed k' p' v' c' i j l) =
              ap settled (act-behind k' p' v' c' y w e₁ i j read)
              ∙ behind-assign (eval (reads s t) 2 w (0 ∷ [], 0)) e₁ k p v c word y u e h q

      place-acts : (e : ℕ) (f : ℕ → ℕ → Built State (Unit {0})) → eqb k 189 ≡ false → eqb k 186 ≡ true → (y : State)
          → ((i n : ℕ) → settled (position_of s t d i n c.at y) ≡ built_at e (f i n))
          → settled (act_of s t d st c₀.at y) ≡ built_at e (on_aim (site_in s t w) y f)
      unfolding site_in target_in
      place-acts e f h h' y q = go (when_is (Form s st c₀.at) (named trees s (nested trees s d) 0 st c₀.at tt) w e₁ read (named_form s d st c₀.at))
        where
          go : Form s st c₀.at w e₁ → settled (act_of s t d st c₀.at y)
              ≡ built_at e (on_aim (on_plain w (λ st e. whole_on st (meaning_of s t st e)) (aim_on (eval (reads s t) 2 w (0 ∷ [], 0)))) y f)
          go (alone i j) =
              ap settled (act-whole k p v c y (subst (λ (i : ℕ). next_word s i ≡ Word k p v c) j word) h')
              ∙ whole-place st c.at y (meaning_of s t st c₀.at) e f q
              ∙ ap (λ (w : Tree). built_at e (on_aim (on_plain w (λ st e. whole_on st (meaning_of s t st e)) (aim_on (eval (reads s t) 2 w (0 ∷ [], 0)))) y f)) (sym i)
          go (indexed k' p' v' c' i j l) =
              ap settled (act-behind k' p' v' c' y w e₁ i j read)
              ∙ behind-place (eval (reads s t) 2 w (0 ∷ [], 0)) e₁ k p v c word y e f h h' q
              ∙ ap (λ (a : Aim). built_at e (on_aim a y f)) (sym (l (λ st e. whole_on st (meaning_of s t st e)) (aim_on (eval (reads s t) 2 w (0 ∷ [], 0)))))

    -- a simple statement does what its tree says
    pub simple_is : (x : State)
        → When (λ u e. settled (simple_of s t d st c₀.at x) ≡ built_at e (carried s t u x)) (simple trees tree_forms s d st c₀.at tt)
    unfolding simple aimed positioned carried placed placed_all
    simple_is x =
        when_then Does (named trees s (nested trees s d) 0 st c₀.at tt) (aimed trees tree_forms s d st) (λ w e₁ read.
        when_word s Does e₁ _ (λ k p v c word.
        when_pick Does (eqb k 189) _ _
        (λ h. when_then Does (parsed s d c.at) _ (λ u e q.
        counts (assigned s t w u) st c₀.at e x (assign-acts w e₁ read k p v c word u e h q))) (λ h.
        when_pick Does (eqb k 186) _ (no 2 p tt)
        (λ h'. when_word s Does c.at _ (λ k₂ p₂ v₂ c₂ word₂.
        when_pick Does (eqb k₂ 91) _ _
        (λ b. when_then Does (numbers trees tree_forms s d p₂ c₂.at tt) _ (λ l e q.
        counts (placed_all s t w l) st c₀.at e x (λ y.
        place-acts w e₁ read k p v c word e (λ i n. and_built (values_in s t l y) (λ zs y.
        built tt (pick (eqb (length zs) n) (given_from y.0 i zs) (miscounted_from y.0 i (pick (eqb n 0) 1 n)), y.1))) h h' y (λ i n.
        ap settled (list_at i n c.at y k₂ p₂ v₂ c₂ word₂ b) ∙ list-is small p₂ c₂.at i y n l e q))))
        (λ b. when_then Does (parsed s d c.at) _ (λ u e q.
        counts (placed s t w u) st c₀.at e x (λ y.
        place-acts w e₁ read k p v c word e (λ i n. and_built (eval (reads s t) 1 u y) (λ z y.
        built tt (pick (eqb n 0) (positioned_in y.0 i z) (miscounted_from y.0 i n), y.1))) h h' y (λ i n.
        ap settled (one_at i n c.at y k₂ p₂ v₂ c₂ word₂ b) ∙ one-is i n c.at y u e q))))))
        (λ h. tt))))
      where
        Does : Statements → ℕ → Type 0
        Does u e = settled (simple_of s t d st c₀.at x) ≡ built_at e (carried s t u x)

        list_at : (i n at : ℕ) (y : State) (k p v : ℕ) (c : Cursor) → next_word s at ≡ Word k p v c → eqb k 91 ≡ true
            → position_of s t d i n at y ≡ list_of s t d i n c.at y
        list_at i n at y k p v c q b = unfold position_of in rw (q, b) refl

        one_at : (i n at : ℕ) (y : State) (k p v : ℕ) (c : Cursor) → next_word s at ≡ Word k p v c → eqb k 91 ≡ false
            → position_of s t d i n at y ≡ one_of s t d i n at y
        one_at i n at y k p v c q b = unfold position_of in rw (q, b) refl
