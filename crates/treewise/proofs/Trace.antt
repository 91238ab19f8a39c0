-- What a part of the grammar says of the place that it ends at, where it ends; and which words a body's END is looked for over: an expression has no
-- FOR and no END, and one that is read with some levels of nesting left is read alike with one more.
-- Assumes nothing.
use mathlib.Core.Path.{◌≡◌, refl, sym, ap, subst, ◌∙◌}
use mathlib.Core.Bool.{Bool, true, false, ◌||◌}
use mathlib.Core.List.{List}
use Prim.Native.Nat.{ℕ, zero, suc, ◌+◌, ◌-◌, ◌<◌}
use native.Mathlib.Omega.{arith}
use lib.ListN.{length}
use lib.Dec.{eqb}
use borrow.Author.Tests.{eqb-true, lt-ltb, ne_eqb}
use Rattle.basics.specs.Choice.{pick}
use Rattle.words.specs.declared.Cursor.{Cursor}
use Rattle.words.specs.Taken.{Taken}
use Rattle.words.specs.Taken.{Word, Refused}
use Rattle.words.specs.Words.{next_word}
use Rattle.grammar.specs.Outcome.{Outcome, ok, no, Turn, more, last, on_word, and_then}
use Rattle.grammar.specs.Grammar.{is_sum, is_product, index_sort, part_sort, closed, turn_with, turn_on, on_turn, turn, chain, level, part, dotted, bracketed, pointed, named, mux_third, mux_second, muxed, kept, regged, inverted, factor, term, expression, nested}
use Rattle.grammar.specs.Trees.{Tree, literal, logic, plain, hold, trees, parsed}
use Rattle.grammar.specs.Modules.{then_turn, word_turn, repeat}
use Rattle.unroll.specs.Loops.{pass_turn}
use Rattle.unroll.proofs.Laws.{passing, pass_more, pass_last}

-- where a part is read, P holds of it and the place past it
abbrev pub When : {A : Type 0} → (A → ℕ → Type 0) → Outcome (Unit {0}) A → Type 0
When P (ok v e u) = P v e
When P (no n p u) = Unit {0}

pub when_pick : {A : Type 0} (P : A → ℕ → Type 0) (b : Bool) (x y : Outcome (Unit {0}) A) → (b ≡ true → When P x) → (b ≡ false → When P y) → When P (pick b x y)
when_pick P true x y f g = f refl
when_pick P false x y f g = g refl

pub when_then : {A B : Type 0} (P : B → ℕ → Type 0) (r : Outcome (Unit {0}) A) (f : A → ℕ → Unit {0} → Outcome (Unit {0}) B)
    → ((v : A) (e : ℕ) → r ≡ ok v e tt → When P (f v e tt)) → When P (and_then r f)
when_then P (ok v e u) f h = h v e refl
when_then P (no n p u) f h = tt

pub when_is : {A : Type 0} (P : A → ℕ → Type 0) (r : Outcome (Unit {0}) A) (v : A) (e : ℕ) → r ≡ ok v e tt → When P r → P v e
when_is P r v e q h = subst (λ (o : Outcome (Unit {0}) _). When P o) q h

pub when_self : {A : Type 0} (P : A → ℕ → Type 0) (r : Outcome (Unit {0}) A) → ((v : A) (e : ℕ) → r ≡ ok v e tt → P v e) → When P r
when_self P (ok v e u) h = h v e refl
when_self P (no n p u) h = tt

-- the same of a turn: M holds where it goes on, P where it ends
abbrev pub WhenT : {A : Type 0} → (A → ℕ → Type 0) → (A → ℕ → Type 0) → Turn (Unit {0}) A → Type 0
WhenT M P (more v e u) = M v e
WhenT M P (last r) = When P r

pub when_t_pick : {A : Type 0} (M P : A → ℕ → Type 0) (b : Bool) (x y : Turn (Unit {0}) A) → (b ≡ true → WhenT M P x) → (b ≡ false → WhenT M P y) → WhenT M P (pick b x y)
when_t_pick M P true x y f g = f refl
when_t_pick M P false x y f g = g refl

pub when_t_then : {A B : Type 0} (M P : B → ℕ → Type 0) (r : Outcome (Unit {0}) A) (f : A → ℕ → Unit {0} → Turn (Unit {0}) B)
    → ((v : A) (e : ℕ) → r ≡ ok v e tt → WhenT M P (f v e tt)) → WhenT M P (then_turn r f)
when_t_then M P (ok v e u) f h = h v e refl
when_t_then M P (no n p u) f h = tt

pub when_on : {A : Type 0} (M P : A → ℕ → Type 0) (w : Turn (Unit {0}) A) (f : A → ℕ → Unit {0} → Outcome (Unit {0}) A) → WhenT M P w
    → ((v : A) (e : ℕ) → M v e → When P (f v e tt)) → When P (on_turn w f)
when_on M P (more v e u) f m h = h v e m
when_on M P (last r) f m h = m

-- what holds before each turn holds of them all
pub when_repeat : {A : Type 0} (M P : A → ℕ → Type 0) (turn : A → ℕ → Unit {0} → Turn (Unit {0}) A)
    → ((v : A) (at : ℕ) → M v at → WhenT M P (turn v at tt)) → (n : ℕ) (v : A) (at : ℕ) → M v at → When P (repeat turn n v at tt)
unfolding repeat
when_repeat M P turn h zero v at m = tt
when_repeat M P turn h (suc n) v at m =
    when_on M P (turn v at tt) (λ w e u. repeat turn n w e u) (h v at m) (λ w e m. when_repeat M P turn h n w e m)

-- a word that is no end, no FOR and no END
abbrev pub Calm : ℕ → Type 0
Calm k = (eqb k 0 ≡ false) × (eqb k 200 ≡ false) × (eqb k 202 ≡ false)

pub calm_of : (k m : ℕ) → Calm m → eqb k m ≡ true → Calm k
calm_of k m c e = subst Calm (sym (eqb-true k m e)) c

module _ (s : List ℕ) where
  pub when_word : {A : Type 0} (P : A → ℕ → Type 0) (at : ℕ) (f : ℕ → ℕ → ℕ → ℕ → Outcome (Unit {0}) A)
      → ((k st v : ℕ) (c : Cursor) → next_word s at ≡ Word k st v c → When P (f k st v c.at)) → When P (on_word tt (next_word s at) f)
  when_word P at f h = go (next_word s at) refl
    where
      go : (w : Taken) → next_word s at ≡ w → When P (on_word tt w f)
      go (Word k st v c) q = h k st v c q
      go (Refused n p) q = tt

  pub when_t_word : {A : Type 0} (M P : A → ℕ → Type 0) (at : ℕ) (f : ℕ → ℕ → ℕ → ℕ → Turn (Unit {0}) A)
      → ((k st v : ℕ) (c : Cursor) → next_word s at ≡ Word k st v c → WhenT M P (f k st v c.at)) → WhenT M P (word_turn tt (next_word s at) f)
  when_t_word M P at f h = go (next_word s at) refl
    where
      go : (w : Taken) → next_word s at ≡ w → WhenT M P (word_turn tt w f)
      go (Word k st v c) q = h k st v c q
      go (Refused n p) q = tt

  -- the word k stands at a place
  pub record Stands (k at e : ℕ) : Type 0 where
    pub start : ℕ
    pub value : ℕ
    pub next : Cursor
    pub taken : next_word s at ≡ Word k start value next
    pub ends : next.at ≡ e

  pub stands : (k m st v at : ℕ) (c : Cursor) → next_word s at ≡ Word k st v c → eqb k m ≡ true → Stands m at c.at
  stands k m st v at c q b = record { start = st; value = v; next = c; taken = q ∙ ap (λ (i : ℕ). Word i st v c) (eqb-true k m b); ends = refl }

  -- where the word k must stand it does
  pub when_closed : {A : Type 0} (P : A → ℕ → Type 0) (k : ℕ) (v : A) (at : ℕ) → ((e : ℕ) → Stands k at e → P v e) → When P (closed s k v at tt)
  unfolding closed
  when_closed P k v at h =
      when_word P at _ (λ k' st v' c q. when_pick P (eqb k' k) (ok v c.at tt) (no 2 st tt) (λ b. h c.at (stands k' k st v' at c q b)) (λ b. tt))

  -- ---- a body's END is looked for from word to word

  pub pass_calm : (l at k st v : ℕ) (c : Cursor) → next_word s at ≡ Word k st v c → Calm k → passing s l at ≡ passing s l c.at
  unfolding pass_turn
  pass_calm l at k st v c q m = pass_more s l l at c.at turned
    where
      turned : pass_turn s l at tt ≡ more l c.at tt
      turned = rw q (simp (m.0, m.1, m.2))

  pub pass_for : (l at e : ℕ) → l < 200 → Stands 200 at e → passing s l at ≡ passing s (l + 1) e
  unfolding pass_turn
  pass_for l at e h w = pass_more s l (l + 1) at w.next.at turned ∙ ap (λ (i : ℕ). passing s (l + 1) i) w.ends
    where
      turned : pass_turn s l at tt ≡ more (l + 1) w.next.at tt
      turned = rw w.taken (simp (lt-ltb l 200 h))

  pub pass_end : (l at e : ℕ) → Stands 202 at e → passing s (l + 1) at ≡ passing s l e
  unfolding pass_turn
  pass_end l at e w = pass_more s (l + 1) l at w.next.at turned ∙ ap (λ (i : ℕ). passing s l i) w.ends
    where
      above : eqb (l + 1) 0 ≡ false
      above = ne_eqb (l + 1) 0 (λ z. omega arith)

      back : l + 1 - 1 ≡ l
      back = omega arith

      turned : pass_turn s (l + 1) at tt ≡ more l w.next.at tt
      turned = rw w.taken (simp (above, back))

  pub pass_over : (at e : ℕ) → Stands 202 at e → passing s 0 at ≡ ok 0 e tt
  unfolding pass_turn
  pass_over at e w = pass_last s 0 at (ok 0 w.next.at tt) turned ∙ ap (λ (i : ℕ). ok 0 i tt) w.ends
    where
      turned : pass_turn s 0 at tt ≡ last (ok 0 w.next.at tt)
      turned = rw w.taken refl

  -- no FOR and no END from a place to another
  abbrev pub Steady : ℕ → ℕ → Type 0
  Steady at e = (l : ℕ) → passing s l at ≡ passing s l e

  -- ---- expressions

  abbrev Parse : Type 0
  Parse = Outcome (Unit {0}) Tree

  -- what is read from a place, without FOR and END, is also read by the second reader
  abbrev Traced : ℕ → Parse → Parse → Type 0
  Traced at r r' = When (λ t e. Steady at e × (r' ≡ ok t e tt)) r

  traced-from : (from at : ℕ) (r r' : Parse) → Steady from at → Traced at r r' → Traced from r r'
  traced-from from at (ok t e u) r' h q = ((λ l. h l ∙ q.0 l), q.1)
  traced-from from at (no n p u) r' h q = tt

  traced-then : (at : ℕ) (r r' : Parse) (f f' : Tree → ℕ → Unit {0} → Parse) → Traced at r r'
      → ((t : Tree) (e : ℕ) → Steady at e → Traced at (f t e tt) (f' t e tt)) → Traced at (and_then r f) (and_then r' f')
  traced-then at (ok t e u) r' f f' q h = subst (λ (o : Parse). Traced at (f t e tt) (and_then o f')) (sym q.1) (h t e q.0)
  traced-then at (no n p u) r' f f' q h = tt

  traced-pick : (at : ℕ) (b : Bool) (x y x' y' : Parse) → (b ≡ true → Traced at x x') → (b ≡ false → Traced at y y') → Traced at (pick b x y) (pick b x' y')
  traced-pick at true x y x' y' f g = f refl
  traced-pick at false x y x' y' f g = g refl

  traced-word : (from at : ℕ) (f f' : ℕ → ℕ → ℕ → ℕ → Parse) → Steady from at
      → ((k st v nx : ℕ) → (Calm k → Steady from nx) → Traced from (f k st v nx) (f' k st v nx))
      → Traced from (on_word tt (next_word s at) f) (on_word tt (next_word s at) f')
  traced-word from at f f' h g = go (next_word s at) refl
    where
      go : (w : Taken) → next_word s at ≡ w → Traced from (on_word tt w f) (on_word tt w f')
      go (Word k st v c) q = g k st v c.at (λ m l. h l ∙ pass_calm l at k st v c q m)
      go (Refused n p) q = tt

  traced-closed : (from k : ℕ) (t : Tree) (at : ℕ) → Calm k → Steady from at → Traced from (closed s k t at tt) (closed s k t at tt)
  unfolding closed
  traced-closed from k t at c h =
      traced-word from at _ _ h (λ k' st v nx m.
      traced-pick from (eqb k' k) (ok t nx tt) (no 2 st tt) (ok t nx tt) (no 2 st tt) (λ b. (m (calm_of k' k c b), refl)) (λ b. tt))

  abbrev TracedT : ℕ → Turn (Unit {0}) Tree → Turn (Unit {0}) Tree → Type 0
  TracedT at (more t e u) w = Steady at e × (w ≡ more t e tt)
  TracedT at (last (ok t e u)) w = Steady at e × (w ≡ last (ok t e tt))
  TracedT at (last (no n p u)) w = Unit {0}

  abbrev CalmOnes : (ℕ → Bool) → Type 0
  CalmOnes among = (k : ℕ) → among k ≡ true → Calm k

  either-calm : (a : ℕ) (f : ℕ → Bool) → Calm a → CalmOnes f → CalmOnes (λ k. eqb k a || f k)
  either-calm a f c g k e = go (eqb k a) refl e
    where
      go : (b : Bool) → eqb k a ≡ b → (b || f k) ≡ true → Calm k
      go true q e = calm_of k a c q
      go false q e = g k e

  sum-calm : CalmOnes is_sum
  sum-calm = either-calm 43 (λ k. eqb k 45) (refl, refl, refl) (λ k e. calm_of k 45 (refl, refl, refl) e)

  product-calm : CalmOnes is_product
  product-calm =
      either-calm 42 (λ k. eqb k 94 || (eqb k 203 || eqb k 204)) (refl, refl, refl)
      (either-calm 94 (λ k. eqb k 203 || eqb k 204) (refl, refl, refl)
      (either-calm 203 (λ k. eqb k 204) (refl, refl, refl) (λ k e. calm_of k 204 (refl, refl, refl) e)))

  module _ (o : ℕ) (among : ℕ → Bool) (operand operand' : ℕ → Unit {0} → Parse) (calm : CalmOnes among)
      (same : (at : ℕ) → Traced at (operand at tt) (operand' at tt)) where
    traced-with : (at e : ℕ) (t : Tree) (k st : ℕ) (r r' : Parse) → Steady at e → Traced e r r' → TracedT at (turn_with trees o t k st r) (turn_with trees o t k st r')
    traced-with at e t k st (ok w e' u) r' h q = ((λ l. h l ∙ q.0 l), ap (λ (r : Parse). turn_with trees o t k st r) q.1)
    traced-with at e t k st (no n p u) r' h q = tt

    traced-turn : (at : ℕ) (t : Tree) → TracedT at (turn trees s o among operand t at tt) (turn trees s o among operand' t at tt)
    unfolding turn
    traced-turn at t = go (next_word s at) refl
      where
        choice : (k st : ℕ) (c : Cursor) → ((l : ℕ) → Calm k → passing s l at ≡ passing s l c.at) → (b : Bool) → among k ≡ b
            → TracedT at (pick b (turn_with trees o t k st (operand c.at tt)) (last (ok t at tt))) (pick b (turn_with trees o t k st (operand' c.at tt)) (last (ok t at tt)))
        choice k st c h true e = traced-with at c.at t k st (operand c.at tt) (operand' c.at tt) (λ l. h l (calm k e)) (same c.at)
        choice k st c h false e = ((λ l. refl), refl)

        go : (w : Taken) → next_word s at ≡ w → TracedT at (turn_on trees s o among operand t at tt w) (turn_on trees s o among operand' t at tt w)
        go (Word k st v c) q = choice k st c (λ l m. pass_calm l at k st v c q m) (among k) refl
        go (Refused n p) q = tt

    traced-links : (m at : ℕ) (w w' : Turn (Unit {0}) Tree) → TracedT at w w'
        → ((t : Tree) (e : ℕ) → Traced e (chain trees s o among operand m t e tt) (chain trees s o among operand' m t e tt))
        → Traced at (on_turn w (λ t e u. chain trees s o among operand m t e u)) (on_turn w' (λ t e u. chain trees s o among operand' m t e u))
    traced-links m at (more t e u) w' q ih =
        subst (λ (w : Turn (Unit {0}) Tree). Traced at (chain trees s o among operand m t e tt) (on_turn w (λ t e u. chain trees s o among operand' m t e u))) (sym q.1)
        (traced-from at e (chain trees s o among operand m t e tt) (chain trees s o among operand' m t e tt) q.0 (ih t e))
    traced-links m at (last (ok t e u)) w' q ih = (q.0, ap (λ (w : Turn (Unit {0}) Tree). on_turn w (λ t e u. chain trees s o among operand' m t e u)) q.1)
    traced-links m at (last (no n p u)) w' q ih = tt

    traced-chain : (m : ℕ) (t : Tree) (at : ℕ) → Traced at (chain trees s o among operand m t at tt) (chain trees s o among operand' m t at tt)
    unfolding chain
    traced-chain zero t at = tt
    traced-chain (suc m) t at =
        traced-links m at (turn trees s o among operand t at tt) (turn trees s o among operand' t at tt) (traced-turn at t) (λ t e. traced-chain m t e)

    traced-level : (at : ℕ) → Traced at (level trees s o among operand at tt) (level trees s o among operand' at tt)
    unfolding level
    traced-level at =
        traced-then at (operand at tt) (operand' at tt) _ _ (same at) (λ t e h.
        traced-from at e (chain trees s o among operand (suc (length s)) t e tt) (chain trees s o among operand' (suc (length s)) t e tt) h
        (traced-chain (suc (length s)) t e))

  module _ (inner inner' : Bool → ℕ → ℕ → ℕ → Unit {0} → Parse)
      (same : (m : Bool) (o p at : ℕ) → Traced at (inner m o p at tt) (inner' m o p at tt)) where
    traced-inner : (from : ℕ) (m : Bool) (o p at : ℕ) → Steady from at → Traced from (inner m o p at tt) (inner' m o p at tt)
    traced-inner from m o p at h = traced-from from at (inner m o p at tt) (inner' m o p at tt) h (same m o p at)

    traced-part : (from o p k at : ℕ) → Calm k → Steady from at → Traced from (part trees s inner o p k at tt) (part trees s inner' o p k at tt)
    unfolding part
    traced-part from o p k at c h =
        traced-then from (inner false o p at tt) (inner' false o p at tt) (closed s k) (closed s k) (traced-inner from false o p at h) (λ t e h. traced-closed from k t e c h)

    traced-dotted : (from o at : ℕ) → Steady from at → Traced from (dotted trees s o at tt) (dotted trees s o at tt)
    unfolding dotted
    traced-dotted from o at h =
        traced-word from at _ _ h (λ k st v nx m.
        traced-pick from (eqb k 2) (ok (literal st v) nx tt) _ (ok (literal st v) nx tt) _ (λ b. (m (calm_of k 2 (refl, refl, refl) b), refl)) (λ b.
        traced-pick from (eqb k 4) (no 3 st tt) _ (no 3 st tt) _ (λ b. tt) (λ b.
        traced-pick from (eqb k 1) (ok (plain st nx) nx tt) (no 2 st tt) (ok (plain st nx) nx tt) (no 2 st tt) (λ b. (m (calm_of k 1 (refl, refl, refl) b), refl)) (λ b. tt))))

    traced-bracketed : (from o st e p at : ℕ) → Steady from at → Traced from (bracketed trees s inner o st e p at tt) (bracketed trees s inner' o st e p at tt)
    unfolding bracketed
    traced-bracketed from o st e p at h =
        traced-then from (part trees s inner (index_sort o) p 93 at tt) (part trees s inner' (index_sort o) p 93 at tt) _ _
        (traced-part from (index_sort o) p 93 at (refl, refl, refl) h) (λ t n h. (h, refl))

    traced-pointed : (from o st e p at : ℕ) → Steady from at → Traced from (pointed trees s o st e p at tt) (pointed trees s o st e p at tt)
    unfolding pointed
    traced-pointed from o st e p at h =
        traced-then from (dotted trees s (index_sort o) at tt) (dotted trees s (index_sort o) at tt) _ _ (traced-dotted from (index_sort o) at h) (λ t n h. (h, refl))

    traced-named : (from o st e : ℕ) → Steady from e → Traced from (named trees s inner o st e tt) (named trees s inner' o st e tt)
    unfolding named
    traced-named from o st e h =
        traced-word from e _ _ h (λ k p v nx m.
        traced-pick from (eqb k 91) (bracketed trees s inner o st e p nx tt) _ (bracketed trees s inner' o st e p nx tt) _
        (λ b. traced-bracketed from o st e p nx (m (calm_of k 91 (refl, refl, refl) b))) (λ b.
        traced-pick from (eqb k 46) (pointed trees s o st e p nx tt) (ok (plain st e) e tt) (pointed trees s o st e p nx tt) (ok (plain st e) e tt)
        (λ b. traced-pointed from o st e p nx (m (calm_of k 46 (refl, refl, refl) b))) (λ b. (h, refl))))

    traced-third : (from o p q : ℕ) (a b : Tree) (at : ℕ) → Steady from at → Traced from (mux_third trees s inner o p q a b at tt) (mux_third trees s inner' o p q a b at tt)
    unfolding mux_third
    traced-third from o p q a b at h =
        traced-then from (part trees s inner (part_sort o) q 41 at tt) (part trees s inner' (part_sort o) q 41 at tt) _ _
        (traced-part from (part_sort o) q 41 at (refl, refl, refl) h) (λ t e h. (h, refl))

    traced-second : (from o p q : ℕ) (a : Tree) (at : ℕ) → Steady from at → Traced from (mux_second trees s inner o p q a at tt) (mux_second trees s inner' o p q a at tt)
    unfolding mux_second
    traced-second from o p q a at h =
        traced-then from (part trees s inner (part_sort o) q 44 at tt) (part trees s inner' (part_sort o) q 44 at tt) (mux_third trees s inner o p q a) (mux_third trees s inner' o p q a)
        (traced-part from (part_sort o) q 44 at (refl, refl, refl) h) (λ t e h. traced-third from o p q a t e h)

    traced-muxed : (from o p at : ℕ) → Steady from at → Traced from (muxed trees s inner o p at tt) (muxed trees s inner' o p at tt)
    unfolding muxed
    traced-muxed from o p at h =
        traced-word from at _ _ h (λ k q v nx m.
        traced-pick from (eqb k 40) _ (no 2 q tt) _ (no 2 q tt)
        (λ b. traced-then from (part trees s inner (part_sort o) q 58 nx tt) (part trees s inner' (part_sort o) q 58 nx tt) (mux_second trees s inner o p q) (mux_second trees s inner' o p q)
        (traced-part from (part_sort o) q 58 nx (refl, refl, refl) (m (calm_of k 40 (refl, refl, refl) b))) (λ t e h. traced-second from o p q t e h)) (λ b. tt))

    traced-kept : (from o p q : ℕ) (a : Tree) (at : ℕ) → Steady from at → Traced from (kept trees s inner o p q a at tt) (kept trees s inner' o p q a at tt)
    unfolding kept
    traced-kept from o p q a at h =
        traced-word from at _ _ h (λ k st v nx m.
        traced-pick from (eqb k 41) (ok (hold p a) nx tt) _ (ok (hold p a) nx tt) _ (λ b. (m (calm_of k 41 (refl, refl, refl) b), refl)) (λ b.
        traced-pick from (eqb k 44) _ (no 2 st tt) _ (no 2 st tt)
        (λ b. traced-then from (part trees s inner (part_sort o) q 41 nx tt) (part trees s inner' (part_sort o) q 41 nx tt) _ _
        (traced-part from (part_sort o) q 41 nx (refl, refl, refl) (m (calm_of k 44 (refl, refl, refl) b))) (λ t e h. (h, refl))) (λ b. tt)))

    traced-regged : (from o p at : ℕ) → Steady from at → Traced from (regged trees s inner o p at tt) (regged trees s inner' o p at tt)
    unfolding regged
    traced-regged from o p at h =
        traced-word from at _ _ h (λ k q v nx m.
        traced-pick from (eqb k 40) _ (no 2 q tt) _ (no 2 q tt)
        (λ b. traced-then from (inner false (part_sort o) q nx tt) (inner' false (part_sort o) q nx tt) (kept trees s inner o p q) (kept trees s inner' o p q)
        (traced-inner from false (part_sort o) q nx (m (calm_of k 40 (refl, refl, refl) b))) (λ t e h. traced-kept from o p q t e h)) (λ b. tt))

    traced-inverted : (from o p at : ℕ) → Steady from at → Traced from (inverted trees s inner o p at tt) (inverted trees s inner' o p at tt)
    unfolding inverted
    traced-inverted from o p at h =
        traced-then from (inner true o p at tt) (inner' true o p at tt) _ _ (traced-inner from true o p at h) (λ t e h. (h, refl))

    traced-factor : (o at : ℕ) → Traced at (factor trees s inner o at tt) (factor trees s inner' o at tt)
    unfolding factor
    traced-factor o at =
        traced-word at at _ _ (λ l. refl) (λ k st v nx m.
        traced-pick at (eqb k 2) (ok (literal st v) nx tt) _ (ok (literal st v) nx tt) _ (λ b. (m (calm_of k 2 (refl, refl, refl) b), refl)) (λ b.
        traced-pick at (eqb k 4) (no 3 st tt) _ (no 3 st tt) _ (λ b. tt) (λ b.
        traced-pick at (eqb k 3) (ok (logic st v) nx tt) _ (ok (logic st v) nx tt) _ (λ b. (m (calm_of k 3 (refl, refl, refl) b), refl)) (λ b.
        traced-pick at (eqb k 1) (named trees s inner o st nx tt) _ (named trees s inner' o st nx tt) _
        (λ b. traced-named at o st nx (m (calm_of k 1 (refl, refl, refl) b))) (λ b.
        traced-pick at (eqb k 40) (part trees s inner o st 41 nx tt) _ (part trees s inner' o st 41 nx tt) _
        (λ b. traced-part at o st 41 nx (refl, refl, refl) (m (calm_of k 40 (refl, refl, refl) b))) (λ b.
        traced-pick at (eqb k 126) (inverted trees s inner o st nx tt) _ (inverted trees s inner' o st nx tt) _
        (λ b. traced-inverted at o st nx (m (calm_of k 126 (refl, refl, refl) b))) (λ b.
        traced-pick at (eqb k 205) (muxed trees s inner o st nx tt) _ (muxed trees s inner' o st nx tt) _
        (λ b. traced-muxed at o st nx (m (calm_of k 205 (refl, refl, refl) b))) (λ b.
        traced-pick at (eqb k 206) (regged trees s inner o st nx tt) (no 2 st tt) (regged trees s inner' o st nx tt) (no 2 st tt)
        (λ b. traced-regged at o st nx (m (calm_of k 206 (refl, refl, refl) b))) (λ b. tt)))))))))

    traced-term : (o at : ℕ) → Traced at (term trees s inner o at tt) (term trees s inner' o at tt)
    unfolding term
    traced-term o = traced-level o is_product (factor trees s inner o) (factor trees s inner' o) product-calm (traced-factor o)

    traced-expression : (o at : ℕ) → Traced at (expression trees s inner o at tt) (expression trees s inner' o at tt)
    unfolding expression
    traced-expression o = traced-level o is_sum (term trees s inner o) (term trees s inner' o) sum-calm (traced-term o)

  traced-nested : (d : ℕ) (m : Bool) (o p at : ℕ) → Traced at (nested trees s d m o p at tt) (nested trees s (suc d) m o p at tt)
  unfolding nested
  traced-nested zero m o p at = tt
  traced-nested (suc d) true o p at = traced-factor (nested trees s d) (nested trees s (suc d)) (traced-nested d) o at
  traced-nested (suc d) false o p at = traced-expression (nested trees s d) (nested trees s (suc d)) (traced-nested d) o at

  -- an expression has no FOR and no END
  pub steady_expression : (d at : ℕ) (t : Tree) (e : ℕ) → parsed s d at ≡ ok t e tt → Steady at e
  steady_expression d at t e q =
      (when_is (λ t e. Steady at e × (expression trees s (nested trees s (suc d)) 0 at tt ≡ ok t e tt)) (parsed s d at) t e q
      (traced-expression (nested trees s d) (nested trees s (suc d)) (traced-nested d) 0 at)).0

  -- and none has a designator, from its name's end on
  pub steady_named : (d st at : ℕ) (t : Tree) (e : ℕ) → named trees s (nested trees s d) 0 st at tt ≡ ok t e tt → Steady at e
  steady_named d st at t e q =
      (when_is (λ t e. Steady at e × (named trees s (nested trees s (suc d)) 0 st at tt ≡ ok t e tt)) (named trees s (nested trees s d) 0 st at tt) t e q
      (traced-named (nested trees s d) (nested trees s (suc d)) (traced-nested d) at 0 st at (λ l. refl))).0

  -- what stands within a bracket is an expression, which is also read with the bracket's own level left
  pub within_bracket : (d p at : ℕ) (t : Tree) (e : ℕ) → nested trees s d false 0 p at tt ≡ ok t e tt → Steady at e × (parsed s d at ≡ ok t e tt)
  unfolding nested
  within_bracket d p at t e q = when_is (λ t e. Steady at e × (parsed s d at ≡ ok t e tt)) (nested trees s d false 0 p at tt) t e q (go d)
    where
      go : (d : ℕ) → When (λ t e. Steady at e × (parsed s d at ≡ ok t e tt)) (nested trees s d false 0 p at tt)
      go zero = tt
      go (suc d) = traced-expression (nested trees s d) (nested trees s (suc d)) (traced-nested d) 0 at
