-- Statements, unrolled where they stand in the text, do what their tree says: the body of a FOR, read again for each round, is its subtree each time.
-- Assumes nothing.
use mathlib.Core.Path.{◌≡◌, refl, ap, ◌∙◌}
use mathlib.Core.Bool.{Bool, true, false}
use mathlib.Core.List.{List}
use Prim.Native.Nat.{ℕ, zero, suc, ◌<◌, ◌≤◌}
use native.Mathlib.Omega.{arith}
use lib.ListN.{length}
use lib.Dec.{eqb}
use lib.IntN.{ℤ, pos}
use borrow.Author.Tests.{eqb-true, eq-eqb}
use Rattle.basics.specs.Choice.{pick}
use Rattle.words.specs.declared.Cursor.{Cursor}
use Rattle.words.specs.Taken.{Word}
use Rattle.words.specs.Words.{next_word}
use Rattle.integers.specs.Integers.{nextℤ, rounds_of}
use Rattle.grammar.specs.Outcome.{Outcome, ok, no, Built, built, bad, Turn, more, last, and_then, built_at, after_built, and_built}
use Rattle.grammar.specs.Grammar.{closed}
use Rattle.grammar.specs.Trees.{Tree, trees, eval, parsed}
use Rattle.grammar.specs.Modules.{must, then_turn, up_to, given, simple, statement, statement_turn as treeTurn, statements, looped, ranged, for_from as treeForFrom, for_of as tree_for, sequence}
use Rattle.grammar.specs.Forms.{Statements, nothing, and_statement, loop, tree_forms}
use Rattle.judging.specs.Reading.{State, reads}
use Rattle.parts.specs.Parts.{used_at, allows, one_more}
use Rattle.simple.specs.Statements.{simple_of}
use Rattle.unroll.specs.Loops.{with_loop, passed_of, range, upper_of, lower_of, range_of, header_of, round_of, turns_of, loop_of, for_from, again, statement_turn, statements_with, for_of, statements_of}
use Rattle.unroll.proofs.Laws.{rest, statements_more, statements_last}
use Rattle.treewise.specs.Unrolled.{counted, rounds_in, carried}
use Rattle.treewise.proofs.Trace.{When, when_pick, when_then, when_is, when_self, when_t_pick, when_t_then, when_repeat, when_word, when_t_word, when_closed, Stands}
use Rattle.treewise.proofs.Balance.{body_passed}
use Rattle.treewise.proofs.Acts.{settled, read_is, simple_is}

-- the word k where it must stand
pub closed_is : {S A : Type 0} (s : List ℕ) (k : ℕ) (v : A) (at e : ℕ) (x : S) → Stands s k at e → closed s k v at x ≡ ok v e x
unfolding closed
closed_is s k v at e x w = rw (w.taken, eq-eqb k k refl) (ap (λ (i : ℕ). ok v i x) w.ends)

-- a run that goes on, without the value of what came before
abbrev again_on : Outcome State (Unit {0}) → Turn State ℤ
again_on o = then_turn o (λ v e y. more (pos 0) e y)

pub after_then : {A B C : Type 0} (b : Built State A) (f : A → State → Built State B) (g : B → State → Outcome State C)
    → after_built b (λ v y. after_built (f v y) g) ≡ after_built (and_built b f) g
after_then (built v y) f g = refl
after_then (bad n p y) f g = refl

pub after_alike : {A B : Type 0} (b : Built State A) (f g : A → State → Outcome State B) → ((v : A) (y : State) → f v y ≡ g v y) → after_built b f ≡ after_built b g
after_alike (built v y) f g h = h v y
after_alike (bad n p y) f g h = refl

settled_after : (b : Built State (Unit {0})) (v : ℤ) (e : ℕ) → settled (after_built b (λ u z. ok v e z)) ≡ built_at e b
settled_after (built u y) v e = refl
settled_after (bad n p y) v e = refl

module _ (s : List ℕ) where
  -- an expression and the word k behind it
  abbrev pub Ends : ℕ → ℕ → ℕ → Tree → ℕ → Type 0
  Ends d k at w e = (m : ℕ) × (parsed s d at ≡ ok w m tt) × Stands s k m e

  pub up_to_ends : (d k at : ℕ) → When (Ends d k at) (up_to trees tree_forms s 0 d k at tt)
  unfolding up_to
  up_to_ends d k at = when_then (Ends d k at) (parsed s d at) (closed s k) (λ w m q. when_closed s (Ends d k at) k w m (λ e o. (m, q, o)))

  abbrev pub GivenEnds : ℕ → ℕ → ℕ → Tree → ℕ → Type 0
  GivenEnds d k at w e = (j : ℕ) × Stands s 189 at j × Ends d k j w e

  pub given_ends : (d k at : ℕ) → When (GivenEnds d k at) (given trees tree_forms s 0 d k at tt)
  unfolding given
  given_ends d k at =
      when_then (GivenEnds d k at) (must s 189 at tt) _ (λ u j q.
      when_self (GivenEnds d k at) (up_to trees tree_forms s 0 d k j tt) (λ w e h. (
        j,
        when_is (λ u j. Stands s 189 at j) (must s 189 at tt) tt j q (when_closed s (λ u j. Stands s 189 at j) 189 tt at (λ e o. o)),
        when_is (Ends d k j) (up_to trees tree_forms s 0 d k j tt) w e h (up_to_ends d k j),
      )))

module _ (s : List ℕ) (small : length s ≤ 65535) where
  -- ---- statements, of which the FOR do what their trees say

  module _ (d : ℕ) (t : List ℕ)
      (loops : (p at : ℕ) (x : State) → When (λ u e. settled (for_of s d t p at x) ≡ built_at e (carried s t u x)) (tree_for trees tree_forms s d p at tt)) where
    again-settled : (r : Outcome State ℤ) → again s t d (for_of s d t) r ≡ again_on (settled r)
    again-settled (ok v e y) = refl
    again-settled (no n p y) = refl

    run_on : (i e : ℕ) (y : State) (r : Outcome State ℤ) (b : Built State (Unit {0})) → statement_turn s t d (for_of s d t) (pos 0) i y ≡ again s t d (for_of s d t) r
        → settled r ≡ built_at e b → rest s t d i y ≡ after_built b (λ u z. rest s t d e z)
    run_on i e y r b q h = go b (q ∙ again-settled r ∙ ap again_on h)
      where
        go : (b : Built State (Unit {0})) → statement_turn s t d (for_of s d t) (pos 0) i y ≡ again_on (built_at e b) → rest s t d i y ≡ after_built b (λ u z. rest s t d e z)
        go (built u z) q = statements_more s t d (pos 0) i e y z q
        go (bad n p z) q = statements_last s t d i y (no n p z) q

    -- one statement, possibly empty
    Step : ℕ → Statements → ℕ → Type 0
    Step i u e = (y : State) → rest s t d i y ≡ after_built (carried s t u y) (λ v z. rest s t d e z)

    statement-runs : (i : ℕ) → When (Step i) (statement trees tree_forms s d (tree_for trees tree_forms s d) i tt)
    unfolding Step statement carried
    statement-runs i =
        when_word s (Step i) i _ (λ k st v c q.
        when_pick (Step i) (eqb k 1) (simple trees tree_forms s d st c.at tt) _
        (λ b. when_self (Step i) (simple trees tree_forms s d st c.at tt) (λ u e h y.
        run_on i e y (simple_of s t d st c.at y) (carried s t u y) (unfold statement_turn in rw (q, b) refl)
        (when_is (λ u e. settled (simple_of s t d st c.at y) ≡ built_at e (carried s t u y)) (simple trees tree_forms s d st c.at tt) u e h
        (simple_is s t d small i st v c (q ∙ ap (λ (n : ℕ). Word n st v c) (eqb-true k 1 b)) y)))) (λ a.
        when_pick (Step i) (eqb k 200) (tree_for trees tree_forms s d st c.at tt) (ok nothing i tt)
        (λ b. when_self (Step i) (tree_for trees tree_forms s d st c.at tt) (λ u e h y.
        run_on i e y (for_of s d t st c.at y) (carried s t u y) (unfold statement_turn in rw (q, a, b) refl)
        (when_is (λ u e. settled (for_of s d t st c.at y) ≡ built_at e (carried s t u y)) (tree_for trees tree_forms s d st c.at tt) u e h (loops st c.at y))))
        (λ b y. refl)))

    over-semicolon : (e k st v : ℕ) (c : Cursor) (z : State) → next_word s e ≡ Word k st v c → eqb k 59 ≡ true → rest s t d e z ≡ rest s t d c.at z
    over-semicolon e k st v c z q b = statements_more s t d (pos 0) e c.at z z turned
      where
        turned : statement_turn s t d (for_of s d t) (pos 0) e z ≡ more (pos 0) c.at z
        turned = unfold statement_turn in rw (q, eqb-true k 59 b) refl

    at-end : (e n : ℕ) (z : State) → Stands s 202 e n → rest s t d e z ≡ ok (pos 0) e z
    at-end e n z w = statements_last s t d e z (ok (pos 0) e z) turned
      where
        turned : statement_turn s t d (for_of s d t) (pos 0) e z ≡ last (ok (pos 0) e z)
        turned = unfold statement_turn in rw w.taken refl

    -- statements from a place and a state
    module _ (at : ℕ) (x : State) where
      Runs : Statements → ℕ → Type 0
      Runs u i = rest s t d at x ≡ after_built (carried s t u x) (λ v y. rest s t d i y)

      Ran : Statements → ℕ → Type 0
      Ran u e = (n : ℕ) → Stands s 202 e n → rest s t d at x ≡ after_built (carried s t u x) (λ v y. ok (pos 0) e y)

      statements-run : When Ran (statements trees tree_forms s d (tree_for trees tree_forms s d) at tt)
      unfolding Runs Ran Step statements treeTurn carried
      statements-run =
          when_repeat Runs Ran (treeTurn trees tree_forms s d (tree_for trees tree_forms s d)) (λ u i m.
          when_t_then Runs Ran (statement trees tree_forms s d (tree_for trees tree_forms s d) i tt) _ (λ w e h.
          let m₂ : Runs (and_statement u w) e =
          m ∙ after_alike (carried s t u x) (λ v y. rest s t d i y) (λ v y. after_built (carried s t w y) (λ v z. rest s t d e z)) (λ v y.
          when_is (Step i) (statement trees tree_forms s d (tree_for trees tree_forms s d) i tt) w e h (statement-runs i) y)
          ∙ after_then (carried s t u x) (λ v y. carried s t w y) (λ v z. rest s t d e z) in
          when_t_word s Runs Ran e _ (λ k st v c g.
          when_t_pick Runs Ran (eqb k 59) (more (and_statement u w) c.at tt) (last (ok (and_statement u w) e tt))
          (λ b. m₂ ∙ after_alike (carried s t (and_statement u w) x) (λ v y. rest s t d e y) (λ v y. rest s t d c.at y) (λ o y. over-semicolon e k st v c y g b))
          (λ b n o. m₂ ∙ after_alike (carried s t (and_statement u w) x) (λ v y. rest s t d e y) (λ v y. ok (pos 0) e y) (λ v y. at-end e n y o)))))
          (suc (length s)) nothing at refl

  -- ---- a FOR, whose body does what its tree says

  module _ (d : ℕ) (t : List ℕ) (p st e q n r : ℕ) (u : Statements)
      (body : (l : List ℕ) (y : State) → settled (statements_of s d l q y) ≡ built_at n (carried s l u y)) where
    round_is : (z : ℤ) (x : State)
        → settled (round_of s t (λ l q y. statements_with s l d (for_of s d l) q y) p st e q z x) ≡ built_at n (counted p (carried s (with_loop t st e z) u) x)
    unfolding round_of counted
    round_is z x = go (allows x.0 used_at 4096)
      where
        go : (b : Bool)
            → settled (pick b (statements_of s d (with_loop t st e z) q (one_more x.0 used_at 4096, x.1)) (no 6 p x))
            ≡ built_at n (pick b (carried s (with_loop t st e z) u (one_more x.0 used_at 4096, x.1)) (bad 6 p x))
        go true = body (with_loop t st e z) (one_more x.0 used_at 4096, x.1)
        go false = refl

    settled-then : (o : Outcome State ℤ) (f : State → Outcome State ℤ) → settled (and_then o (λ v at y. f y)) ≡ and_then (settled o) (λ v at y. settled (f y))
    settled-then (ok v at y) f = refl
    settled-then (no k w y) f = refl

    turns-are : (m : ℕ) (z : ℤ) (x : State)
        → settled (turns_of s t (λ l q y. statements_with s l d (for_of s d l) q y) p st e q r m z x) ≡ built_at r (rounds_in (λ l y. carried s l u y) t p st e m z x)
    unfolding turns_of rounds_in
    turns-are zero z x = refl
    turns-are (suc m) z x =
        settled-then (round_of s t (λ l q y. statements_with s l d (for_of s d l) q y) p st e q z x)
        (λ y. turns_of s t (λ l q y. statements_with s l d (for_of s d l) q y) p st e q r m (nextℤ z) y)
        ∙ ap (λ (o : Outcome State (Unit {0})). and_then o (λ v at y. settled (turns_of s t (λ l q y. statements_with s l d (for_of s d l) q y) p st e q r m (nextℤ z) y)))
        (round_is z x)
        ∙ go (counted p (carried s (with_loop t st e z) u) x) (λ y. turns-are m (nextℤ z) y)
      where
        go : (b : Built State (Unit {0}))
            → ((y : State) → settled (turns_of s t (λ l q y. statements_with s l d (for_of s d l) q y) p st e q r m (nextℤ z) y) ≡ built_at r (rounds_in (λ l y. carried s l u y) t p st e m (nextℤ z) y))
            → and_then (built_at n b) (λ v at y. settled (turns_of s t (λ l q y. statements_with s l d (for_of s d l) q y) p st e q r m (nextℤ z) y))
            ≡ built_at r (and_built b (λ v y. rounds_in (λ l y. carried s l u y) t p st e m (nextℤ z) y))
        go (built v y) ih = ih y
        go (bad k w y) ih = refl

    -- behind DO
    loop-is : (a b : ℤ) (x : State) → passed_of s q ≡ ok 0 r tt
        → settled (loop_of s t (λ l q y. statements_with s l d (for_of s d l) q y) p st e a b q x) ≡ built_at r (rounds_in (λ l y. carried s l u y) t p st e (rounds_of a b) a x)
    unfolding loop_of
    loop-is a b x h = rw h (turns-are (rounds_of a b) a x)

    module _ (passed : passed_of s q ≡ ok 0 r tt) (w₂ : Tree) (at₂ : ℕ) (upper : Ends s d 201 at₂ w₂ q) where
      upper_is : (a : ℤ) (x : State)
          → settled (and_then (upper_of s t d st e a at₂ x) (λ h q y. loop_of s t (λ l q y. statements_with s l d (for_of s d l) q y) p h.first h.past h.low h.high q y))
          ≡ built_at r (and_built (eval (reads s t) 1 w₂ x) (λ b z. rounds_in (λ l y. carried s l u y) t p st e (rounds_of a b) a z))
      unfolding upper_of
      upper_is a x = rw (read_is s t d 1 at₂ x w₂ upper.0 upper.1) (go (eval (reads s t) 1 w₂ x))
        where
          go : (b : Built State ℤ)
              → settled (and_then (and_then (built_at upper.0 b) (λ b at y. and_then (closed s 201 b at y) (λ b q y. ok (range st e a b) q y)))
              (λ h q y. loop_of s t (λ l q y. statements_with s l d (for_of s d l) q y) p h.first h.past h.low h.high q y))
              ≡ built_at r (and_built b (λ b z. rounds_in (λ l y. carried s l u y) t p st e (rounds_of a b) a z))
          go (built b z) = rw (closed_is s 201 b upper.0 q z upper.2) (loop-is a b z passed)
          go (bad k v z) = refl

      module _ (w₁ : Tree) (lower : GivenEnds s d 174 e w₁ at₂) where
        range-is : (x : State)
            → settled (and_then (range_of s t d st e x) (λ h q y. loop_of s t (λ l q y. statements_with s l d (for_of s d l) q y) p h.first h.past h.low h.high q y))
            ≡ built_at r (carried s t (loop p st e w₁ w₂ q u) x)
        unfolding range_of lower_of carried
        range-is x =
            rw (lower.1.taken, lower.1.ends, read_is s t d 1 lower.0 x w₁ lower.2.0 lower.2.1) (go (eval (reads s t) 1 w₁ x))
          where
            go : (b : Built State ℤ)
                → settled (and_then (and_then (built_at lower.2.0 b) (λ a at y. and_then (closed s 174 a at y) (upper_of s t d st e)))
                (λ h q y. loop_of s t (λ l q y. statements_with s l d (for_of s d l) q y) p h.first h.past h.low h.high q y))
                ≡ built_at r (and_built b (λ a y. and_built (eval (reads s t) 1 w₂ y) (λ b z. rounds_in (λ l y. carried s l u y) t p st e (rounds_of a b) a z)))
            go (built a y) = rw (closed_is s 174 a lower.2.0 at₂ y lower.2.2) (upper_is a y)
            go (bad k v y) = refl

  -- behind a FOR with levels left
  for-is : (d : ℕ) → d < 200 → (t : List ℕ) (p at : ℕ) (x : State)
      → When (λ u e. settled (for_of s d t p at x) ≡ built_at e (carried s t u x)) (tree_for trees tree_forms s d p at tt)
  unfolding for_of tree_for for_from header_of treeForFrom ranged looped Ran
  for-is zero small-d t p at x = tt
  for-is (suc d) small-d t p at x = go (λ l p at x. for-is d (omega arith) l p at x)
    where
      Does : Statements → ℕ → Type 0
      Does u e = settled (for_of s (suc d) t p at x) ≡ built_at e (carried s t u x)

      go : ((l : List ℕ) (p at : ℕ) (x : State) → When (λ u e. settled (for_of s d l p at x) ≡ built_at e (carried s l u x)) (tree_for trees tree_forms s d p at tt))
          → When Does (tree_for trees tree_forms s (suc d) p at tt)
      go ih =
          when_word s Does at _ (λ k st v c g.
          when_pick Does (eqb k 1) _ (no 2 st tt) (λ b.
          when_then Does (given trees tree_forms s 0 d 174 c.at tt) _ (λ w₁ at₂ low.
          when_then Does (up_to trees tree_forms s 0 d 201 at₂ tt) (looped trees tree_forms s d (statements trees tree_forms s d (tree_for trees tree_forms s d)) p st c.at w₁) (λ w₂ q high.
          when_then Does (sequence trees tree_forms s d q tt) _ (λ u n h.
          when_closed s Does 202 (loop p st c.at w₁ w₂ q u) n (λ r o.
          rw (g, b) (range-is d t p st c.at q n r u
          (λ l y. ap settled (when_is (Ran d l (ih l) q y) (sequence trees tree_forms s d q tt) u n h (statements-run d l (ih l) q y) r o) ∙ settled_after (carried s l u y) (pos 0) n)
          (body_passed s d q u n r (omega arith) h o)
          w₂ at₂ (when_is (Ends s d 201 at₂) (up_to trees tree_forms s 0 d 201 at₂ tt) w₂ q high (up_to_ends s d 201 at₂))
          w₁ (when_is (GivenEnds s d 174 c.at) (given trees tree_forms s 0 d 174 c.at tt) w₁ at₂ low (given_ends s d 174 c.at)) x))))))
          (λ b. tt))

  -- statements that END follows do what their tree says: they end where it ends, with the state that it leaves, or have its refusal
  pub sequence_is : (d : ℕ) (t : List ℕ) (at : ℕ) (x : State) (u : Statements) (e n : ℕ) → d < 200 → sequence trees tree_forms s d at tt ≡ ok u e tt → Stands s 202 e n
      → statements_of s d t at x ≡ after_built (carried s t u x) (λ v y. ok (pos 0) e y)
  unfolding Ran
  sequence_is d t at x u e n h q o = when_is (Ran d t (for-is d h t) at x) (sequence trees tree_forms s d at tt) u e q (statements-run d t (for-is d h t) at x) n o
