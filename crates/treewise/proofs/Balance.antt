-- FOR and END pair off in the statements of the grammar, so the END of a FOR's body is the one that is found by counting words.
-- Assumes nothing.
use mathlib.Core.Path.{◌≡◌, refl, ap, ◌∙◌}
use mathlib.Core.Bool.{false}
use mathlib.Core.List.{List}
use Prim.Native.Nat.{ℕ, zero, suc, ◌+◌, ◌<◌}
use native.Mathlib.Omega.{arith}
use lib.ListN.{length}
use lib.Dec.{eqb}
use Rattle.grammar.specs.Outcome.{Outcome, ok, no, more, last}
use Rattle.grammar.specs.Grammar.{closed, nested, named}
use Rattle.grammar.specs.Trees.{trees, parsed}
use Rattle.grammar.specs.Modules.{must, up_to, given, number_turn, numbers, positioned, aimed, simple, statement, statement_turn, statements, looped, ranged, for_from, for_of, sequence}
use Rattle.grammar.specs.Forms.{no_numbers, and_number, Statements, nothing, and_statement, loop, tree_forms}
use Rattle.unroll.specs.Loops.{passed_of}
use Rattle.unroll.proofs.Laws.{passing}
use Rattle.treewise.proofs.Trace.{When, when_pick, when_then, when_is, when_self, when_t_pick, when_t_then, when_repeat, when_word, when_t_word, when_closed, Calm, calm_of, Stands, stands, pass_calm, pass_for, pass_end, pass_over, Steady, steady_expression, steady_named, within_bracket}

module _ (s : List ℕ) where
  -- a word that stands within a statement
  pass-stands : (k at e : ℕ) → Calm k → Stands s k at e → Steady s at e
  pass-stands k at e c w l = pass_calm s l at k w.start w.value w.next w.taken c ∙ ap (λ (i : ℕ). passing s l i) w.ends

  -- from a place on there is no FOR and no END
  abbrev Flat : {A : Type 0} → ℕ → Outcome (Unit {0}) A → Type 0
  Flat at r = When (λ v e. Steady s at e) r

  steady-trans : (a b c : ℕ) → Steady s a b → Steady s b c → Steady s a c
  steady-trans a b c p q l = p l ∙ q l

  flat-numbers : (d q at : ℕ) → Flat at (numbers trees tree_forms s d q at tt)
  unfolding numbers number_turn
  flat-numbers d q at =
      when_repeat (λ v e. Steady s at e) (λ v e. Steady s at e) (number_turn trees tree_forms s d q) (λ l i m.
      when_t_then (λ v e. Steady s at e) (λ v e. Steady s at e) (nested trees s d false 0 q i tt) _ (λ w e h.
      let m : Steady s at e = steady-trans at i e m (within_bracket s d q i w e h).0 in
      when_t_word s (λ v e. Steady s at e) (λ v e. Steady s at e) e _ (λ k st v c g.
      when_t_pick (λ v e. Steady s at e) (λ v e. Steady s at e) (eqb k 59) (more (and_number l w) c.at tt) _
      (λ b l. m l ∙ pass_calm s l e k st v c g (calm_of k 59 (refl, refl, refl) b)) (λ b.
      when_t_pick (λ v e. Steady s at e) (λ v e. Steady s at e) (eqb k 93) (last (ok (and_number l w) c.at tt)) (last (no 2 st tt))
      (λ b l. m l ∙ pass_calm s l e k st v c g (calm_of k 93 (refl, refl, refl) b)) (λ b. tt)))))
      (suc (length s)) no_numbers at (λ l. refl)

  flat-simple : (d st e : ℕ) → Flat e (simple trees tree_forms s d st e tt)
  unfolding simple aimed positioned
  flat-simple d st e =
      when_then (λ v n. Steady s e n) (named trees s (nested trees s d) 0 st e tt) (aimed trees tree_forms s d st) (λ v at q.
      let m : Steady s e at = steady_named s d st e v at q in
      when_word s (λ v n. Steady s e n) at _ (λ k p u c g.
      when_pick (λ v n. Steady s e n) (eqb k 189) _ _
      (λ b. when_then (λ v n. Steady s e n) (parsed s d c.at) _ (λ w n h l.
      m l ∙ pass_calm s l at k p u c g (calm_of k 189 (refl, refl, refl) b) ∙ steady_expression s d c.at w n h l))
      (λ b. when_pick (λ v n. Steady s e n) (eqb k 186) _ (no 2 p tt)
      (λ b. let m : Steady s e c.at = λ l. m l ∙ pass_calm s l at k p u c g (calm_of k 186 (refl, refl, refl) b) in
      when_word s (λ v n. Steady s e n) c.at _ (λ k q u c' g.
      when_pick (λ v n. Steady s e n) (eqb k 91) _ _
      (λ b. when_then (λ v n. Steady s e n) (numbers trees tree_forms s d q c'.at tt) _ (λ w n h l.
      m l ∙ pass_calm s l c.at k q u c' g (calm_of k 91 (refl, refl, refl) b)
      ∙ when_is (λ v n. Steady s c'.at n) (numbers trees tree_forms s d q c'.at tt) w n h (flat-numbers d q c'.at) l))
      (λ b. when_then (λ v n. Steady s e n) (parsed s d c.at) _ (λ w n h l. m l ∙ steady_expression s d c.at w n h l))))
      (λ b. tt))))

  -- from what stands at a place at level l to the place past a part
  abbrev Level : {A : Type 0} → Outcome (Unit {0}) ℕ → ℕ → Outcome (Unit {0}) A → Type 0
  Level R l r = When (λ v e. R ≡ passing s l e) r

  module _ (d : ℕ) (loops : ℕ → ℕ → Unit {0} → Outcome (Unit {0}) Statements)
      (even : (l p at : ℕ) → l + d < 200 → Level (passing s (l + 1) at) l (loops p at tt)) where
    even-statement : (l at : ℕ) → l + d < 200 → Level (passing s l at) l (statement trees tree_forms s d loops at tt)
    unfolding statement
    even-statement l at h =
        when_word s (λ v e. passing s l at ≡ passing s l e) at _ (λ k st v c g.
        when_pick (λ v e. passing s l at ≡ passing s l e) (eqb k 1) (simple trees tree_forms s d st c.at tt) _
        (λ b. when_self (λ v e. passing s l at ≡ passing s l e) (simple trees tree_forms s d st c.at tt) (λ w e q.
        pass_calm s l at k st v c g (calm_of k 1 (refl, refl, refl) b)
        ∙ when_is (λ v e. Steady s c.at e) (simple trees tree_forms s d st c.at tt) w e q (flat-simple d st c.at) l))
        (λ b. when_pick (λ v e. passing s l at ≡ passing s l e) (eqb k 200) (loops st c.at tt) (ok nothing at tt)
        (λ b. when_self (λ v e. passing s l at ≡ passing s l e) (loops st c.at tt) (λ w e q.
        pass_for s l at c.at (omega arith) (stands s k 200 st v at c g b)
        ∙ when_is (λ v e. passing s (l + 1) c.at ≡ passing s l e) (loops st c.at tt) w e q (even l st c.at h)))
        (λ b. refl)))

    even-statements : (l at : ℕ) → l + d < 200 → Level (passing s l at) l (statements trees tree_forms s d loops at tt)
    unfolding statements statement_turn
    even-statements l at h =
        when_repeat (λ v e. passing s l at ≡ passing s l e) (λ v e. passing s l at ≡ passing s l e) (statement_turn trees tree_forms s d loops) (λ v i m.
        when_t_then (λ v e. passing s l at ≡ passing s l e) (λ v e. passing s l at ≡ passing s l e) (statement trees tree_forms s d loops i tt) _ (λ t e q.
        let m : passing s l at ≡ passing s l e = m ∙ when_is (λ v e. passing s l i ≡ passing s l e) (statement trees tree_forms s d loops i tt) t e q (even-statement l i h) in
        when_t_word s (λ v e. passing s l at ≡ passing s l e) (λ v e. passing s l at ≡ passing s l e) e _ (λ k st v' c g.
        when_t_pick (λ v e. passing s l at ≡ passing s l e) (λ v e. passing s l at ≡ passing s l e) (eqb k 59) (more (and_statement v t) c.at tt) (last (ok (and_statement v t) e tt))
        (λ b. m ∙ pass_calm s l e k st v' c g (calm_of k 59 (refl, refl, refl) b)) (λ b. m))))
        (suc (length s)) nothing at refl

  flat-upTo : (d k at : ℕ) → Calm k → Flat at (up_to trees tree_forms s 0 d k at tt)
  unfolding up_to
  flat-upTo d k at c =
      when_then (λ v e. Steady s at e) (parsed s d at) (closed s k) (λ v i q.
      when_closed s (λ v e. Steady s at e) k v i (λ e w. steady-trans at i e (steady_expression s d at v i q) (pass-stands k i e c w)))

  flat-given : (d k at : ℕ) → Calm k → Flat at (given trees tree_forms s 0 d k at tt)
  unfolding given
  flat-given d k at c =
      when_then (λ v e. Steady s at e) (must s 189 at tt) _ (λ u i q.
      when_self (λ v e. Steady s at e) (up_to trees tree_forms s 0 d k i tt) (λ v e h.
      steady-trans at i e
      (when_is (λ v e. Steady s at e) (must s 189 at tt) tt i q (when_closed s (λ v e. Steady s at e) 189 tt at (λ e w. pass-stands 189 at e (refl, refl, refl) w)))
      (when_is (λ v e. Steady s i e) (up_to trees tree_forms s 0 d k i tt) v e h (flat-upTo d k i c))))

  module _ (d : ℕ) (body : ℕ → Unit {0} → Outcome (Unit {0}) Statements)
      (even : (l at : ℕ) → l + d < 200 → Level (passing s l at) l (body at tt)) where
    even-for : (l p at : ℕ) → l + suc d < 200 → Level (passing s (l + 1) at) l (for_from trees tree_forms s d body p at tt)
    unfolding for_from ranged looped
    even-for l p at h =
        when_word s (λ v e. passing s (l + 1) at ≡ passing s l e) at _ (λ k st v c g.
        when_pick (λ v e. passing s (l + 1) at ≡ passing s l e) (eqb k 1) _ (no 2 st tt) (λ b.
        let m : Steady s at c.at = λ l. pass_calm s l at k st v c g (calm_of k 1 (refl, refl, refl) b) in
        when_then (λ v e. passing s (l + 1) at ≡ passing s l e) (given trees tree_forms s 0 d 174 c.at tt) _ (λ a i q.
        let m : Steady s at i =
        steady-trans at c.at i m
        (when_is (λ v e. Steady s c.at e) (given trees tree_forms s 0 d 174 c.at tt) a i q (flat-given d 174 c.at (refl, refl, refl))) in
        when_then (λ v e. passing s (l + 1) at ≡ passing s l e) (up_to trees tree_forms s 0 d 201 i tt) (looped trees tree_forms s d body p st c.at a) (λ b j q.
        let m : Steady s at j =
        steady-trans at i j m (when_is (λ v e. Steady s i e) (up_to trees tree_forms s 0 d 201 i tt) b j q (flat-upTo d 201 i (refl, refl, refl))) in
        when_then (λ v e. passing s (l + 1) at ≡ passing s l e) (body j tt) _ (λ t n q.
        when_closed s (λ v e. passing s (l + 1) at ≡ passing s l e) 202 (loop p st c.at a b j t) n (λ e w.
        m (l + 1) ∙ when_is (λ v e. passing s (l + 1) j ≡ passing s (l + 1) e) (body j tt) t n q (even (l + 1) j (omega arith)) ∙ pass_end s l n e w)))))
        (λ b. tt))

  even-loops : (d l p at : ℕ) → l + d < 200 → Level (passing s (l + 1) at) l (for_of trees tree_forms s d p at tt)
  unfolding for_of
  even-loops zero l p at h = tt
  even-loops (suc d) l p at h =
      even-for d (statements trees tree_forms s d (for_of trees tree_forms s d))
      (λ l at h. even-statements d (for_of trees tree_forms s d) (λ l p at h. even-loops d l p at h) l at h) l p at h

  -- statements that END follows: it is the END that is found from where they start
  pub body_passed : (d at : ℕ) (t : Statements) (n e : ℕ) → d < 200 → sequence trees tree_forms s d at tt ≡ ok t n tt → Stands s 202 n e → passed_of s at ≡ ok 0 e tt
  unfolding passed_of
  body_passed d at t n e h q w =
      when_is (λ v e. passing s 0 at ≡ passing s 0 e) (sequence trees tree_forms s d at tt) t n q
      (even-statements d (for_of trees tree_forms s d) (even-loops d) 0 at (omega arith))
      ∙ pass_over s n e w
