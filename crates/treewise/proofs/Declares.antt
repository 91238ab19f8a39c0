-- Declarations, judged where they stand in the text, are judged as their tree says.
-- Assumes nothing.
use mathlib.Core.Path.{◌≡◌, refl, sym, ap, subst, ◌∙◌}
use mathlib.Core.Bool.{Bool, true, false}
use mathlib.Core.List.{List}
use Prim.Native.Nat.{ℕ, suc, ◌+◌, ◌-◌}
use native.Mathlib.Omega.{arith}
use lib.ListN.{length}
use lib.Dec.{eqb}
use lib.IntN.{ℤ}
use borrow.Author.Tests.{eqb-true}
use Rattle.basics.specs.Choice.{pick}
use Rattle.words.specs.declared.Cursor.{Cursor}
use Rattle.words.specs.Taken.{Taken}
use Rattle.words.specs.Taken.{Word, Refused}
use Rattle.words.specs.Words.{next_word}
use Rattle.names.specs.Names.{looked_up}
use Rattle.grammar.specs.Outcome.{Outcome, ok, no, Built, built, bad, last, on_word, and_then, built_at, after_built, and_built, levels}
use Rattle.grammar.specs.Grammar.{closed, part, nested, expression, term, factor, level, turned}
use Rattle.grammar.specs.Trees.{Tree, trees, eval, parsed}
use Rattle.grammar.specs.Modules.{must, given, constant_turn, name_list, arrayed, typed, type_of as treeType, list_turn, constants, lists, out_and_var, declarations}
use Rattle.grammar.specs.Forms.{Names, Shape, bit, array, Declarations, undeclared, constant, signals, tree_forms}
use Rattle.judging.specs.Reading.{State, reads}
use Rattle.readers.specs.Readers.{expression_of}
use Rattle.parts.specs.Parts.{constants_at, allows, one_more}
use Rattle.simple.specs.Statements.{upward}
use Rattle.lists.specs.Lists.{is_known, is_length, closed_type, length_on, length_of, type_of}
use Rattle.declare.specs.Declarations.{with_constant, elements_of, list_end, signals_from, signals_of, constant_end, constant_from, constant_of, item_of, item_turn, items_of, section_of, sections_of, declarations_of}
use Rattle.declare.proofs.Laws.{elements, items, items_more, items_last}
use Rattle.treewise.specs.Declared.{Fresh, new, old, unless_old, start_of, elements_in, fresh_in, length_in, signals_in, constant_in, declared_in}
use Rattle.treewise.proofs.Trace.{When, when_pick, when_then, when_is, when_self, when_t_pick, when_t_then, when_repeat, when_word, when_t_word, when_closed, Stands, within_bracket}
use Rattle.treewise.proofs.Acts.{read_is}
use Rattle.treewise.proofs.Loops.{closed_is, after_then, after_alike, Ends, GivenEnds, given_ends}
use Rattle.treewise.proofs.Listed.{fresh_then, NamesAre, names_are, fresh_colon, element_colon}

abbrev Accepts : Outcome (Unit {0}) Tree → Type 0
Accepts (ok v e u) = Unit {0}
Accepts (no n p u) = ⊥

module _ (s : List ℕ) where
  -- ---- types

  -- what words refuse has no tree
  refused_none : (d at n p : ℕ) → next_word s at ≡ Refused n p → parsed s d at ≡ no n p tt
  unfolding expression level term factor
  refused_none d at n p q = rw q refl

  part-ends : (p at : ℕ) → When (Ends s levels 93 at) (part trees s (nested trees s levels) 0 p 93 at tt)
  unfolding part
  part-ends p at =
      when_then (Ends s levels 93 at) (nested trees s levels false 0 p at tt) (closed s 93) (λ w m q.
      when_closed s (Ends s levels 93 at) 93 w m (λ e o. (m, (within_bracket s levels p at w m q).1, o)))

  length-is : (t : List ℕ) (at : ℕ) (w : Tree) (e e' : ℕ) (x : State) → Ends s levels 93 at w e → Stands s 213 e e'
      → length_of s t at x ≡ after_built (length_in s t (array at w) x) (λ z y. ok z e' y)
  unfolding length_of length_in closed_type
  length-is t at w e e' x h o = go (next_word s at) refl
    where
      choice : (p : ℕ) (z : ℤ) (y : State) (b : Bool)
          → pick b (and_then (closed s 93 z h.0 y) (closed s 213)) (no 5 p y) ≡ after_built (pick b (built z y) (bad 5 p y)) (λ z y. ok z e' y)
      choice p z y true = ap (λ (o : Outcome State ℤ). and_then o (closed s 213)) (closed_is s 93 z h.0 e y h.2) ∙ closed_is s 213 z e e' y o
      choice p z y false = refl

      valued : (p : ℕ) (b : Built State ℤ)
          → and_then (built_at h.0 b) (length_on s p) ≡ after_built (and_built b (λ z y. pick (is_length z) (built z y) (bad 5 p y))) (λ z y. ok z e' y)
      valued p (built z y) = choice p z y (is_length z)
      valued p (bad n q y) = refl

      go : (k : Taken) → next_word s at ≡ k
          → on_word x k (λ k p v nx. and_then (expression_of s t levels 1 at x) (length_on s p))
          ≡ after_built (and_built (eval (reads s t) 1 w x) (λ z y. pick (is_length z) (built z y) (bad 5 (start_of k) y))) (λ z y. ok z e' y)
      go (Word k p v c) q =
          ap (λ (o : Outcome State ℤ). and_then o (length_on s p)) (read_is s t levels 1 at x w h.0 h.1) ∙ valued p (eval (reads s t) 1 w x)
      go (Refused n p) q = absurd (subst Accepts (sym h.1 ∙ refused_none levels at n p q) tt)

  Type-is : ℕ → Shape → ℕ → Type 0
  Type-is at y e = (t : List ℕ) (x : State) → type_of s t at x ≡ after_built (length_in s t y x) (λ z y. ok z e y)

  types_are : (at : ℕ) → When (Type-is at) (typed trees tree_forms s at tt)
  unfolding typed arrayed Type-is
  types_are at =
      when_word s (Type-is at) at _ (λ k p v c q.
      when_pick (Type-is at) (eqb k 213) (ok bit c.at tt) _
      (λ b t x. unfold type_of length_in in rw (q, b) refl) (λ b.
      when_pick (Type-is at) (eqb k 91) _ (no 2 p tt)
      (λ b₂. when_then (Type-is at) (part trees s (nested trees s levels) 0 p 93 c.at tt) _ (λ w e h.
      when_closed s (Type-is at) 213 (array c.at w) e (λ e' o t x.
      bracket at k p v c t x q b b₂
      ∙ length-is t c.at w e e' x (when_is (Ends s levels 93 c.at) (part trees s (nested trees s levels) 0 p 93 c.at tt) w e h (part-ends p c.at)) o)))
      (λ b₂. tt)))
    where
      bracket : (at k p v : ℕ) (c : Cursor) (t : List ℕ) (x : State) → next_word s at ≡ Word k p v c → eqb k 213 ≡ false → eqb k 91 ≡ true
          → type_of s t at x ≡ length_of s t c.at x
      bracket at k p v c t x q b b₂ = unfold type_of in rw (q, b, b₂) refl

  -- ---- one declaration

  module _ (first : ℕ) (l : Names) (i : ℕ) (names : NamesAre s first l i) (j : ℕ) (colon : Stands s 58 i j) (w : Shape) (m : ℕ) (type : Type-is j w m) (r : ℕ)
      (semicolon : Stands s 59 m r) where
    made-is : (c n : ℕ) (t : List ℕ) (y : State) → and_then (elements_of s c n t first y) (λ u e y. ok u r y) ≡ after_built (elements_in c n t l y) (λ u y. ok u r y)
    made-is c n t y =
        ap (λ (o : Outcome State (List ℕ)). and_then o (λ u e y. ok u r y))
        (names.made c n t y ∙ after_alike (elements_in c n t l y) (λ u z. elements s c n u i z) (λ u z. ok u i z) (λ u z. element_colon s i j c n u z colon))
        ∙ go (elements_in c n t l y)
      where
        go : (b : Built State (List ℕ)) → and_then (after_built b (λ u z. ok u i z)) (λ u e y. ok u r y) ≡ after_built b (λ u y. ok u r y)
        go (built u z) = refl
        go (bad k p z) = refl

    end_is : (c : ℕ) (t : List ℕ) (z : ℤ) (y : State) → list_end s c t first z m y ≡ after_built (elements_in c (upward z) t l y) (λ u y. ok u r y)
    unfolding list_end
    end_is c t z y = rw (semicolon.taken, semicolon.ends) (made-is c (upward z) t y)

    typed-is : (c : ℕ) (t : List ℕ) (x : State)
        → and_then (type_of s t j x) (list_end s c t first) ≡ after_built (and_built (length_in s t w x) (λ z x. elements_in c (upward z) t l x)) (λ u y. ok u r y)
    unfolding Type-is
    typed-is c t x = ap (λ (o : Outcome State ℤ). and_then o (list_end s c t first)) (type t x) ∙ go (length_in s t w x)
      where
        go : (b : Built State ℤ)
            → and_then (after_built b (λ z y. ok z m y)) (list_end s c t first) ≡ after_built (and_built b (λ z x. elements_in c (upward z) t l x)) (λ u y. ok u r y)
        go (built z y) = end_is c t z y
        go (bad k p y) = refl

    signals-are : (c : ℕ) (t : List ℕ) (x : State) → signals_of s c t first x ≡ after_built (signals_in s t c l w x) (λ u y. ok u r y)
    unfolding signals_of signals_in
    signals-are c t x =
        ap (signals_from s c t first x) (names.fresh t ∙ ap (fresh_then (fresh_in s t l)) (fresh_colon s first t i j colon)) ∙ go (fresh_in s t l)
      where
        go : (f : Fresh)
            → signals_from s c t first x (fresh_then f (ok 0 j tt))
            ≡ after_built (unless_old f x (and_built (length_in s t w x) (λ z x. elements_in c (upward z) t l x))) (λ u y. ok u r y)
        go new = typed-is c t x
        go (old p) = refl

  constant-is : (st e : ℕ) (w : Tree) (r : ℕ) → GivenEnds s levels 59 e w r → (t : List ℕ) (x : State)
      → constant_of s t st e x ≡ after_built (constant_in s t st e w x) (λ u y. ok u r y)
  unfolding constant_of constant_from constant_end constant_in
  constant-is st e w r h t x = go (is_known (looked_up s t st (e - st))) (allows x.0 constants_at 32)
    where
      y : State
      y = (one_more x.0 constants_at 32, x.1)

      valued : (b : Built State ℤ)
          → and_then (built_at h.2.0 b) (constant_end s t st e) ≡ after_built (and_built b (λ z y. built (with_constant t st e z) y)) (λ u y. ok u r y)
      valued (built z y) = rw (h.2.2.taken, h.2.2.ends) refl
      valued (bad n p y) = refl

      given_is : constant_from s t st e y ≡ after_built (and_built (eval (reads s t) 1 w y) (λ z y. built (with_constant t st e z) y)) (λ u y. ok u r y)
      given_is =
          rw (h.1.taken, h.1.ends)
          (ap (λ (o : Outcome State ℤ). and_then o (constant_end s t st e)) (read_is s t levels 1 h.0 y w h.2.0 h.2.1) ∙ valued (eval (reads s t) 1 w y))

      go : (k a : Bool)
          → pick k (no 4 st x) (pick a (constant_from s t st e y) (no 6 st x))
          ≡ after_built (pick k (bad 4 st x) (pick a (and_built (eval (reads s t) 1 w y) (λ z y. built (with_constant t st e z) y)) (bad 6 st x))) (λ u y. ok u r y)
      go true a = refl
      go false true = given_is
      go false false = refl

  -- behind the names of a list
  Type-ends : ℕ → Shape → ℕ → Type 0
  Type-ends at y r = (j : ℕ) × (m : ℕ) × Stands s 58 at j × Type-is j y m × Stands s 59 m r

  types-end : (at : ℕ) → When (Type-ends at) (treeType trees tree_forms s at tt)
  unfolding treeType Type-ends
  types-end at =
      when_then (Type-ends at) (must s 58 at tt) _ (λ u j q.
      when_then (Type-ends at) (typed trees tree_forms s j tt) (closed s 59) (λ y m h.
      when_closed s (Type-ends at) 59 y m (λ r o. (
        j,
        m,
        when_is (λ u j. Stands s 58 at j) (must s 58 at tt) tt j q (when_closed s (λ u j. Stands s 58 at j) 58 tt at (λ e o. o)),
        when_is (Type-is j) (typed trees tree_forms s j tt) y m h (types_are j),
        o,
      ))))

  -- ---- sections

  -- a declaration of class c, and those behind it
  item-run : (c : ℕ) (t : List ℕ) (i r : ℕ) (y : State) (b : Built State (List ℕ)) → item_turn s c t i y ≡ turned (after_built b (λ u z. ok u r z))
      → items s c t i y ≡ after_built b (λ u z. items s c u r z)
  item-run c t i r y (built u z) q = items_more s c t u i r y z q
  item-run c t i r y (bad n p z) q = items_last s c t i y (no n p z) q

  item-at : (c : ℕ) (t : List ℕ) (i k st v : ℕ) (p : Cursor) (y : State) → next_word s i ≡ Word k st v p → eqb k 1 ≡ true → item_turn s c t i y ≡ turned (item_of s c t i st p.at y)
  unfolding item_turn
  item-at c t i k st v p y q b = rw (q, b) refl

  section-opens : (c : ℕ) (t : List ℕ) (i k st v : ℕ) (p : Cursor) (y : State) → next_word s i ≡ Word k st v p → eqb k (208 + c) ≡ true → section_of s c t i y ≡ items s c t p.at y
  unfolding section_of items_of
  section-opens c t i k st v p y q b = rw (q, b) refl

  section-skips : (c : ℕ) (t : List ℕ) (i k st v : ℕ) (p : Cursor) (y : State) → next_word s i ≡ Word k st v p → eqb k (208 + c) ≡ false → section_of s c t i y ≡ ok t i y
  unfolding section_of
  section-skips c t i k st v p y q b = rw (q, b) refl

  item_constant : (t : List ℕ) (i st e : ℕ) (y : State) → item_of s 0 t i st e y ≡ constant_of s t st e y
  unfolding item_of
  item_constant t i st e y = refl

  item_signals : (c : ℕ) (t : List ℕ) (i st e : ℕ) (y : State) → eqb c 0 ≡ false → item_of s c t i st e y ≡ signals_of s c t i y
  unfolding item_of
  item_signals c t i st e y b = rw b refl

  items-end : (c : ℕ) (t : List ℕ) (i k st v : ℕ) (p : Cursor) (y : State) → next_word s i ≡ Word k st v p → eqb k 1 ≡ false → items s c t i y ≡ ok t i y
  items-end c t i k st v p y q b = items_last s c t i y (ok t i y) (unfold item_turn in rw (q, b) refl)

  then-after : {A B C : Type 0} (b : Built State A) (f : A → State → Outcome State B) (g : B → ℕ → State → Outcome State C)
      → and_then (after_built b f) g ≡ after_built b (λ u z. and_then (f u z) g)
  then-after (built u z) f g = refl
  then-after (bad n p z) f g = refl

  -- from the declarations as a whole
  module _ (x : State) (R : Outcome State (List ℕ)) where
    -- n sections are left, from that of class c on
    Between : ℕ → ℕ → Declarations → ℕ → Type 0
    Between n c v i = R ≡ after_built (declared_in s v x) (λ t y. sections_of s n c t i y)

    -- within the section of class c
    Within : ℕ → ℕ → Declarations → ℕ → Type 0
    Within n c v i = R ≡ after_built (declared_in s v x) (λ t y. and_then (items s c t i y) (λ u e y. sections_of s n (c + 1) u e y))

    one_more_lem : (n c : ℕ) (v : Declarations) (i r : ℕ) (f : List ℕ → State → Built State (List ℕ)) → Within n c v i
        → ((t : List ℕ) (y : State) → items s c t i y ≡ after_built (f t y) (λ u z. items s c u r z))
        → R ≡ after_built (and_built (declared_in s v x) f) (λ t y. and_then (items s c t r y) (λ u e y. sections_of s n (c + 1) u e y))
    unfolding Within
    one_more_lem n c v i r f m h =
        m ∙ after_alike (declared_in s v x) (λ t y. and_then (items s c t i y) (λ u e y. sections_of s n (c + 1) u e y))
        (λ t y. after_built (f t y) (λ u z. and_then (items s c u r z) (λ u e y. sections_of s n (c + 1) u e y)))
        (λ t y. ap (λ (o : Outcome State (List ℕ)). and_then o (λ u e y. sections_of s n (c + 1) u e y)) (h t y)
        ∙ then-after (f t y) (λ u z. items s c u r z) (λ u e y. sections_of s n (c + 1) u e y))
        ∙ after_then (declared_in s v x) f (λ t y. and_then (items s c t r y) (λ u e y. sections_of s n (c + 1) u e y))

    no_more : (n c : ℕ) (v : Declarations) (i k st w : ℕ) (p : Cursor) → Within n c v i → next_word s i ≡ Word k st w p → eqb k 1 ≡ false → Between n (c + 1) v i
    unfolding Within Between
    no_more n c v i k st w p m q b =
        m ∙ after_alike (declared_in s v x) (λ t y. and_then (items s c t i y) (λ u e y. sections_of s n (c + 1) u e y)) (λ t y. sections_of s n (c + 1) t i y)
        (λ t y. ap (λ (o : Outcome State (List ℕ)). and_then o (λ u e y. sections_of s n (c + 1) u e y)) (items-end c t i k st w p y q b))

    opens : (n c : ℕ) (v : Declarations) (i k st w : ℕ) (p : Cursor) → Between (suc n) c v i → next_word s i ≡ Word k st w p → eqb k (208 + c) ≡ true → Within n c v p.at
    unfolding Within Between sections_of
    opens n c v i k st w p m q b =
        m ∙ after_alike (declared_in s v x) (λ t y. and_then (section_of s c t i y) (λ u e y. sections_of s n (c + 1) u e y))
        (λ t y. and_then (items s c t p.at y) (λ u e y. sections_of s n (c + 1) u e y))
        (λ t y. ap (λ (o : Outcome State (List ℕ)). and_then o (λ u e y. sections_of s n (c + 1) u e y)) (section-opens c t i k st w p y q b))

    skips : (n c : ℕ) (v : Declarations) (i k st w : ℕ) (p : Cursor) → Between (suc n) c v i → next_word s i ≡ Word k st w p → eqb k (208 + c) ≡ false → Between n (c + 1) v i
    unfolding Between sections_of
    skips n c v i k st w p m q b =
        m ∙ after_alike (declared_in s v x) (λ t y. and_then (section_of s c t i y) (λ u e y. sections_of s n (c + 1) u e y)) (λ t y. sections_of s n (c + 1) t i y)
        (λ t y. ap (λ (o : Outcome State (List ℕ)). and_then o (λ u e y. sections_of s n (c + 1) u e y)) (section-skips c t i k st w p y q b))

    constants-are : (n : ℕ) (v : Declarations) (i : ℕ) → Between (suc n) 0 v i → When (Between n 1) (constants trees tree_forms s v i tt)
    unfolding constants constant_turn
    constants-are n v i m =
        when_word s (Between n 1) i _ (λ k st w p q.
        when_pick (Between n 1) (eqb k 208) _ (ok v i tt)
        (λ b. when_repeat (Within n 0) (Between n 1) (constant_turn trees tree_forms s) (λ v i m.
        when_t_word s (Within n 0) (Between n 1) i _ (λ k st w p q.
        when_t_pick (Within n 0) (Between n 1) (eqb k 1) _ (last (ok v i tt))
        (λ b. when_t_then (Within n 0) (Between n 1) (given trees tree_forms s 0 levels 59 p.at tt) _ (λ u e h. turn v i k st w p u e q b h m))
        (λ b. no_more n 0 v i k st w p m q b)))
        (suc (length s)) v p.at (opens n 0 v i k st w p m q b))
        (λ b. skips n 0 v i k st w p m q b))
      where
        turn : (v : Declarations) (i k st w : ℕ) (p : Cursor) (u : Tree) (e : ℕ) → next_word s i ≡ Word k st w p → eqb k 1 ≡ true
            → given trees tree_forms s 0 levels 59 p.at tt ≡ ok u e tt → Within n 0 v i → Within n 0 (constant v st p.at u) e
        turn v i k st w p u e q b h m =
            unfold Within declared_in in
            one_more_lem n 0 v i e (λ t y. constant_in s t st p.at u y) m (λ t y.
            item-run 0 t i e y (constant_in s t st p.at u y)
            (item-at 0 t i k st w p y q b ∙ ap turned (item_constant t i st p.at y
            ∙ constant-is st p.at u e (when_is (GivenEnds s levels 59 p.at) (given trees tree_forms s 0 levels 59 p.at tt) u e h (given_ends s levels 59 p.at)) t y)))

    lists-are : (n c : ℕ) (v : Declarations) (i : ℕ) → eqb c 0 ≡ false → Between (suc n) c v i → When (Between n (c + 1)) (lists trees tree_forms s (208 + c) v i tt)
    unfolding lists list_turn
    lists-are n c v i z m =
        when_word s (Between n (c + 1)) i _ (λ k st w p q.
        when_pick (Between n (c + 1)) (eqb k (208 + c)) _ (ok v i tt)
        (λ b. when_repeat (Within n c) (Between n (c + 1)) (list_turn trees tree_forms s (208 + c)) (λ v i m.
        when_t_word s (Within n c) (Between n (c + 1)) i _ (λ k st w p q.
        when_t_pick (Within n c) (Between n (c + 1)) (eqb k 1) _ (last (ok v i tt))
        (λ b. when_t_then (Within n c) (Between n (c + 1)) (name_list trees tree_forms s st p.at tt) _ (λ l j h.
        when_t_then (Within n c) (Between n (c + 1)) (treeType trees tree_forms s j tt) _ (λ y e g. turn v i k st w p l j y e q b h g m)))
        (λ b. no_more n c v i k st w p m q b)))
        (suc (length s)) v p.at (opens n c v i k st w p m q b))
        (λ b. skips n c v i k st w p m q b))
      where
        class : 208 + c - 208 ≡ c
        class = omega arith

        turn : (v : Declarations) (i k st w : ℕ) (p : Cursor) (l : Names) (j : ℕ) (y : Shape) (e : ℕ) → next_word s i ≡ Word k st w p → eqb k 1 ≡ true
            → name_list trees tree_forms s st p.at tt ≡ ok l j tt → treeType trees tree_forms s j tt ≡ ok y e tt
            → Within n c v i → Within n c (signals v (208 + c) l y) e
        turn v i k st w p l j y e q b h g m =
            unfold Within declared_in Type-ends in
            let names : NamesAre s i l j = when_is (NamesAre s i) (name_list trees tree_forms s st p.at tt) l j h (names_are s i st w p (q ∙ ap (λ (n : ℕ). Word n st w p) (eqb-true k 1 b))) in
            let ends : Type-ends j y e = when_is (Type-ends j) (treeType trees tree_forms s j tt) y e g (types-end j) in
            one_more_lem n c v i e (λ t x. signals_in s t (208 + c - 208) l y x) m (λ t x.
            item-run c t i e x (signals_in s t (208 + c - 208) l y x)
            (item-at c t i k st w p x q b ∙ ap turned (item_signals c t i st p.at x z
            ∙ signals-are i l j names ends.0 ends.2 y ends.1 ends.3 e ends.4 c t x
            ∙ ap (λ (k : ℕ). after_built (signals_in s t k l y x) (λ u z. ok u e z)) (sym class))))

  -- the declarations of a module are judged as their tree says: they end where it ends, with the names and the state that it leaves, or have its refusal
  pub declarations_are : (at : ℕ) (x : State) → When (λ v e. declarations_of s at x ≡ after_built (declared_in s v x) (λ t y. ok t e y)) (declarations trees tree_forms s at tt)
  unfolding declarations out_and_var
  declarations_are at x =
      when_then Done (constants trees tree_forms s undeclared at tt) _ (λ v i q.
      let m : Between x (declarations_of s at x) 3 1 v i = when_is (Between x (declarations_of s at x) 3 1) (constants trees tree_forms s undeclared at tt) v i q (constants-are x (declarations_of s at x) 3 undeclared at start) in
      when_then Done (lists trees tree_forms s 209 v i tt) _ (λ v₁ i₁ q₁.
      let m₁ : Between x (declarations_of s at x) 2 2 v₁ i₁ = when_is (Between x (declarations_of s at x) 2 2) (lists trees tree_forms s 209 v i tt) v₁ i₁ q₁ (lists-are x (declarations_of s at x) 2 1 v i refl m) in
      when_then Done (lists trees tree_forms s 210 v₁ i₁ tt) (lists trees tree_forms s 211) (λ v₂ i₂ q₂.
      let m₂ : Between x (declarations_of s at x) 1 3 v₂ i₂ = when_is (Between x (declarations_of s at x) 1 3) (lists trees tree_forms s 210 v₁ i₁ tt) v₂ i₂ q₂ (lists-are x (declarations_of s at x) 1 2 v₁ i₁ refl m₁) in
      when_self Done (lists trees tree_forms s 211 v₂ i₂ tt) (λ v₃ i₃ q₃.
      last_of v₃ i₃ (when_is (Between x (declarations_of s at x) 0 4) (lists trees tree_forms s 211 v₂ i₂ tt) v₃ i₃ q₃ (lists-are x (declarations_of s at x) 0 3 v₂ i₂ refl m₂))))))
    where
      Done : Declarations → ℕ → Type 0
      Done v e = declarations_of s at x ≡ after_built (declared_in s v x) (λ t y. ok t e y)

      start : Between x (declarations_of s at x) 4 0 undeclared at
      start = unfold Between declarations_of declared_in in refl

      last_of : (v : Declarations) (e : ℕ) → Between x (declarations_of s at x) 0 4 v e → Done v e
      last_of v e m = unfold Between sections_of in m
