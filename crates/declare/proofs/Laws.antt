-- Declarations go forward, so those of a section are the first and then the rest; sections one by one.
-- Assumes nothing.
use Rattle.std.proofs.Common.{drop-cons, add-one, drop_of_length-le}
use mathlib.Core.Path.{◌≡◌, refl, sym, ap, ◌∙◌}
use mathlib.Core.Bool.{true, false}
use mathlib.Core.List.{List, [], ◌∷◌}
use Prim.Native.Nat.{ℕ, suc, ◌+◌, ◌-◌, ◌<◌, ◌≤◌}
use native.Mathlib.Omega.{arith}
use lib.ListN.{length, get_or, drop}
use lib.Dec.{eqb, leb}
use lib.IntN.{ℤ, pos}
use Rattle.words.specs.declared.Cursor.{Cursor}
use Rattle.words.specs.Taken.{Word, Refused}
use Rattle.words.specs.Words.{next_word}
use Rattle.words.proofs.Forward.{next_forward}
use Rattle.names.specs.Names.{looked_up}
use Rattle.grammar.specs.Outcome.{Outcome, ok, no, Turn, more, last, on_word, and_then, levels}
use Rattle.grammar.specs.Grammar.{closed, turned}
use Rattle.grammar.specs.Modules.{repeat}
use Rattle.grammar.proofs.Chain.{Past, Near, PastT, other, past_word, past_pick, past_then, past_from, past_closed, forward_from, past_expression, past_nested}
use Rattle.grammar.proofs.Turns.{turn_pick, turn_word, repeat_more, repeat_last, repeat_falls}
use Rattle.judging.specs.Reading.{State, reads}
use Rattle.readers.specs.Readers.{inner_of, expression_of}
use Rattle.parts.specs.Parts.{elements_at, constants_at, allows, one_more}
use Rattle.simple.specs.Statements.{upward}
use Rattle.lists.specs.Lists.{is_known, fresh_of, is_length, closed_type, length_of, type_of}
use Rattle.lists.proofs.Laws.{near_fresh}
use Rattle.declare.specs.declared.Section.{Section}
use Rattle.declare.specs.declared.Section.TheVariants.{Constants, In, Out, Var}
use Rattle.declare.specs.Declarations.{class_of, declarations_of, with_constant, width_of, element_name, constant_end, constant_from, constant_of, element_turn, elements_of, list_end, signals_from, signals_of, item_of, item_turn, section_of, sections_of}

module _ (s : List ℕ) where
  -- a word was taken from a place at or behind the one that is counted from
  past-at : {S A : Type 0} (from at : ℕ) (x : S) (f : ℕ → ℕ → ℕ → ℕ → Outcome S A) → from ≤ at
      → ((k st v nx : ℕ) → ((k ≡ 0 → ⊥) → (from < nx) × (from < length s)) → Past (length s) from (f k st v nx)) → Past (length s) from (on_word x (next_word s at) f)
  past-at from at x f l h = past_word (length s) from x (next_word s at) f (forward_from (length s) from at (next_word s at) l (next_forward s at)) h

  past_number : (t : List ℕ) (from at : ℕ) (x : State) → from ≤ at → Past (length s) from (expression_of s t levels 1 at x)
  past_number t from at x l =
      past_from (length s) from at (expression_of s t levels 1 at x) l (past_expression (reads s t) s (inner_of s t levels) (past_nested (reads s t) s levels) 1 at x)

  past_end : (t : List ℕ) (st e : ℕ) (z : ℤ) (from at : ℕ) (x : State) → from ≤ at → Past (length s) from (constant_end s t st e z at x)
  unfolding constant_end
  past_end t st e z from at x l =
      past-at from at x _ l (λ k p v nx w. past_pick (length s) from (eqb k 59) (ok (with_constant t st e z) nx x) (no 2 p x) (λ b. w (other k 59 (λ q. omega arith) b)) (λ b. tt))

  past-constant-from : (t : List ℕ) (st e from : ℕ) (x : State) → from ≤ e → Past (length s) from (constant_from s t st e x)
  unfolding constant_from
  past-constant-from t st e from x l =
      past-at from e x _ l (λ k p v nx w.
      past_pick (length s) from (eqb k 189) _ (no 2 p x)
      (λ b. let h : (from < nx) × (from < length s) = w (other k 189 (λ q. omega arith) b) in
      past_then (length s) from (expression_of s t levels 1 nx x) _ (past_number t from nx x (omega arith)) (λ z at y l r. past_end t st e z from at y (omega arith))) (λ b. tt))

  past_constant : (t : List ℕ) (st e from : ℕ) (x : State) → from ≤ e → Past (length s) from (constant_of s t st e x)
  unfolding constant_of
  past_constant t st e from x l =
      past_pick (length s) from (is_known (looked_up s t st (e - st))) (no 4 st x) _ (λ b. tt) (λ b.
      past_pick (length s) from (allows x.0 constants_at 32) (constant_from s t st e (one_more x.0 constants_at 32, x.1)) (no 6 st x)
      (λ b. past-constant-from t st e from (one_more x.0 constants_at 32, x.1) l) (λ b. tt))

  past-closed-type : (z : ℤ) (from e : ℕ) (y : State) → from < e → from < length s → Past (length s) from (closed_type s z e y)
  unfolding closed_type
  past-closed-type z from e y l r =
      past_then (length s) from (closed s 93 z e y) _ (past_closed s 93 (λ q. omega arith) z from e y l r) (λ z e y l r. past_closed s 213 (λ q. omega arith) z from e y l r)

  past-length : (t : List ℕ) (from at : ℕ) (x : State) → from ≤ at → Past (length s) from (length_of s t at x)
  unfolding length_of
  past-length t from at x l =
      past-at from at x _ l (λ k p v nx w.
      past_then (length s) from (expression_of s t levels 1 at x) _ (past_number t from at x l) (λ z e y l r.
      past_pick (length s) from (is_length z) (closed_type s z e y) (no 5 p y) (λ b. past-closed-type z from e y l r) (λ b. tt)))

  past-type : (t : List ℕ) (from at : ℕ) (x : State) → from ≤ at → Past (length s) from (type_of s t at x)
  unfolding type_of
  past-type t from at x l =
      past-at from at x _ l (λ k p v nx w.
      past_pick (length s) from (eqb k 213) (ok (pos 0) nx x) _ (λ b. w (other k 213 (λ q. omega arith) b)) (λ b.
      past_pick (length s) from (eqb k 91) (length_of s t nx x) (no 2 p x)
      (λ b. let h : (from < nx) × (from < length s) = w (other k 91 (λ q. omega arith) b) in past-length t from nx x (omega arith)) (λ b. tt)))

  -- what is made of the elements does not move the place
  past-made : (from nx : ℕ) (o : Outcome State (List ℕ)) → from < nx → from < length s → Past (length s) from (and_then o (λ u e y. ok u nx y))
  past-made from nx (ok u e y) l r = (l, r)
  past-made from nx (no n p y) l r = tt

  past-list-end : (c : ℕ) (t : List ℕ) (first : ℕ) (z : ℤ) (from at : ℕ) (y : State) → from ≤ at → Past (length s) from (list_end s c t first z at y)
  unfolding list_end
  past-list-end c t first z from at y l =
      past-at from at y _ l (λ k p v nx w.
      past_pick (length s) from (eqb k 59) _ (no 2 p y)
      (λ b. let h : (from < nx) × (from < length s) = w (other k 59 (λ q. omega arith) b) in past-made from nx (elements_of s c (upward z) t first y) h.0 h.1) (λ b. tt))

  past-from-fresh : (c : ℕ) (t : List ℕ) (first : ℕ) (x : State) (o : Outcome (Unit {0}) ℕ) → Near first o → Past (length s) first (signals_from s c t first x o)
  past-from-fresh c t first x (ok v at u) l =
      past_then (length s) first (type_of s t at x) _ (past-type t first at x l) (λ z e y l r. past-list-end c t first z first e y (omega arith))
  past-from-fresh c t first x (no n p u) l = tt

  past-signals : (c : ℕ) (t : List ℕ) (first : ℕ) (x : State) → Past (length s) first (signals_of s c t first x)
  unfolding signals_of
  past-signals c t first x = past-from-fresh c t first x (fresh_of s t first) (near_fresh s t first first (omega arith))

  past-item : (c : ℕ) (t : List ℕ) (at st e : ℕ) (x : State) → at ≤ e → Past (length s) at (item_of s c t at st e x)
  unfolding item_of
  past-item c t at st e x l =
      past_pick (length s) at (eqb c 0) (constant_of s t st e x) (signals_of s c t at x) (λ b. past_constant t st e at x l) (λ b. past-signals c t at x)

  past-turned : (at : ℕ) (o : Outcome State (List ℕ)) → Past (length s) at o → PastT (length s) at (turned o)
  past-turned at (ok v e x) p = p
  past-turned at (no n q x) p = tt

  item-far : (c : ℕ) (t : List ℕ) (at : ℕ) (x : State) → PastT (length s) at (item_turn s c t at x)
  unfolding item_turn
  item-far c t at x =
      turn_word s at at x _ (omega arith) (λ k st v nx w.
      turn_pick (length s) at (eqb k 1) (turned (item_of s c t at st nx x)) (last (ok t at x))
      (λ b. let h : (at < nx) × (at < length s) = w (other k 1 (λ q. omega arith) b) in past-turned at (item_of s c t at st nx x) (past-item c t at st nx x (omega arith)))
      (λ b. omega arith))

  element-far : (c n : ℕ) (t : List ℕ) (at : ℕ) (x : State) → PastT (length s) at (element_turn s c n t at x)
  unfolding element_turn element_name
  element-far c n t at x =
      turn_word s at at x _ (omega arith) (λ k st v nx w.
      turn_pick (length s) at (eqb k 1) (element_name c n t st nx x) _
      (λ b. let h : (at < nx) × (at < length s) = w (other k 1 (λ q. omega arith) b) in
      turn_pick (length s) at (leb (get_or x.0 elements_at 0 + width_of n) 64) _ (last (no 6 st x)) (λ b. h) (λ b. tt)) (λ b.
      turn_pick (length s) at (eqb k 44) (more t nx x) (last (ok t at x)) (λ b. w (other k 44 (λ q. omega arith) b)) (λ b. omega arith)))

  module _ (c : ℕ) where
    abbrev pub items : List ℕ → ℕ → State → Outcome State (List ℕ)
    items t at x = repeat (item_turn s c) (suc (length s)) t at x

    pub items_more : (t u : List ℕ) (at e : ℕ) (x y : State) → item_turn s c t at x ≡ more u e y → items t at x ≡ items u e y
    items_more = repeat_more s (item_turn s c) (item-far c)

    pub items_last : (t : List ℕ) (at : ℕ) (x : State) (r : Outcome State (List ℕ)) → item_turn s c t at x ≡ last r → items t at x ≡ r
    items_last = repeat_last s (item_turn s c) (item-far c)

    pub items_falls : (t u : List ℕ) (at e : ℕ) (x y : State) → item_turn s c t at x ≡ more u e y → length s - e < length s - at
    items_falls = repeat_falls s (item_turn s c) (item-far c)

  module _ (c n : ℕ) where
    abbrev pub elements : List ℕ → ℕ → State → Outcome State (List ℕ)
    elements t at x = repeat (element_turn s c n) (suc (length s)) t at x

    pub elements_more : (t u : List ℕ) (at e : ℕ) (x y : State) → element_turn s c n t at x ≡ more u e y → elements t at x ≡ elements u e y
    elements_more = repeat_more s (element_turn s c n) (element-far c n)

    pub elements_last : (t : List ℕ) (at : ℕ) (x : State) (r : Outcome State (List ℕ)) → element_turn s c n t at x ≡ last r → elements t at x ≡ r
    elements_last = repeat_last s (element_turn s c n) (element-far c n)

    pub elements_falls : (t u : List ℕ) (at e : ℕ) (x y : State) → element_turn s c n t at x ≡ more u e y → length s - e < length s - at
    elements_falls = repeat_falls s (element_turn s c n) (element-far c n)

-- by the next word: a declaration, or the section's end
module _ (s : List ℕ) (c : ℕ) (t : List ℕ) (at : ℕ) (x : State) where
  module _ (k st v : ℕ) (p : Cursor) (w : Word k st v p ≡ next_word s at) where
    item-turns : eqb k 1 ≡ true → (o : Outcome State (List ℕ)) → o ≡ item_of s c t at st p.at x → item_turn s c t at x ≡ turned o
    unfolding item_turn
    item-turns h o q = rw (← w, h) (ap turned (sym q))

    pub item_more : eqb k 1 ≡ true → (u : List ℕ) (e : ℕ) (y : State) → ok u e y ≡ item_of s c t at st p.at x → items s c t at x ≡ items s c u e y
    item_more h u e y q = items_more s c t u at e x y (item-turns h (ok u e y) q)

    pub item_falls : eqb k 1 ≡ true → (u : List ℕ) (e : ℕ) (y : State) → ok u e y ≡ item_of s c t at st p.at x → length s - e < length s - at
    item_falls h u e y q = items_falls s c t u at e x y (item-turns h (ok u e y) q)

    pub item_last : eqb k 1 ≡ true → (n q : ℕ) (y : State) → no n q y ≡ item_of s c t at st p.at x → items s c t at x ≡ no n q y
    item_last h n q y r = items_last s c t at x (no n q y) (item-turns h (no n q y) r)

    pub items_end : eqb k 1 ≡ false → items s c t at x ≡ ok t at x
    items_end h = items_last s c t at x (ok t at x) (unfold item_turn in rw (← w, h) refl)

  pub items_none : (n q : ℕ) → Refused n q ≡ next_word s at → items s c t at x ≡ no n q x
  items_none n q w = items_last s c t at x (no n q x) (unfold item_turn in rw (← w) refl)

-- a name of a list, a comma, or what is behind the names
module _ (s : List ℕ) (c n : ℕ) (t : List ℕ) (at : ℕ) (x : State) where
  module _ (k st v : ℕ) (p : Cursor) (w : Word k st v p ≡ next_word s at) where
    name-turns : eqb k 1 ≡ true → (r : Turn State (List ℕ)) → r ≡ element_name c n t st p.at x → element_turn s c n t at x ≡ r
    unfolding element_turn
    name-turns h r q = rw (← w, h) (sym q)

    comma-turns : eqb k 1 ≡ false → eqb k 44 ≡ true → element_turn s c n t at x ≡ more t p.at x
    unfolding element_turn
    comma-turns g h = rw (← w, g, h) refl

    pub name_more : eqb k 1 ≡ true → (u : List ℕ) (e : ℕ) (y : State) → more u e y ≡ element_name c n t st p.at x → elements s c n t at x ≡ elements s c n u e y
    name_more h u e y q = elements_more s c n t u at e x y (name-turns h (more u e y) q)

    pub name_falls : eqb k 1 ≡ true → (u : List ℕ) (e : ℕ) (y : State) → more u e y ≡ element_name c n t st p.at x → length s - e < length s - at
    name_falls h u e y q = elements_falls s c n t u at e x y (name-turns h (more u e y) q)

    pub name_last : eqb k 1 ≡ true → (r : Outcome State (List ℕ)) → last r ≡ element_name c n t st p.at x → elements s c n t at x ≡ r
    name_last h r q = elements_last s c n t at x r (name-turns h (last r) q)

    pub comma_more : eqb k 1 ≡ false → eqb k 44 ≡ true → elements s c n t at x ≡ elements s c n t p.at x
    comma_more g h = elements_more s c n t t at p.at x x (comma-turns g h)

    pub comma_falls : eqb k 1 ≡ false → eqb k 44 ≡ true → length s - p.at < length s - at
    comma_falls g h = elements_falls s c n t t at p.at x x (comma-turns g h)

    pub names_end : eqb k 1 ≡ false → eqb k 44 ≡ false → elements s c n t at x ≡ ok t at x
    names_end g h = elements_last s c n t at x (ok t at x) (unfold element_turn in rw (← w, g, h) refl)

  pub names_none : (n' q : ℕ) → Refused n' q ≡ next_word s at → elements s c n t at x ≡ no n' q x
  names_none n' q w = elements_last s c n t at x (no n' q x) (unfold element_turn in rw (← w) refl)

-- sections, one by one
module _ (s : List ℕ) where
  unfoldable pub declared : List Section → List ℕ → ℕ → State → Outcome State (List ℕ)
  declared [] t at x = ok t at x
  declared (c ∷ cs) t at x = and_then (section_of s (class_of c) t at x) (λ u e y. declared cs u e y)

  pub all_declared : (at : ℕ) (x : State) → declared (Constants ∷ In ∷ Out ∷ Var ∷ []) [] at x ≡ declarations_of s at x
  unfolding declared declarations_of sections_of
  all_declared at x = refl

  module _ (l : List Section) (i : ℕ) (t : List ℕ) (at : ℕ) (x : State) where
    declared-next : (c : Section) → i < length l → declared (drop i l) t at x
        ≡ and_then (section_of s (class_of (get_or l i c)) t at x) (λ u e y. declared (drop (i + 1) l) u e y)
    unfolding declared
    declared-next c h = rw (drop-cons l i c) (simp add-one)

    pub declared_more : (c : Section) → i < length l → (u : List ℕ) (e : ℕ) (y : State) → ok u e y ≡ section_of s (class_of (get_or l i c)) t at x
        → declared (drop i l) t at x ≡ declared (drop (i + 1) l) u e y
    declared_more c h u e y q = declared-next c h ∙ ap (λ (o : Outcome State (List ℕ)). and_then o (λ u e y. declared (drop (i + 1) l) u e y)) (sym q)

    pub declared_stop : (c : Section) → i < length l → (n q : ℕ) (y : State) → no n q y ≡ section_of s (class_of (get_or l i c)) t at x
        → declared (drop i l) t at x ≡ no n q y
    declared_stop c h n q y r = declared-next c h ∙ ap (λ (o : Outcome State (List ℕ)). and_then o (λ u e y. declared (drop (i + 1) l) u e y)) (sym r)

    pub declared_end : length l ≤ i → declared (drop i l) t at x ≡ ok t at x
    unfolding declared
    declared_end h = rw (drop_of_length-le l h) refl
