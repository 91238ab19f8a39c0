-- A list of signals, judged where it stands in the text, is judged as its tree says: its names are looked at again for those before each of them, and
-- once more for their elements.
-- Assumes nothing.
use mathlib.Core.Path.{◌≡◌, refl, ap, ◌∙◌}
use mathlib.Core.Bool.{Bool, true, false, ◌||◌}
use mathlib.Core.List.{List}
use Prim.Native.Nat.{ℕ, suc, ◌+◌, ◌-◌, ◌<◌, ◌≤◌}
use native.Mathlib.Omega.{arith}
use lib.ListN.{length, get_or, set}
use lib.Dec.{eqb, leb}
use borrow.Author.Tests.{eqb-true}
use Rattle.basics.specs.Choice.{pick}
use Rattle.words.specs.declared.Cursor.{Cursor}
use Rattle.words.specs.Taken.{Word}
use Rattle.words.specs.Words.{next_word}
use Rattle.names.specs.Names.{looked_up, extended, spelling, same}
use Rattle.grammar.specs.Outcome.{Outcome, ok, no, built, bad, more, last, after_built}
use Rattle.grammar.specs.Trees.{trees}
use Rattle.grammar.specs.Modules.{name_turn, another_name, name_list}
use Rattle.grammar.specs.Forms.{Names, first_name, and_name, tree_forms}
use Rattle.judging.specs.Reading.{State}
use Rattle.parts.specs.Parts.{elements_at, declared_from}
use Rattle.lists.specs.Lists.{is_known, back_of, is_back, fresh_name, fresh_turn, fresh_of}
use Rattle.lists.proofs.Laws.{back, rest, fresh_more, fresh_last}
use Rattle.declare.specs.Declarations.{width_of, element_name, element_turn, elements_of}
use Rattle.declare.proofs.Laws.{elements, elements_more, elements_last}
use Rattle.treewise.specs.Declared.{Fresh, new, old, also_new, element_in, elements_in, stands_in, fresh_in}
use Rattle.treewise.proofs.Trace.{When, when_t_pick, when_repeat, when_t_word, Stands}
use Rattle.treewise.proofs.Loops.{after_then, after_alike}
use Rattle.lists.proofs.Spelt.{Lies, name_lies, comma_lies}
use Rattle.lists.proofs.Before.{nearer, back_name, back_comma, back_self}

-- a walk along names that goes on where they are new
abbrev pub fresh_then : Fresh → Outcome (Unit {0}) ℕ → Outcome (Unit {0}) ℕ
fresh_then new r = r
fresh_then (old p) r = no 4 p tt

fresh_also : (f g : Fresh) (r : Outcome (Unit {0}) ℕ) → fresh_then f (fresh_then g r) ≡ fresh_then (also_new f g) r
fresh_also new g r = refl
fresh_also (old p) g r = refl

or_none : (b : Bool) → (b || false) ≡ b
or_none true = refl
or_none false = refl

or_moves : (a b c : Bool) → (a || (b || c)) ≡ ((a || b) || c)
or_moves true b c = refl
or_moves false b c = refl

module _ (s : List ℕ) where
  module _ (at st v : ℕ) (c : Cursor) where
    element-at : next_word s at ≡ Word 1 st v c → (k n : ℕ) (t : List ℕ) (y : State)
        → elements s k n t at y ≡ after_built (element_in k n t st c.at y) (λ u z. elements s k n u c.at z)
    unfolding element_in
    element-at q k n t y = go (leb (get_or y.0 elements_at 0 + width_of n) 64) refl
      where
        m : ℕ
        m = get_or y.0 elements_at 0

        names : List ℕ
        names = extended t st (c.at - st) 2 m n

        held : State
        held = (set (declared_from y.0 k st m (width_of n)) elements_at (m + width_of n), y.1)

        go : (b : Bool) → leb (m + width_of n) 64 ≡ b → elements s k n t at y ≡ after_built (pick b (built names held) (bad 6 st y)) (λ u z. elements s k n u c.at z)
        go true b = elements_more s k n t names at c.at y held (unfold element_turn element_name in rw (q, b) refl)
        go false b = elements_last s k n t at y (no 6 st y) (unfold element_turn element_name in rw (q, b) refl)

    element-comma : next_word s at ≡ Word 44 st v c → (k n : ℕ) (t : List ℕ) (y : State) → elements s k n t at y ≡ elements s k n t c.at y
    element-comma q k n t y = elements_more s k n t t at c.at y y turned_on
      where
        turned_on : element_turn s k n t at y ≡ more t c.at y
        turned_on = unfold element_turn in rw q refl

  pub element_colon : (at e k n : ℕ) (t : List ℕ) (y : State) → Stands s 58 at e → elements s k n t at y ≡ ok t at y
  element_colon at e k n t y w = elements_last s k n t at y (ok t at y) turned-last
    where
      turned-last : element_turn s k n t at y ≡ last (ok t at y)
      turned-last = unfold element_turn in rw w.taken refl

  module _ (first : ℕ) where
    fresh-comma : (t : List ℕ) (at st v : ℕ) (c : Cursor) → next_word s at ≡ Word 44 st v c → rest s t first at ≡ rest s t first c.at
    fresh-comma t at st v c q = fresh_more s t first at c.at turned_on
      where
        turned_on : fresh_turn s t first 0 at tt ≡ more 0 c.at tt
        turned_on = unfold fresh_turn in rw q refl

    pub fresh_colon : (t : List ℕ) (at e : ℕ) → Stands s 58 at e → rest s t first at ≡ ok 0 e tt
    fresh_colon t at e w = fresh_last s t first at (ok 0 w.next.at tt) turned-last ∙ ap (λ (i : ℕ). ok 0 i tt) w.ends
      where
        turned-last : fresh_turn s t first 0 at tt ≡ last (ok 0 w.next.at tt)
        turned-last = unfold fresh_turn in rw w.taken refl

    -- a name that is looked for among those before it
    fresh_at : (t : List ℕ) (at st v : ℕ) (c : Cursor) (b : Bool) → next_word s at ≡ Word 1 st v c → is_back (back s st c.at first) ≡ b
        → rest s t first at ≡ fresh_then (pick (is_known (looked_up s t st (c.at - st)) || b) (old st) new) (rest s t first c.at)
    fresh_at t at st v c b q h = go (is_known (looked_up s t st (c.at - st))) refl b h
      where
        go : (k : Bool) → is_known (looked_up s t st (c.at - st)) ≡ k → (b : Bool) → is_back (back s st c.at first) ≡ b
            → rest s t first at ≡ fresh_then (pick (k || b) (old st) new) (rest s t first c.at)
        go true k b h = fresh_last s t first at (no 4 st tt) (unfold fresh_turn fresh_name in rw (q, k) refl)
        go false k true h = fresh_last s t first at (no 4 st tt) (unfold fresh_turn fresh_name back_of in rw (q, k, h) refl)
        go false k false h = fresh_more s t first at c.at (unfold fresh_turn fresh_name back_of in rw (q, k, h) refl)

    -- names from the first to a place: who is among them, whether they are new, their elements
    pub record NamesAre (l : Names) (i : ℕ) : Type 0 where
      pub walked : (st e : ℕ) → Lies s i st e true → is_back (back s st e first) ≡ (stands_in s l st e || is_back (back s st e i))
      pub fresh : (t : List ℕ) → fresh_of s t first ≡ fresh_then (fresh_in s t l) (rest s t first i)
      pub made : (k n : ℕ) (t : List ℕ) (y : State) → elements_of s k n t first y ≡ after_built (elements_in k n t l y) (λ u z. elements s k n u i z)

    first-are : (st v : ℕ) (c : Cursor) → next_word s first ≡ Word 1 st v c → NamesAre (first_name st c.at) c.at
    unfolding stands_in fresh_in elements_in fresh_of elements_of
    first-are st v c q = record {
      walked = λ st' e' h. back_name s first st v c q st' e' h;
      fresh = λ t. fresh_at t first st v c false q (back_self s first st v c q c.at) ∙ ap (λ (b : Bool). fresh_then (pick b (old st) new) (rest s t first c.at)) (or_none (is_known (looked_up s t st (c.at - st))));
      made = λ k n t y. element-at first st v c q k n t y;
    }

    another-are : (l : Names) (i st₁ v₁ : ℕ) (c₁ : Cursor) (st v : ℕ) (c : Cursor) → next_word s i ≡ Word 44 st₁ v₁ c₁ → next_word s c₁.at ≡ Word 1 st v c
        → NamesAre l i → NamesAre (and_name l st c.at) c.at
    unfolding stands_in fresh_in elements_in
    another-are l i st₁ v₁ c₁ st v c q₁ q m = record {
      walked = λ st' e' h.
          m.walked st' e' (nearer s i c.at st' e' true far h)
          ∙ ap (λ (b : Bool). stands_in s l st' e' || b)
          (ap is_back (back_comma s i st₁ v₁ c₁ q₁ st' e' (nearer s c₁.at c.at st' e' true far₁ h)) ∙ back_name s c₁.at st v c q st' e' h)
          ∙ or_moves (stands_in s l st' e') (same (spelling s st (c.at - st)) (spelling s st' (e' - st'))) (is_back (back s st' e' c.at));
      fresh = λ t.
          m.fresh t
          ∙ ap (fresh_then (fresh_in s t l)) (fresh-comma t i st₁ v₁ c₁ q₁ ∙ fresh_at t c₁.at st v c (stands_in s l st c.at) q before)
          ∙ fresh_also (fresh_in s t l) (pick (is_known (looked_up s t st (c.at - st)) || stands_in s l st c.at) (old st) new) (rest s t first c.at);
      made = λ k n t y.
          m.made k n t y
          ∙ after_alike (elements_in k n t l y) (λ u z. elements s k n u i z) (λ u z. after_built (element_in k n u st c.at z) (λ u z. elements s k n u c.at z))
          (λ u z. element-comma i st₁ v₁ c₁ q₁ k n u z ∙ element-at c₁.at st v c q k n u z)
          ∙ after_then (elements_in k n t l y) (λ u z. element_in k n u st c.at z) (λ u z. elements s k n u c.at z);
    }
      where
        name : Lies s c₁.at st c.at true
        name = name_lies s c₁.at 1 st v c q refl

        comma : Lies s i st₁ c₁.at false
        comma = comma_lies s i 44 st₁ v₁ c₁ q₁ refl

        far₁ : c₁.at ≤ c.at
        far₁ = let a : c₁.at ≤ st = name.behind in let b : st < c.at = name.some in omega arith

        near : i ≤ c₁.at
        near = let a : i ≤ st₁ = comma.behind in let b : st₁ < c₁.at = comma.some in omega arith

        far : i ≤ c.at
        far = let a : i ≤ c₁.at = near in let b : c₁.at ≤ c.at = far₁ in omega arith

        before : is_back (back s st c.at first) ≡ stands_in s l st c.at
        before =
            m.walked st c.at (nearer s i c₁.at st c.at true near name)
            ∙ ap (λ (b : Bool). stands_in s l st c.at || b) (ap is_back (back_comma s i st₁ v₁ c₁ q₁ st c.at name) ∙ back_self s c₁.at st v c q c.at)
            ∙ or_none (stands_in s l st c.at)

    pub names_are : (st v : ℕ) (c : Cursor) → next_word s first ≡ Word 1 st v c → When NamesAre (name_list trees tree_forms s st c.at tt)
    unfolding name_list name_turn another_name
    names_are st v c q =
        when_repeat NamesAre NamesAre (name_turn trees tree_forms s) (λ l i m.
        when_t_word s NamesAre NamesAre i _ (λ k st₁ v₁ c₁ q₁.
        when_t_pick NamesAre NamesAre (eqb k 44) _ (last (ok l i tt))
        (λ b. when_t_word s NamesAre NamesAre c₁.at _ (λ k₂ st₂ v₂ c₂ q₂.
        when_t_pick NamesAre NamesAre (eqb k₂ 1) (more (and_name l st₂ c₂.at) c₂.at tt) (last (no 2 st₂ tt))
        (λ b₂. another-are l i st₁ v₁ c₁ st₂ v₂ c₂ (q₁ ∙ ap (λ (n : ℕ). Word n st₁ v₁ c₁) (eqb-true k 44 b)) (q₂ ∙ ap (λ (n : ℕ). Word n st₂ v₂ c₂) (eqb-true k₂ 1 b₂)) m)
        (λ b₂. tt))) (λ b. m)))
        (suc (length s)) (first_name st c.at) c.at (first-are st v c q)
