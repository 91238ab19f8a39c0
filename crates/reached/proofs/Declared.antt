-- Stage 3 never passes a bound: at every place of the declarations there are at most five numbers for each constant and each element that was counted, so a
-- name is always added; and a place of a text is always noted.
-- Assumes nothing.
use mathlib.Core.Path.{◌≡◌, refl, sym, ap, subst, ◌∙◌}
use mathlib.Core.Bool.{Bool, true, false}
use mathlib.Core.List.{List, []}
use Prim.Native.Nat.{ℕ, zero, suc, ◌+◌, ◌-◌, ◌*◌, ◌<◌, ◌≤◌}
use native.Mathlib.Omega.{arith}
use lib.ListN.{length, get_or, set, length-set}
use lib.Seq.{get_or-set_same, get_or-set_other}
use lib.Dec.{eqb, leb, ltb}
use lib.IntN.{ℤ, pos, negsuc}
use borrow.Author.Tests.{leb-true, ltb-true}
use Rattle.basics.specs.Choice.{pick}
use Rattle.names.specs.Names.{looked_up, extended, number_of}
use Rattle.grammar.specs.Outcome.{Outcome, ok, no, built, bad, more, last, levels}
use Rattle.grammar.specs.Grammar.{closed, turned}
use Rattle.grammar.proofs.Chain.{other}
use Rattle.judging.specs.Reading.{State, emitted}
use Rattle.readers.specs.Readers.{expression_of}
use Rattle.equations.proofs.Still.{Leaves, reads_still}
use Rattle.trees.specs.Layout.{start_at, parts_length}
use Rattle.parts.specs.Parts.{elements_at, constants_at, allows, one_more, declared_from}
use Rattle.simple.specs.Statements.{upward}
use Rattle.lists.specs.Lists.{is_known, fresh_of, is_length, closed_type, length_on, length_of, type_of}
use Rattle.declare.specs.Declarations.{with_constant, width_of, element_name, constant_end, constant_from, constant_of, element_turn, elements_of, list_end, signals_from, signals_of, item_of, item_turn, items_of, section_of, sections_of, declarations_of}
use Rattle.reached.proofs.Unbounded as free
use Rattle.reached.proofs.Numbers.{Bounded}
use Rattle.reached.proofs.Holds.{HoldsB, Holds}
use Rattle.reached.proofs.Known.{AllFair, width_some, expression_keeps}
use Rattle.reached.proofs.Both.{Fine, Both, fine_pick, both_pick, fine_word, both_word, ok_same, fine_then, both_then, BothT, turn_pick, turn_word, more_same, turn_turned, both_repeat}
use Rattle.reached.proofs.Notes.{extended_adds, declared_free, declared_size, declared_leaves}

-- ---- numbers leave the state, and are within bounds

abbrev Nothing : State → Type 0
Nothing x = Unit {0}

-- a number that leaves the state x
abbrev pub Read : State → ℤ → State → Type 0
Read x z y = Bounded z × (y ≡ x)

read : (x : State) (o : Outcome State ℤ) → Holds Nothing Bounded o → Leaves x o → Fine (Read x) o
read x (ok v e y) h l = (h.0, l)
read x (no n p y) h l = tt

wrote : (c p : ℕ) (x : State) → c ≤ 72 → Nothing x → HoldsB Nothing Bounded (emitted c p x)
unfolding emitted
wrote c p x h q = outer (ltb x.1 2048)
  where
    inside : (b : Bool) → HoldsB Nothing Bounded (pick b (built (pos 0) (set x.0 x.1 c, x.1 + 1)) (bad 6 p x))
    inside true = (refl, tt)
    inside false = tt

    outer : (b : Bool) → HoldsB Nothing Bounded (pick b (pick (ltb x.1 (length x.0)) (built (pos 0) (set x.0 x.1 c, x.1 + 1)) (bad 6 p x)) (bad 6 p x))
    outer true = inside (ltb x.1 (length x.0))
    outer false = tt

pub number_read : (s t : List ℕ) (d at : ℕ) (x : State) → AllFair t → Fine (Read x) (expression_of s t d 1 at x)
number_read s t d at x f = read x (expression_of s t d 1 at x) (expression_keeps s t f Nothing wrote d 1 at x tt) (reads_still s t x d 1 at refl)

-- ---- what holds while declarations are read: j names are counted that are not yet added

pub record Room (j : ℕ) (t : List ℕ) (x : State) : Type 0 where
  pub fair : AllFair t
  pub size : length x.0 ≡ 2588
  pub nodes : x.1 ≤ 2048
  pub constants : get_or x.0 constants_at 0 ≤ 32
  pub elements : get_or x.0 elements_at 0 ≤ 64
  pub names : length t + 5 * j ≤ 5 * (get_or x.0 constants_at 0 + get_or x.0 elements_at 0)
  -- no element is assigned or has a position
  pub blank : (k : ℕ) → start_at ≤ k → k < parts_length → get_or x.0 k 0 ≡ 0

-- what the memory holds, and a count of nodes
abbrev pub with_count : List ℕ → ℕ → State
with_count l n = (l, n)

room_state : (j : ℕ) (t : List ℕ) (x y : State) → y ≡ x → Room j t x → Room j t y
room_state j t x y e r = subst (λ (z : State). Room j t z) (sym e) r

-- ---- a constant

fair_constant : (t : List ℕ) (st e : ℕ) (z : ℤ) → Bounded z → AllFair t → AllFair (free.with_constant t st e z)
unfolding AllFair number_of
fair_constant t st e (pos m) h f = (record { says = λ n. h; among = λ q. absurd (omega arith) }, f)
fair_constant t st e (negsuc m) h f = (record { says = λ n. h; among = λ q. absurd (omega arith) }, f)

constant_size : (t : List ℕ) (st e : ℕ) (z : ℤ) → length (free.with_constant t st e z) ≡ length t + 5
constant_size t st e (pos m) = let q : suc (suc (suc (suc (suc (length t))))) ≡ length t + 5 = omega arith in q
constant_size t st e (negsuc m) = let q : suc (suc (suc (suc (suc (length t))))) ≡ length t + 5 = omega arith in q

constant_adds : (t : List ℕ) (st e : ℕ) (z : ℤ) → length t ≤ 635 → st ≤ 65535 → e ≤ 65535 → with_constant t st e z ≡ free.with_constant t st e z
constant_adds t st e (pos m) h a b = extended_adds t st (e - st) 1 m 0 h a (omega arith)
constant_adds t st e (negsuc m) h a b = extended_adds t st (e - st) 1 m 1 h a (omega arith)

-- one more at k is counted
counted : (l : List ℕ) (k n : ℕ) → allows l k n ≡ true → one_more l k n ≡ set l k (get_or l k 0 + 1)
unfolding one_more
counted l k n e = simp e

module _ (s : List ℕ) (small : length s ≤ 32768) where
  constant-end : (t : List ℕ) (st e : ℕ) (z : ℤ) (at : ℕ) (y : State) → st < length s → e ≤ length s + 2 → Bounded z → Room 1 t y
      → Both (Room 0) (constant_end s t st e z at y) (free.constant_end s t st e z at y)
  unfolding constant_end free.constant_end
  constant-end t st e z at y a b h r =
      both_word (Room 0) s at y _ _ (λ k p v nx w.
      both_pick (Room 0) (eqb k 59) (ok (with_constant t st e z) nx y) (no 2 p y) (ok (free.with_constant t st e z) nx y) (no 2 p y)
      (λ q. ok_same (Room 0) (with_constant t st e z) (free.with_constant t st e z) nx y y adds refl (subst (λ (u : List ℕ). Room 0 u y) (sym adds) added)) (λ q. (refl, tt)))
    where
      adds : with_constant t st e z ≡ free.with_constant t st e z
      adds = let c = r.constants in let m = r.elements in let n = r.names in constant_adds t st e z (omega arith) (omega arith) (omega arith)

      added : Room 0 (free.with_constant t st e z) y
      added =
          let n = r.names in
          let q = constant_size t st e z in
          record {
            fair = fair_constant t st e z h r.fair;
            size = r.size;
            nodes = r.nodes;
            constants = r.constants;
            elements = r.elements;
            names = omega arith;
            blank = r.blank;
          }

  constant-from : (t : List ℕ) (st e : ℕ) (x : State) → st < length s → e ≤ length s + 2 → Room 1 t x
      → Both (Room 0) (constant_from s t st e x) (free.constant_from s t st e x)
  unfolding constant_from free.constant_from
  constant-from t st e x a b r =
      both_word (Room 0) s e x _ _ (λ k p v nx w.
      both_pick (Room 0) (eqb k 189) _ (no 2 p x) _ (no 2 p x)
      (λ q. both_then (Read x) (Room 0) (expression_of s t levels 1 nx x) (expression_of s t levels 1 nx x) (constant_end s t st e) (free.constant_end s t st e)
      (refl, number_read s t levels nx x r.fair) (λ z at y h. constant-end t st e z at y a b h.0 (room_state 1 t x y h.1 r)))
      (λ q. (refl, tt)))

  constant-of : (t : List ℕ) (st e : ℕ) (x : State) → st < length s → e ≤ length s + 2 → Room 0 t x
      → Both (Room 0) (constant_of s t st e x) (free.constant_of s t st e x)
  unfolding constant_of free.constant_of allows
  constant-of t st e x a b r =
      both_pick (Room 0) (is_known (looked_up s t st (e - st))) (no 4 st x) _ (no 4 st x) _ (λ q. (refl, tt)) (λ q.
      both_pick (Room 0) (allows x.0 constants_at 32) _ (no 6 st x) _ (no 6 st x)
      (λ q. constant-from t st e (one_more x.0 constants_at 32, x.1) a b (more-constants q)) (λ q. (refl, tt)))
    where
      more-constants : allows x.0 constants_at 32 ≡ true → Room 1 t (one_more x.0 constants_at 32, x.1)
      more-constants q =
          let z = r.size in
          let c = r.constants in
          let n = r.names in
          let l : get_or x.0 constants_at 0 < 32 = ltb-true (get_or x.0 constants_at 0) 32 q in
          let v : ℕ = get_or x.0 constants_at 0 + 1 in
          let here : get_or (set x.0 constants_at v) constants_at 0 ≡ v = get_or-set_same x.0 constants_at v 0 (omega arith) in
          let there : get_or (set x.0 constants_at v) elements_at 0 ≡ get_or x.0 elements_at 0 = get_or-set_other x.0 constants_at elements_at v 0 (λ q. omega arith) in
          let m = r.elements in
          subst (λ (u : List ℕ). Room 1 t (u, x.1)) (sym (counted x.0 constants_at 32 q))
          (record {
            fair = r.fair;
            size = length-set x.0 constants_at v ∙ z;
            nodes = r.nodes;
            constants = omega arith;
            elements = omega arith;
            names = omega arith;
            blank = λ k g h. get_or-set_other x.0 constants_at k v 0 (λ q. omega arith) ∙ r.blank k g h;
          })

  -- ---- a name of a list

  fair_element : (t : List ℕ) (st e m n : ℕ) → m + width_of n ≤ 64 → AllFair t → AllFair (free.added t st e 2 m n)
  unfolding AllFair
  fair_element t st e m n h f = (record { says = λ q. absurd (q refl); among = λ q. h }, f)

  module _ (c n : ℕ) (t : List ℕ) (st e : ℕ) (x : State) (a : st < length s) (b : e ≤ length s + 2) (r : Room 0 t x) where
    -- the elements that there are, and how many the name has
    abbrev m : ℕ
    m = get_or x.0 elements_at 0

    abbrev w : ℕ
    w = width_of n

    adds : m + w ≤ 64 → BothT (Room 0) (Room 0) (more (extended t st (e - st) 2 m n) e (set (declared_from x.0 c st m w) elements_at (m + w), x.1))
        (more (free.added t st (e - st) 2 m n) e (set (free.declared_from x.0 c st m w) elements_at (m + w), x.1))
    adds h =
        let z = r.size in
        let k = r.constants in
        let o = r.names in
        let one = width_some n in
        let l : List ℕ = free.declared_from x.0 c st m w in
        let size = declared_size c st w x.0 m in
        let here : get_or (set l elements_at (m + w)) elements_at 0 ≡ m + w = get_or-set_same l elements_at (m + w) 0 (omega arith) in
        let there : get_or (set l elements_at (m + w)) constants_at 0 ≡ get_or x.0 constants_at 0 =
        get_or-set_other l elements_at constants_at (m + w) 0 (λ q. omega arith) ∙ declared_leaves c st w x.0 m constants_at h (omega arith) in
        let q : extended t st (e - st) 2 m n ≡ free.added t st (e - st) 2 m n = extended_adds t st (e - st) 2 m n (omega arith) (omega arith) (omega arith) in
        let d : declared_from x.0 c st m w ≡ l = declared_free c st (omega arith) w x.0 m in
        let room : Room 0 (free.added t st (e - st) 2 m n) (set l elements_at (m + w), x.1) =
        record {
          fair = fair_element t st (e - st) m n h r.fair;
          size = length-set l elements_at (m + w) ∙ size ∙ z;
          nodes = r.nodes;
          constants = omega arith;
          elements = omega arith;
          names = omega arith;
          blank = λ i g u. get_or-set_other l elements_at i (m + w) 0 (λ q. omega arith) ∙ declared_leaves c st w x.0 m i h g ∙ r.blank i g u;
        } in
        let y : State = (set (declared_from x.0 c st m w) elements_at (m + w), x.1) in
        let y' : State = (set l elements_at (m + w), x.1) in
        let same : y ≡ y' = ap (λ (u : List ℕ). with_count (set u elements_at (m + w)) x.1) d in
        more_same (Room 0) (Room 0) (extended t st (e - st) 2 m n) (free.added t st (e - st) 2 m n) e y y' q same
        (subst (λ (u : List ℕ). Room 0 u y) (sym q) (subst (λ (z : State). Room 0 (free.added t st (e - st) 2 m n) z) (sym same) room))

    element-name : BothT (Room 0) (Room 0) (element_name c n t st e x) (free.element_name c n t st e x)
    unfolding element_name free.element_name
    element-name =
        turn_pick (Room 0) (Room 0) (leb (m + w) 64) _ (last (no 6 st x)) _ (last (no 6 st x)) (λ q. adds (leb-true (m + w) 64 q)) (λ q. (refl, tt))

  element-turn : (c n : ℕ) (t : List ℕ) (at : ℕ) (x : State) → Room 0 t x → BothT (Room 0) (Room 0) (element_turn s c n t at x) (free.element_turn s c n t at x)
  unfolding element_turn free.element_turn
  element-turn c n t at x r =
      turn_word (Room 0) (Room 0) s at x _ _ (λ k st v nx w.
      turn_pick (Room 0) (Room 0) (eqb k 1) (element_name c n t st nx x) _ (free.element_name c n t st nx x) _
      (λ q. let h = w (other k 1 (λ z. omega arith) q) in element-name c n t st nx x h.starts h.ends r) (λ q.
      turn_pick (Room 0) (Room 0) (eqb k 44) (more t nx x) (last (ok t at x)) (more t nx x) (last (ok t at x)) (λ q. (refl, r)) (λ q. (refl, r))))

  elements-of : (c n : ℕ) (t : List ℕ) (at : ℕ) (x : State) → Room 0 t x → Both (Room 0) (elements_of s c n t at x) (free.elements_of s c n t at x)
  unfolding elements_of free.elements_of
  elements-of c n t at x r = both_repeat (λ j. Room 0) (Room 0) (element_turn s c n) (free.element_turn s c n) (λ j t at x r. element-turn c n t at x r) (suc (length s)) t at x r

  list-end : (c : ℕ) (t : List ℕ) (first : ℕ) (z : ℤ) (at : ℕ) (y : State) → Room 0 t y → Both (Room 0) (list_end s c t first z at y) (free.list_end s c t first z at y)
  unfolding list_end free.list_end
  list-end c t first z at y r =
      both_word (Room 0) s at y _ _ (λ k p v nx w.
      both_pick (Room 0) (eqb k 59) _ (no 2 p y) _ (no 2 p y)
      (λ q. both_then (Room 0) (Room 0) (elements_of s c (upward z) t first y) (free.elements_of s c (upward z) t first y) _ _ (elements-of c (upward z) t first y r) (λ u e y r. (refl, r)))
      (λ q. (refl, tt)))

  -- ---- a type leaves the state

  abbrev Same : State → ℤ → State → Type 0
  Same x z y = y ≡ x

  closed_same : (k : ℕ) (z : ℤ) (at : ℕ) (x y : State) → y ≡ x → Fine (Same x) (closed s k z at y)
  unfolding closed
  closed_same k z at x y e = fine_word (Same x) s at y _ (λ k' st v nx w. fine_pick (Same x) (eqb k' k) (ok z nx y) (no 2 st y) (λ q. e) (λ q. tt))

  type-same : (t : List ℕ) (at : ℕ) (x : State) → AllFair t → Fine (Same x) (type_of s t at x)
  unfolding type_of length_of closed_type
  type-same t at x f =
      fine_word (Same x) s at x _ (λ k p v nx w.
      fine_pick (Same x) (eqb k 213) (ok (pos 0) nx x) _ (λ q. refl) (λ q.
      fine_pick (Same x) (eqb k 91) (length_of s t nx x) (no 2 p x)
      (λ q. fine_word (Same x) s nx x _ (λ k p v nx' w.
      fine_then (Read x) (Same x) (expression_of s t levels 1 nx x) (length_on s p) (number_read s t levels nx x f) (λ z e y h.
      fine_pick (Same x) (is_length z) (closed_type s z e y) (no 5 p y)
      (λ q. fine_then (Same x) (Same x) (closed s 93 z e y) (closed s 213) (closed_same 93 z e x y h.1) (λ z e y h. closed_same 213 z e x y h)) (λ q. tt))))
      (λ q. tt)))

  signals_from_lem : (c : ℕ) (t : List ℕ) (first : ℕ) (x : State) (o : Outcome (Unit {0}) ℕ) → Room 0 t x
      → Both (Room 0) (signals_from s c t first x o) (free.signals_from s c t first x o)
  signals_from_lem c t first x (ok v at u) r =
      both_then (Same x) (Room 0) (type_of s t at x) (type_of s t at x) (list_end s c t first) (free.list_end s c t first) (refl, type-same t at x r.fair)
      (λ z e y h. list-end c t first z e y (room_state 0 t x y h r))
  signals_from_lem c t first x (no n p u) r = (refl, tt)

  -- ---- sections

  item-of : (c : ℕ) (t : List ℕ) (at st e : ℕ) (x : State) → st < length s → e ≤ length s + 2 → Room 0 t x
      → Both (Room 0) (item_of s c t at st e x) (free.item_of s c t at st e x)
  unfolding item_of free.item_of signals_of free.signals_of
  item-of c t at st e x a b r =
      both_pick (Room 0) (eqb c 0) (constant_of s t st e x) (signals_of s c t at x) (free.constant_of s t st e x) (free.signals_of s c t at x)
      (λ q. constant-of t st e x a b r) (λ q. signals_from_lem c t at x (fresh_of s t at) r)

  item-turn : (c : ℕ) (t : List ℕ) (at : ℕ) (x : State) → Room 0 t x → BothT (Room 0) (Room 0) (item_turn s c t at x) (free.item_turn s c t at x)
  unfolding item_turn free.item_turn
  item-turn c t at x r =
      turn_word (Room 0) (Room 0) s at x _ _ (λ k st v nx w.
      turn_pick (Room 0) (Room 0) (eqb k 1) (turned (item_of s c t at st nx x)) (last (ok t at x)) (turned (free.item_of s c t at st nx x)) (last (ok t at x))
      (λ q. let h = w (other k 1 (λ z. omega arith) q) in
      turn_turned (Room 0) (item_of s c t at st nx x) (free.item_of s c t at st nx x) (item-of c t at st nx x h.starts h.ends r)) (λ q. (refl, r)))

  section-of : (c : ℕ) (t : List ℕ) (at : ℕ) (x : State) → Room 0 t x → Both (Room 0) (section_of s c t at x) (free.section_of s c t at x)
  unfolding section_of free.section_of items_of free.items_of
  section-of c t at x r =
      both_word (Room 0) s at x _ _ (λ k st v nx w.
      both_pick (Room 0) (eqb k (208 + c)) (items_of s c t nx x) (ok t at x) (free.items_of s c t nx x) (ok t at x)
      (λ q. both_repeat (λ j. Room 0) (Room 0) (item_turn s c) (free.item_turn s c) (λ j t at x r. item-turn c t at x r) (suc (length s)) t nx x r) (λ q. (refl, r)))

  sections-of : (n c : ℕ) (t : List ℕ) (at : ℕ) (x : State) → Room 0 t x → Both (Room 0) (sections_of s n c t at x) (free.sections_of s n c t at x)
  unfolding sections_of free.sections_of
  sections-of zero c t at x r = (refl, r)
  sections-of (suc n) c t at x r =
      both_then (Room 0) (Room 0) (section_of s c t at x) (free.section_of s c t at x) _ _ (section-of c t at x r) (λ u e y r. sections-of n (c + 1) u e y r)

  -- the declarations of a text that is within its limit
  pub declarations_of_lem : (at : ℕ) (x : State) → Room 0 [] x → Both (Room 0) (declarations_of s at x) (free.declarations_of s at x)
  unfolding declarations_of free.declarations_of
  declarations_of_lem at x r = sections-of 4 0 [] at x r
