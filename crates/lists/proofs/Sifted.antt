-- The sieve of a list: a name that ends at an empty cell stands nowhere in the list before, so the names are judged as `fresh_of` says.
-- Assumes nothing.
use mathlib.Core.Path.{◌≡◌, refl, sym, ap, ap₂, subst, ◌∙◌}
use mathlib.Core.Bool.{Bool, true, false, ◌&&◌, ◌||◌}
use mathlib.Core.List.{List, [], ◌∷◌}
use Prim.Native.Nat.{ℕ, min, zero, suc, ◌+◌, ◌-◌, ◌*◌, ◌<◌, ◌≤◌}
use native.Mathlib.Omega.{arith}
use lib.ListN.{length, get_or, take, drop, set, length-set, length-take, get_or-eq_default}
use lib.Seq.{get_or-set_same, get_or-set_other, get_or-take, get_or-drop}
use lib.Dec.{eqb, leb, ltb}
use borrow.Author.Tests.{ltb-true, ltb-false, leb-true, eqb-true, eqb-false, lt-ltb, le-ltb, le-leb, eq-eqb, ne_eqb}
use Rattle.basics.specs.Choice.{pick}
use Rattle.basics.proofs.Truth.{clash}
use Rattle.names.specs.Names.{Spelling, spelling, same_bytes, same, looked_up}
use Rattle.words.specs.declared.Cursor.{Cursor}
use Rattle.words.specs.Taken.{Taken}
use Rattle.words.specs.Taken.{Word, Refused}
use Rattle.words.specs.Words.{next_word}
use Rattle.grammar.specs.Outcome.{Outcome, ok, no, Turn, more, last}
use Rattle.lists.specs.Lists.{back_of, is_back, is_known, fresh_name, fresh_turn, fresh_of}
use Rattle.lists.specs.Sieve.{branch, spot, spot_of, is_new, noted, stands_by, name_by, turn_by, sieve_after, sieve_by}
use Rattle.lists.proofs.Laws.{back, rest, fresh_more, fresh_last, fresh_falls}
use Rattle.lists.proofs.Spelt.{Lies, name_lies, comma_lies}
use Rattle.lists.proofs.Before.{nearer, back_name, back_comma, back_self}

-- ---- spellings

same_self_bytes : (x : List ℕ) → same_bytes x x ≡ true
unfolding same_bytes
same_self_bytes [] = refl
same_self_bytes (a ∷ x) = rw (eq-eqb a a refl) (same_self_bytes x)

pub same_self : (w : Spelling) → same w w ≡ true
unfolding same
same_self w = rw (eq-eqb w.size w.size refl) (same_self_bytes w.bytes)

and_left : (a b : Bool) → (a && b) ≡ true → a ≡ true
and_left true b e = refl
and_left false b e = e

and_right : (a b : Bool) → (a && b) ≡ true → b ≡ true
and_right true b e = e
and_right false b e = absurd (clash (sym e))

bytes_equal : (x y : List ℕ) → same_bytes x y ≡ true → x ≡ y
unfolding same_bytes
bytes_equal [] [] e = refl
bytes_equal [] (b ∷ y) e = absurd (clash (sym e))
bytes_equal (a ∷ x) [] e = absurd (clash (sym e))
bytes_equal (a ∷ x) (b ∷ y) e =
    ap₂ (λ (i : ℕ) (l : List ℕ). i ∷ l) (eqb-true a b (and_left (eqb a b) (same_bytes x y) e)) (bytes_equal x y (and_right (eqb a b) (same_bytes x y) e))

-- what is spelt alike is one spelling
pub spelt_alike : (v w : Spelling) → same v w ≡ true → v ≡ w
unfolding same
spelt_alike v w e =
    ap₂ (λ (n : ℕ) (l : List ℕ). record { size = n; bytes = l }) (eqb-true v.size w.size (and_left _ (same_bytes v.bytes w.bytes) e))
    (bytes_equal v.bytes w.bytes (and_right (eqb v.size w.size) _ e))

-- ---- a search, a cell at a time

pub spot_out : (s l : List ℕ) (w : Spelling) (k d i : ℕ) → length l ≤ i → spot s l w k d i ≡ length l
unfolding spot
spot_out s l w zero d i h = refl
spot_out s l w (suc k) d i h = rw (le-ltb i (length l) h) refl

module _ (s l : List ℕ) (w : Spelling) (k d i : ℕ) where
  pub spot_empty : i < length l → get_or l i 0 ≡ 0 → spot s l w (suc k) d i ≡ i
  unfolding spot
  spot_empty h e = rw (lt-ltb i (length l) h, eq-eqb (get_or l i 0) 0 e) refl

  pub spot_found : i < length l → (get_or l i 0 ≡ 0 → ⊥) → same (spelling s (get_or l i 0 - 1) w.size) w ≡ true → spot s l w (suc k) d i ≡ length l
  unfolding spot
  spot_found h n e = rw (lt-ltb i (length l) h, ne_eqb (get_or l i 0) 0 n, e) refl

  pub spot_past : i < length l → (get_or l i 0 ≡ 0 → ⊥) → same (spelling s (get_or l i 0 - 1) w.size) w ≡ false
      → spot s l w (suc k) d i ≡ spot s l w k (d + 1) (2 * get_or l i 0 + 16 + branch w d)
  unfolding spot
  spot_past h n e = rw (lt-ltb i (length l) h, ne_eqb (get_or l i 0) 0 n, e) refl

-- a cell that a search ends at is empty
pub spot_free : (s l : List ℕ) (w : Spelling) (k d i : ℕ) → spot s l w k d i < length l → get_or l (spot s l w k d i) 0 ≡ 0
unfolding spot
spot_free s l w zero d i h = absurd (omega arith)
spot_free s l w (suc k) d i h =
    go (ltb i (length l)) (eqb (get_or l i 0) 0) (same (spelling s (get_or l i 0 - 1) w.size) w) refl refl refl
    (spot_free s l w k (d + 1) (2 * get_or l i 0 + 16 + branch w d))
  where
    Free : ℕ → Type 0
    Free c = c < length l → get_or l c 0 ≡ 0

    go : (a b c : Bool) → ltb i (length l) ≡ a → eqb (get_or l i 0) 0 ≡ b → same (spelling s (get_or l i 0 - 1) w.size) w ≡ c
        → Free (spot s l w k (d + 1) (2 * get_or l i 0 + 16 + branch w d)) → get_or l (spot s l w (suc k) d i) 0 ≡ 0
    go false b c p q r f = subst Free (sym (spot_out s l w (suc k) d i (ltb-false i (length l) p))) (λ z. absurd (omega arith)) h
    go true true c p q r f = subst Free (sym (spot_empty s l w k d i (ltb-true i (length l) p) (eqb-true _ _ q))) (λ z. eqb-true _ _ q) h
    go true false true p q r f = subst Free (sym (spot_found s l w k d i (ltb-true i (length l) p) (eqb-false _ _ q) r)) (λ z. absurd (omega arith)) h
    go true false false p q r f = subst Free (sym (spot_past s l w k d i (ltb-true i (length l) p) (eqb-false _ _ q) r)) f h

-- Cells that are not empty stay as they are: what is found stays found, and so does what ends at a cell that now holds its spelling.
module _ (s l m : List ℕ) (n : length m ≡ length l) (kept : (j : ℕ) → (get_or l j 0 ≡ 0 → ⊥) → get_or m j 0 ≡ get_or l j 0) (w : Spelling) where
  abbrev Filled : ℕ → Type 0
  Filled c = c < length l → (get_or m c 0 ≡ 0 → ⊥) × (same (spelling s (get_or m c 0 - 1) w.size) w ≡ true)

  abbrev Over : ℕ → Type 0
  Over c = length l ≤ c

  pub stays : (k d i : ℕ) → Filled (spot s l w k d i) → Over (spot s m w k d i)
  unfolding spot
  stays zero d i f = omega (arith, n)
  stays (suc k) d i f =
      go (ltb i (length l)) (eqb (get_or l i 0) 0) (same (spelling s (get_or l i 0 - 1) w.size) w) refl refl refl
      (λ g. stays k (d + 1) (2 * get_or l i 0 + 16 + branch w d) g)
    where
      all : Over (length m)
      all = omega (arith, n)

      go : (a b c : Bool) → ltb i (length l) ≡ a → eqb (get_or l i 0) 0 ≡ b → same (spelling s (get_or l i 0 - 1) w.size) w ≡ c
          → (Filled (spot s l w k (d + 1) (2 * get_or l i 0 + 16 + branch w d)) → Over (spot s m w k (d + 1) (2 * get_or l i 0 + 16 + branch w d)))
          → Over (spot s m w (suc k) d i)
      go false b c p q r g = let o : length l ≤ i = ltb-false i (length l) p in subst Over (sym (spot_out s m w (suc k) d i (omega (arith, n)))) all
      go true true c p q r g =
          let o : i < length l = ltb-true i (length l) p in
          let h : (get_or m i 0 ≡ 0 → ⊥) × (same (spelling s (get_or m i 0 - 1) w.size) w ≡ true) = subst Filled (spot_empty s l w k d i o (eqb-true _ _ q)) f o in
          subst Over (sym (spot_found s m w k d i (omega (arith, n)) h.0 h.1)) all
      go true false true p q r g =
          let o : i < length l = ltb-true i (length l) p in
          let z : get_or l i 0 ≡ 0 → ⊥ = eqb-false _ _ q in
          let e : get_or m i 0 ≡ get_or l i 0 = kept i z in
          subst Over (sym (spot_found s m w k d i (omega (arith, n)) (λ y. z (sym e ∙ y)) (ap (λ (c : ℕ). same (spelling s (c - 1) w.size) w) e ∙ r))) all
      go true false false p q r g =
          let o : i < length l = ltb-true i (length l) p in
          let z : get_or l i 0 ≡ 0 → ⊥ = eqb-false _ _ q in
          let e : get_or m i 0 ≡ get_or l i 0 = kept i z in
          subst Over (sym (spot_past s m w k d i (omega (arith, n)) (λ y. z (sym e ∙ y)) (ap (λ (c : ℕ). same (spelling s (c - 1) w.size) w) e ∙ r)
          ∙ ap (λ (c : ℕ). spot s m w k (d + 1) (2 * c + 16 + branch w d)) e)) (g (subst Filled (spot_past s l w k d i o z r) f))

-- ---- the loop of a search for the name of n bytes at st: bit d of 128 is the next

module _ (s l : List ℕ) (st n d i : ℕ) where
  abbrev pub seek : ℕ
  seek = spot s l (spelling s st n) (128 - d) d i

  one : d < 128 → seek ≡ spot s l (spelling s st n) (suc (127 - d)) d i
  one h = let e : 128 - d ≡ suc (127 - d) = omega arith in ap (λ (k : ℕ). spot s l (spelling s st n) k d i) e

  pub seek_out : length l ≤ i → seek ≡ length l
  seek_out h = spot_out s l (spelling s st n) (128 - d) d i h

  pub seek_end : 128 ≤ d → seek ≡ length l
  unfolding spot
  seek_end h = let e : 128 - d ≡ 0 = omega arith in ap (λ (k : ℕ). spot s l (spelling s st n) k d i) e

  module _ (h : d < 128) (o : i < length l) (c : ℕ) (q : c ≡ get_or l i 0) where
    pub seek_empty : c ≡ 0 → seek ≡ i
    seek_empty e = one h ∙ spot_empty s l (spelling s st n) (127 - d) d i o (sym q ∙ e)

    pub seek_found : (c ≡ 0 → ⊥) → same (spelling s (c - 1) n) (spelling s st n) ≡ true → seek ≡ length l
    unfolding spelling
    seek_found z e =
        one h ∙ spot_found s l (spelling s st n) (127 - d) d i o (λ y. z (q ∙ y)) (ap (λ (x : ℕ). same (spelling s (x - 1) n) (spelling s st n)) (sym q) ∙ e)

    pub seek_past : (c ≡ 0 → ⊥) → same (spelling s (c - 1) n) (spelling s st n) ≡ false → (b : ℕ) → b ≡ branch (spelling s st n) d
        → seek ≡ spot s l (spelling s st n) (128 - (d + 1)) (d + 1) (2 * c + 16 + b)
    unfolding spelling
    seek_past z e b g =
        let w : Spelling = spelling s st n in
        let y : 127 - d ≡ 128 - (d + 1) = omega arith in
        one h ∙ spot_past s l w (127 - d) d i o (λ y. z (q ∙ y)) (ap (λ (x : ℕ). same (spelling s (x - 1) n) w) (sym q) ∙ e)
        ∙ ap (λ (k : ℕ). spot s l w k (d + 1) (2 * get_or l i 0 + 16 + branch w d)) y
        ∙ ap₂ (λ (x v : ℕ). spot s l w (128 - (d + 1)) (d + 1) (2 * x + 16 + v)) (sym q) (sym g)

-- ---- bytes of a spelling

module _ (s : List ℕ) (st n j : ℕ) where
  byte_at : j < n → get_or (spelling s st n).bytes j 0 ≡ get_or s (st + j) 0
  unfolding spelling
  byte_at h = get_or-take n (drop st s) j 0 h ∙ get_or-drop st s j 0

  pub byte_from : j < n → get_or (spelling s st n).bytes j 0 ≡ get_or (drop (min st (length s)) s) j 0
  byte_from h = byte_at h ∙ sym (get_or-drop (min st (length s)) s j 0 ∙ go (ltb st (length s)) refl)
    where
      go : (b : Bool) → ltb st (length s) ≡ b → get_or s (min st (length s) + j) 0 ≡ get_or s (st + j) 0
      go true e = let l : st < length s = ltb-true _ _ e in ap (λ (i : ℕ). get_or s (i + j) 0) (omega arith)
      go false e = let l : length s ≤ st = ltb-false _ _ e in get_or-eq_default s 0 (omega arith) ∙ sym (get_or-eq_default s 0 (omega arith))

  pub byte_behind : n ≤ j → get_or (spelling s st n).bytes j 0 ≡ 0
  unfolding spelling
  byte_behind h = get_or-eq_default (take n (drop st s)) 0 (let e = length-take n (drop st s) in omega arith)

-- ---- a name that is noted

module _ (s l : List ℕ) where
  abbrev Kept : List ℕ → Type 0
  Kept m = (length m ≡ length l) × ((j : ℕ) → (get_or l j 0 ≡ 0 → ⊥) → get_or m j 0 ≡ get_or l j 0)

  -- a store into an empty cell
  kept_set : (c v : ℕ) → get_or l c 0 ≡ 0 → Kept (set l c v)
  kept_set c v e = (length-set l c v, λ j z. get_or-set_other l c j v 0 (λ y. z (ap (λ (i : ℕ). get_or l i 0) y ∙ e)))

  module _ (st n : ℕ) where
    new-spot : is_new s l st n ≡ true → spot_of s l (spelling s st n) < length l
    unfolding is_new
    new-spot = go (leb (length s) 65535) (ltb st 65535)
      where
        go : (a b : Bool) → pick a (pick b (ltb (spot_of s l (spelling s st n)) (length l)) false) false ≡ true → spot_of s l (spelling s st n) < length l
        go true true e = ltb-true _ _ e
        go true false e = absurd (clash (sym e))
        go false b e = absurd (clash (sym e))

    new-short : is_new s l st n ≡ true → length s ≤ 65535
    unfolding is_new
    new-short = go (leb (length s) 65535) refl
      where
        go : (a : Bool) → leb (length s) 65535 ≡ a → pick a (pick (ltb st 65535) (ltb (spot_of s l (spelling s st n)) (length l)) false) false ≡ true → length s ≤ 65535
        go true q e = leb-true _ _ q
        go false q e = absurd (clash (sym e))

    new_is : length s ≤ 65535 → st < 65535 → is_new s l st n ≡ ltb (spot_of s l (spelling s st n)) (length l)
    unfolding is_new
    new_is a b = rw (le-leb _ _ a, lt-ltb _ _ b) refl

    kept-noted : Kept (noted s l st n)
    unfolding noted
    kept-noted = go (is_new s l st n) refl
      where
        go : (b : Bool) → is_new s l st n ≡ b → Kept (pick b (set l (spot_of s l (spelling s st n)) (st + 1)) l)
        go true e = kept_set (spot_of s l (spelling s st n)) (st + 1) (unfold spot_of in spot_free s l (spelling s st n) 128 0 _ (new-spot e))
        go false e = (refl, λ j z. refl)

  pub noted_length : (st n : ℕ) → length (noted s l st n) ≡ length l
  noted_length st n = (kept-noted st n).0

  -- what may stand in the sieve may stand in it when more is noted
  still : (st n : ℕ) (w : Spelling) → length l ≤ spot_of s l w → length l ≤ spot_of s (noted s l st n) w
  unfolding spot_of
  still st n w h =
      let k : Kept (noted s l st n) = kept-noted st n in
      stays s l (noted s l st n) k.0 k.1 w 128 0 w.size (λ o. absurd (omega arith))

  -- and so may the name that is noted
  now : (st n : ℕ) → length s ≤ 65535 → st < 65535 → length l ≤ spot_of s (noted s l st n) (spelling s st n)
  now st n a b = go (is_new s l st n) refl
    where
      w : Spelling
      w = spelling s st n

      c : ℕ
      c = spot_of s l w

      stored : is_new s l st n ≡ true → noted s l st n ≡ set l c (st + 1)
      stored e = unfold noted in rw e refl

      filled : is_new s l st n ≡ true → (get_or (noted s l st n) c 0 ≡ 0 → ⊥) × (same (spelling s (get_or (noted s l st n) c 0 - 1) w.size) w ≡ true)
      filled e =
          let v : get_or (noted s l st n) c 0 ≡ st + 1 = ap (λ (m : List ℕ). get_or m c 0) (stored e) ∙ get_or-set_same l c (st + 1) 0 (new-spot st n e) in
          let u : get_or (noted s l st n) c 0 - 1 ≡ st = omega (arith, v) in
          ((λ z. omega (arith, v, z)), ap (λ (i : ℕ). same (spelling s i w.size) w) u ∙ unfold spelling in same_self w)

      go : (x : Bool) → is_new s l st n ≡ x → length l ≤ spot_of s (noted s l st n) w
      go true e =
          let k : Kept (noted s l st n) = kept-noted st n in
          unfold spot_of in stays s l (noted s l st n) k.0 k.1 w 128 0 w.size (λ o. filled e)
      go false e = still st n w (ltb-false _ _ (sym (new_is st n a b) ∙ e))

-- ---- along a list

-- from first up to a place: a name from there on that is surely new to the sieve is not among those before, so it is looked for from there on
pub record Sifted (s : List ℕ) (first : ℕ) (l : List ℕ) (at : ℕ) : Type 0 where
  pub says : (st e : ℕ) → Lies s at st e true → is_new s l st (e - st) ≡ true → is_back (back s st e first) ≡ is_back (back s st e at)

pub sift_start : (s : List ℕ) (first : ℕ) (l : List ℕ) → Sifted s first l first
sift_start s first l = record { says = λ st e h n. refl }

module _ (s : List ℕ) (first : ℕ) (l : List ℕ) (at : ℕ) (f : Sifted s first l at) (st v : ℕ) (c : Cursor) where
  pub sift_comma : next_word s at ≡ Word 44 st v c → Sifted s first l c.at
  sift_comma q = record { says = λ st' e' h n. f.says st' e' (nearer s at c.at st' e' true near h) n ∙ ap is_back (back_comma s at st v c q st' e' h) }
    where
      near : at ≤ c.at
      near =
          let o₁ = (comma_lies s at 44 st v c q refl).behind in
          let o₂ = (comma_lies s at 44 st v c q refl).some in
          omega arith

  module _ (q : next_word s at ≡ Word 1 st v c) where
    lies : Lies s at st c.at true
    lies = name_lies s at 1 st v c q refl

    -- what is new behind the name is spelt otherwise, and was new before it
    unlike : (st' n : ℕ) → is_new s (noted s l st (c.at - st)) st' n ≡ true → same (spelling s st (c.at - st)) (spelling s st' n) ≡ false
    unlike st' n e = go (same (spelling s st (c.at - st)) (spelling s st' n)) refl
      where
        m : List ℕ
        m = noted s l st (c.at - st)

        go : (b : Bool) → same (spelling s st (c.at - st)) (spelling s st' n) ≡ b → b ≡ false
        go false x = refl
        go true x =
            let o₁ : spot_of s m (spelling s st' n) < length m = new-spot s m st' n e in
            let o₂ : length s ≤ 65535 = new-short s m st' n e in
            let o₃ : st < length s = lies.within in
            let o₄ : length l ≤ spot_of s m (spelling s st (c.at - st)) = now s l st (c.at - st) o₂ (omega arith) in
            let o₅ : length l ≤ spot_of s m (spelling s st' n) = subst (λ (w : Spelling). length l ≤ spot_of s m w) (spelt_alike _ _ x) o₄ in
            let o₆ : length m ≡ length l = noted_length s l st (c.at - st) in
            absurd (omega (arith, o₁, o₅, o₆))

    before : (st' n : ℕ) → st' < length s → is_new s (noted s l st (c.at - st)) st' n ≡ true → is_new s l st' n ≡ true
    before st' n o₃ e = new_is s l st' n o₂ (omega (arith, o₂)) ∙ go (ltb (spot_of s l (spelling s st' n)) (length l)) refl
      where
        m : List ℕ
        m = noted s l st (c.at - st)

        o₂ : length s ≤ 65535
        o₂ = new-short s m st' n e

        go : (b : Bool) → ltb (spot_of s l (spelling s st' n)) (length l) ≡ b → ltb (spot_of s l (spelling s st' n)) (length l) ≡ true
        go true x = x
        go false x =
            let o₁ : spot_of s m (spelling s st' n) < length m = new-spot s m st' n e in
            let o₅ : length l ≤ spot_of s m (spelling s st' n) = still s l st (c.at - st) (spelling s st' n) (ltb-false _ _ x) in
            let o₆ : length m ≡ length l = noted_length s l st (c.at - st) in
            absurd (omega (arith, o₁, o₅, o₆))

    pub sift_name : Sifted s first (noted s l st (c.at - st)) c.at
    sift_name =
        record {
          says = λ st' e' h n. f.says st' e' (nearer s at c.at st' e' true near h) (before st' (e' - st') h.within n)
              ∙ back_name s at st v c q st' e' h ∙ ap (λ (b : Bool). b || is_back (back s st' e' c.at)) (unlike st' (e' - st') n);
        }
      where
        near : at ≤ c.at
        near = let o₁ = lies.behind in let o₂ = lies.some in omega arith

    -- so a name stands in its list before just where it is found by reading the list again
    pub sift_stands : stands_by s l first st c.at ≡ is_back (back_of s first st c.at)
    unfolding stands_by back_of
    sift_stands = go (is_new s l st (c.at - st)) refl
      where
        go : (b : Bool) → is_new s l st (c.at - st) ≡ b → pick b false (is_back (back s st c.at first)) ≡ is_back (back s st c.at first)
        go true e = sym (f.says st c.at lies e ∙ back_self s at st v c q c.at)
        go false e = refl

-- a word at a time
module _ (s t : List ℕ) (first : ℕ) (l : List ℕ) (at : ℕ) (f : Sifted s first l at) where
  kind-one : (k st v : ℕ) (c : Cursor) → next_word s at ≡ Word k st v c → (j : ℕ) → eqb k j ≡ true → next_word s at ≡ Word j st v c
  kind-one k st v c q j e = q ∙ ap (λ (i : ℕ). Word i st v c) (eqb-true k j e)

  pub turn_is : turn_by s t l first at ≡ fresh_turn s t first 0 at tt
  turn_is = go (next_word s at) refl
    where
      name : (k st v : ℕ) (c : Cursor) → next_word s at ≡ Word k st v c → (r : Turn (Unit {0}) ℕ) (b : Bool) → eqb k 1 ≡ b
          → pick b (name_by s t l first st c.at) r ≡ pick b (fresh_name s t first st c.at) r
      name k st v c q r true e = unfold name_by fresh_name in rw (sift_stands s first l at f st v c (kind-one k st v c q 1 e)) refl
      name k st v c q r false e = refl

      go : (w : Taken) → next_word s at ≡ w → turn_by s t l first at ≡ fresh_turn s t first 0 at tt
      go (Word k st v c) q = unfold turn_by fresh_turn in rw q (name k st v c q _ (eqb k 1) refl)
      go (Refused n p) q = unfold turn_by fresh_turn in rw q refl

  abbrev Goes : Turn (Unit {0}) ℕ → Type 0
  Goes (more v e x) = Sifted s first (sieve_by s l at) e
  Goes (last r) = Unit {0}

  goes-pick : (b : Bool) (x y : Turn (Unit {0}) ℕ) → (b ≡ true → Goes x) → (b ≡ false → Goes y) → Goes (pick b x y)
  goes-pick true x y p q = p refl
  goes-pick false x y p q = q refl

  goes : Goes (fresh_turn s t first 0 at tt)
  goes = go (next_word s at) refl
    where
      name : (k st v : ℕ) (c : Cursor) → next_word s at ≡ Word k st v c → eqb k 1 ≡ true → Sifted s first (sieve_by s l at) c.at
      name k st v c q e = unfold sieve_by in rw (q, e) (sift_name s first l at f st v c (kind-one k st v c q 1 e))

      comma : (k st v : ℕ) (c : Cursor) → next_word s at ≡ Word k st v c → eqb k 1 ≡ false → eqb k 44 ≡ true → Sifted s first (sieve_by s l at) c.at
      comma k st v c q e g = unfold sieve_by in rw (q, e) (sift_comma s first l at f st v c (kind-one k st v c q 44 g))

      go : (w : Taken) → next_word s at ≡ w → Goes (fresh_turn s t first 0 at tt)
      go (Word k st v c) q =
          unfold fresh_turn fresh_name in rw q (
          goes-pick (eqb k 1) _ _
          (λ e. goes-pick (is_known (looked_up s t st (c.at - st))) (last (no 4 st tt)) _ (λ b. tt) (λ b.
          goes-pick (is_back (back_of s first st c.at)) (last (no 4 st tt)) (more 0 c.at tt) (λ b. tt) (λ b. name k st v c q e))) (λ e.
          goes-pick (eqb k 44) (more 0 c.at tt) _ (λ b. comma k st v c q e b) (λ b.
          goes-pick (eqb k 58) (last (ok 0 c.at tt)) (last (no 2 st tt)) (λ b. tt) (λ b. tt))))
      go (Refused n p) q = unfold fresh_turn in rw q tt

  pub sift_more : (n : ℕ) → fresh_turn s t first 0 at tt ≡ more 0 n tt → Sifted s first (sieve_by s l at) n
  sift_more n q = subst Goes q goes

pub sieve_length : (s l : List ℕ) (at : ℕ) → length (sieve_by s l at) ≡ length l
unfolding sieve_by
sieve_length s l at = go (next_word s at)
  where
    by : (st n : ℕ) (b : Bool) → length (pick b (noted s l st n) l) ≡ length l
    by st n true = noted_length s l st n
    by st n false = refl

    go : (w : Taken) → length (sieve_after s l w) ≡ length l
    go (Word k st v c) = by st (c.at - st) (eqb k 1)
    go (Refused n p) = refl

-- ---- the loop along a list, whose sieve is k at first

pub record Along (s t : List ℕ) (first : ℕ) (k l : List ℕ) (at : ℕ) : Type 0 where
  pub left : rest s t first at ≡ fresh_of s t first
  pub sifted : Sifted s first l at
  pub size : length l ≡ length k

pub along_start : (s t : List ℕ) (first : ℕ) (k : List ℕ) → Along s t first k k first
along_start s t first k = record { left = unfold fresh_of in refl; sifted = sift_start s first k; size = refl }

module _ (s t : List ℕ) (first : ℕ) (k l : List ℕ) (at : ℕ) (f : Along s t first k l at) where
  pub along_falls : (n : ℕ) → turn_by s t l first at ≡ more 0 n tt → length s - n < length s - at
  along_falls n q = fresh_falls s t first at n (sym (turn_is s t first l at f.sifted) ∙ q)

  pub along_size : (m : List ℕ) → m ≡ sieve_by s l at → length m ≡ length k
  along_size m e = ap length e ∙ sieve_length s l at ∙ f.size

  pub along_more : (n : ℕ) → turn_by s t l first at ≡ more 0 n tt → (m : List ℕ) → m ≡ sieve_by s l at → Along s t first k m n
  along_more n q m e =
      let g : fresh_turn s t first 0 at tt ≡ more 0 n tt = sym (turn_is s t first l at f.sifted) ∙ q in
      record {
        left = sym (fresh_more s t first at n g) ∙ f.left;
        sifted = subst (λ (x : List ℕ). Sifted s first x n) (sym e) (sift_more s t first l at f.sifted n g);
        size = along_size m e;
      }

  pub along_last : (r : Outcome (Unit {0}) ℕ) → turn_by s t l first at ≡ last r → r ≡ fresh_of s t first
  along_last r q = sym (fresh_last s t first at r (sym (turn_is s t first l at f.sifted) ∙ q)) ∙ f.left
