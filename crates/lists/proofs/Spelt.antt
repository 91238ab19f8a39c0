-- Names and commas of a text: where they lie, and that no name is spelt like a comma.
-- Assumes nothing.
use mathlib.Core.Path.{◌≡◌, refl, sym, ap, subst, ◌∙◌}
use mathlib.Core.Bool.{Bool, true, false, ◌&&◌}
use mathlib.Core.List.{List, [], ◌∷◌}
use Prim.Native.Nat.{ℕ, zero, suc, ◌+◌, ◌-◌, ◌<◌, ◌≤◌}
use native.Mathlib.Omega.{arith}
use lib.ListN.{length, get_or, take, drop}
use lib.Dec.{eqb, ltb}
use borrow.Author.Tests.{ltb-true, ne_eqb}
use Rattle.basics.specs.Choice.{pick}
use Rattle.basics.specs.Text.{text}
use Rattle.words.specs.Bytes.{turn_of, is_letter, is_digit, is_name_byte, is_single, is_pair}
use Rattle.words.specs.Words.{gap, end_of, value_of, of_two, of_three, of_four, of_five, of_six, keyword_of, named, word, name_at, number_at, pair_kind, pair_at, logic_at, form_at, word_at, after, next_word, prefixed}
use Rattle.words.specs.declared.Cursor.{Cursor}
use Rattle.words.specs.Taken.{Taken, Word, Refused, Gap, Here, Cut}
use Rattle.words.proofs.Laws.{left_cons, end_more}
use Rattle.words.proofs.Forward.{end_from}
use Rattle.names.specs.Names.{spelling, same_bytes, same}

abbrev Yes : Bool → Type 0
Yes true = Unit {0}
Yes false = ⊥

never : false ≡ true → ⊥
never q = subst Yes (sym q) tt

-- no reserved word has the kind of a comma
abbrev Apart : ℕ → Type 0
Apart k = eqb k 44 ≡ false

apart_pick : (b : Bool) (k m : ℕ) → Apart k → Apart m → Apart (pick b k m)
apart_pick true k m p q = p
apart_pick false k m p q = q

apart_two : (l : List ℕ) → Apart (of_two l)
unfolding of_two
apart_two l = go (prefixed (text "DO") l) (prefixed (text "IN") l) (prefixed (text "TS") l) (prefixed (text "OC") l) (prefixed (text "SR") l) (prefixed (text "IF") l)
  where
    go : (a b c d e f : Bool) → Apart (pick a 201 (pick b 209 (pick c 223 (pick d 224 (pick e 226 (pick f 228 1))))))
    go true b c d e f = refl
    go false true c d e f = refl
    go false false true d e f = refl
    go false false false true e f = refl
    go false false false false true f = refl
    go false false false false false true = refl
    go false false false false false false = refl

apart_three : (l : List ℕ) → Apart (of_three l)
unfolding of_three
apart_three l = go (prefixed (text "FOR") l) (prefixed (text "END") l) (prefixed (text "DIV") l) (prefixed (text "MOD") l) (prefixed (text "MUX") l) (prefixed (text "REG") l) (prefixed (text "OUT") l) (prefixed (text "VAR") l) (prefixed (text "BIT") l)
  where
    go : (a b c d e f g h i : Bool) → Apart (pick a 200 (pick b 202 (pick c 203 (pick d 204 (pick e 205 (pick f 206 (pick g 210 (pick h 211 (pick i 213 1)))))))))
    go true b c d e f g h i = refl
    go false true c d e f g h i = refl
    go false false true d e f g h i = refl
    go false false false true e f g h i = refl
    go false false false false true f g h i = refl
    go false false false false false true g h i = refl
    go false false false false false false true h i = refl
    go false false false false false false false true i = refl
    go false false false false false false false false true = refl
    go false false false false false false false false false = refl

apart_four : (l : List ℕ) → Apart (of_four l)
unfolding of_four
apart_four l = go (prefixed (text "TYPE") l) (prefixed (text "THEN") l) (prefixed (text "ELSE") l)
  where
    go : (a b c : Bool) → Apart (pick a 220 (pick b 229 (pick c 231 1)))
    go true b c = refl
    go false true c = refl
    go false false true = refl
    go false false false = refl

apart_five : (l : List ℕ) → Apart (of_five l)
unfolding of_five
apart_five l = go (prefixed (text "CONST") l) (prefixed (text "BEGIN") l) (prefixed (text "INOUT") l) (prefixed (text "LATCH") l) (prefixed (text "CLOCK") l) (prefixed (text "ELSIF") l)
  where
    go : (a b c d e f : Bool) → Apart (pick a 208 (pick b 212 (pick c 222 (pick d 225 (pick e 227 (pick f 230 1))))))
    go true b c d e f = refl
    go false true c d e f = refl
    go false false true d e f = refl
    go false false false true e f = refl
    go false false false false true f = refl
    go false false false false false true = refl
    go false false false false false false = refl

apart_six : (l : List ℕ) → Apart (of_six l)
unfolding of_six
apart_six l = go (prefixed (text "MODULE") l) (prefixed (text "IMPORT") l)
  where
    go : (a b : Bool) → Apart (pick a 207 (pick b 221 1))
    go true b = refl
    go false true = refl
    go false false = refl

apart_keyword : (l : List ℕ) (n : ℕ) → Apart (keyword_of l n)
unfolding keyword_of
apart_keyword l n =
    apart_pick (eqb n 2) (of_two l) _ (apart_two l)
    (apart_pick (eqb n 3) (of_three l) _ (apart_three l)
    (apart_pick (eqb n 4) (of_four l) _ (apart_four l)
    (apart_pick (eqb n 5) (of_five l) _ (apart_five l) (apart_pick (eqb n 6) (of_six l) 1 (apart_six l) refl))))

abbrev Unnamed : ℕ → Type 0
Unnamed k = eqb k 1 ≡ false

unnamed_pick : (b : Bool) (k m : ℕ) → Unnamed k → Unnamed m → Unnamed (pick b k m)
unnamed_pick true k m p q = p
unnamed_pick false k m p q = q

unnamed_pair : (b a : ℕ) → Unnamed (pair_kind b a)
unfolding pair_kind
unnamed_pair b a =
    unnamed_pick (eqb b 46) (pick (eqb a 46) 174 0) (pick (eqb b 58) (pick (eqb a 58) 186 (pick (eqb a 61) 189 0)) 0) (unnamed_pick (eqb a 46) 174 0 refl refl)
    (unnamed_pick (eqb b 58) (pick (eqb a 58) 186 (pick (eqb a 61) 189 0)) 0
    (unnamed_pick (eqb a 58) 186 (pick (eqb a 61) 189 0) refl (unnamed_pick (eqb a 61) 189 0 refl refl)) refl)

-- a gap goes forward
abbrev From : ℕ → Gap → Type 0
From at (Here p) = at ≤ p
From at (Cut p) = Unit {0}

from_down : (at : ℕ) (g : Gap) → From (at + 1) g → From at g
from_down at (Here p) h = omega arith
from_down at (Cut p) h = tt

from_pick : (at : ℕ) (b : Bool) (x y : Gap) → From at x → From at y → From at (pick b x y)
from_pick at true x y p q = p
from_pick at false x y p q = q

from_gap : (mode : ℕ) (s : List ℕ) (at : ℕ) → From at (gap mode s at)
unfolding gap
from_gap mode [] at = from_pick at (eqb mode 0) (Here at) (Cut at) (omega arith) tt
from_gap mode (b ∷ s) at =
    from_pick at (eqb (turn_of mode b (get_or s 0 0)) 4) (Here at) (gap (turn_of mode b (get_or s 0 0)) s (at + 1)) (omega arith)
    (from_down at (gap (turn_of mode b (get_or s 0 0)) s (at + 1)) (from_gap (turn_of mode b (get_or s 0 0)) s (at + 1)))

module _ (s : List ℕ) where
  -- a name starts with a letter, at or behind a place; a comma does not
  pub record Lies (at st e : ℕ) (letter : Bool) : Type 0 where
    pub behind : at ≤ st
    pub some : st < e
    pub within : st < length s
    pub first : is_letter (get_or s st 0) ≡ letter

  abbrev Fits : ℕ → Taken → Type 0
  Fits at (Word k st v c) = (eqb k 1 ≡ true → Lies at st c.at true) × (eqb k 44 ≡ true → Lies at st c.at false)
  Fits at (Refused n p) = Unit {0}

  fits-pick : (at : ℕ) (b : Bool) (x y : Taken) → (b ≡ true → Fits at x) → (b ≡ false → Fits at y) → Fits at (pick b x y)
  fits-pick at true x y f g = f refl
  fits-pick at false x y f g = g refl

  module _ (at p : ℕ) (l : at ≤ p) (h : p < length s) where
    fits-named : is_letter (get_or s p 0) ≡ true → (e : ℕ) → p < e → Fits at (named s p e)
    unfolding named
    fits-named c e o =
        fits-pick at (ltb 16 (e - p)) (Refused 2 p) (word (keyword_of (drop p s) (e - p)) p 0 e) (λ b. tt)
        (λ b. ((λ q. record { behind = l; some = o; within = h; first = c }), (λ q. absurd (never (sym (apart_keyword (drop p s) (e - p)) ∙ q)))))

    end-past : (f : ℕ → Bool) → f (get_or s p 0) ≡ true → p < end_of f (drop p s) p
    end-past f c = rw (end_more s p h f c) (let k : p + 1 ≤ end_of f (drop (p + 1) s) (p + 1) = end_from f (drop (p + 1) s) (p + 1) in omega arith)

    fits-name : is_letter (get_or s p 0) ≡ true → Fits at (name_at s p)
    unfolding name_at
    fits-name c =
        let e : ℕ = end_of is_name_byte (drop p s) p in
        let o : p < e = end-past is_name_byte (simp c) in
        fits-pick at (eqb (get_or s e 0) 39) (named s p (e + 1)) (named s p e) (λ b. fits-named c (e + 1) (omega arith)) (λ b. fits-named c e o)

    fits-number : Fits at (number_at s p)
    unfolding number_at
    fits-number =
        let v : ℕ = value_of 0 (drop p s) in
        let e : ℕ = end_of is_digit (drop p s) p in
        fits-pick at (ltb 65535 v) (word 4 p 0 e) (word 2 p v e) (λ b. ((λ q. absurd (never q)), (λ q. absurd (never q)))) (λ b. ((λ q. absurd (never q)), (λ q. absurd (never q))))

    -- any other word, whose kind is not a name's
    fits-other : (k e : ℕ) → is_letter (get_or s p 0) ≡ false → p < e → eqb k 1 ≡ false → Fits at (word k p 0 e)
    fits-other k e c o n = ((λ q. absurd (never (sym n ∙ q))), (λ q. record { behind = l; some = o; within = h; first = c }))

    byte-other : (test : ℕ → Bool) → test 1 ≡ false → test (get_or s p 0) ≡ true → eqb (get_or s p 0) 1 ≡ false
    byte-other test f q = ne_eqb (get_or s p 0) 1 (λ e. never (sym f ∙ subst (λ (i : ℕ). test i ≡ true) e q))

    fits-form : Fits at (form_at s (get_or s p 0) p)
    unfolding form_at pair_at logic_at is_single is_pair
    fits-form =
        let b : ℕ = get_or s p 0 in
        let k : ℕ = pair_kind b (get_or s (p + 1) 0) in
        fits-pick at (is_letter b) (name_at s p) _ (λ e. fits-name e) (λ f.
        fits-pick at (is_digit b) (number_at s p) _ (λ e. fits-number) (λ f2.
        fits-pick at (is_single b) (word b p 0 (p + 1)) _ (λ e. fits-other b (p + 1) f (omega arith) (byte-other is_single refl e)) (λ f3.
        fits-pick at (is_pair b) (pair_at s p) _
        (λ e. fits-pick at (eqb k 0) (word b p 0 (p + 1)) (word k p 0 (p + 2)) (λ g. fits-other b (p + 1) f (omega arith) (byte-other is_pair refl e))
        (λ g. fits-other k (p + 2) f (omega arith) (unnamed_pair b (get_or s (p + 1) 0)))) (λ f4.
        fits-pick at (eqb b 39) (logic_at s p) (Refused 2 p)
        (λ e. fits-pick at (eqb (get_or s (p + 1) 0) 48) (word 3 p 0 (p + 2)) _ (λ g. ((λ q. absurd (never q)), (λ q. absurd (never q)))) (λ g.
        fits-pick at (eqb (get_or s (p + 1) 0) 49) (word 3 p 1 (p + 2)) (Refused 2 p) (λ g. ((λ q. absurd (never q)), (λ q. absurd (never q)))) (λ g. tt))) (λ f5. tt)))))

  fits_word : (at p : ℕ) → at ≤ p → Fits at (word_at s p)
  unfolding word_at
  fits_word at p l =
      fits-pick at (ltb p (length s)) (form_at s (get_or s p 0) p) (word 0 p 0 p) (λ b. fits-form at p l (ltb-true p (length s) b))
      (λ b. ((λ q. absurd (never q)), (λ q. absurd (never q))))

  fits_after : (at : ℕ) (g : Gap) → From at g → Fits at (after s g)
  fits_after at (Here p) l = fits_word at p l
  fits_after at (Cut p) l = tt

  fits_next : (at : ℕ) → Fits at (next_word s at)
  unfolding next_word
  fits_next at = fits_after at (gap 0 (drop at s) at) (from_gap 0 (drop at s) at)

  module _ (at k st v : ℕ) (c : Cursor) (q : next_word s at ≡ Word k st v c) where
    fits : Fits at (Word k st v c)
    fits = subst (λ (w : Taken). Fits at w) q (fits_next at)

    pub name_lies : eqb k 1 ≡ true → Lies at st c.at true
    name_lies b = fits.0 b

    pub comma_lies : eqb k 44 ≡ true → Lies at st c.at false
    comma_lies b = fits.1 b

  -- ---- spellings

  first_byte : (n p : ℕ) → 0 < n → p < length s → take n (drop p s) ≡ get_or s p 0 ∷ take (n - 1) (drop (p + 1) s)
  first_byte zero p h l = absurd (omega arith)
  first_byte (suc m) p h l =
      let e : suc m - 1 ≡ m = omega arith in
      rw (left_cons s p l) (ap (λ (i : ℕ). get_or s p 0 ∷ take i (drop (p + 1) s)) (sym e))

  and_false : (b : Bool) → (b && false) ≡ false
  and_false true = refl
  and_false false = refl

  letter-apart : (a b : ℕ) → is_letter a ≡ false → is_letter b ≡ true → eqb a b ≡ false
  letter-apart a b p q = ne_eqb a b (λ e. never (sym p ∙ ap is_letter e ∙ q))

  pub comma_unlike : (at q e at' st e' : ℕ) → Lies at q e false → Lies at' st e' true → same (spelling s q (e - q)) (spelling s st (e' - st)) ≡ false
  unfolding same spelling same_bytes
  comma_unlike at q e at' st e' a b =
      let o₁ : q < e = a.some in
      let o₂ : st < e' = b.some in
      let n : 0 < e - q = omega arith in
      let m : 0 < e' - st = omega arith in
      rw (first_byte (e - q) q n a.within, first_byte (e' - st) st m b.within, letter-apart (get_or s q 0) (get_or s st 0) a.first b.first)
      (and_false (eqb (e - q) (e' - st)))
