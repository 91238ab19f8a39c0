-- The numbers of refusals: words and expressions refuse with a number from 1 to 10. A definition that takes turns refuses with 0 where its turns run out, and they don't:
-- each turn goes forward.
-- Assumes nothing.
use mathlib.Core.Path.{◌≡◌, refl, subst}
use mathlib.Core.Bool.{Bool, true, false}
use mathlib.Core.List.{List}
use Prim.Native.Nat.{ℕ, zero, suc, ◌+◌, ◌-◌, ◌<◌, ◌≤◌}
use native.Mathlib.Omega.{arith}
use lib.ListN.{length, get_or, drop}
use lib.Dec.{eqb, ltb}
use Rattle.basics.specs.Choice.{pick}
use Rattle.words.specs.Bytes.{is_letter, is_digit, is_name_byte, is_single, is_pair}
use Rattle.words.specs.Words.{gap, end_of, value_of, keyword_of, named as name-word, word, name_at, number_at, pair_kind, pair_at, logic_at, form_at, word_at, after, next_word}
use Rattle.words.specs.Taken.{Taken, Word, Refused, Gap, Here, Cut}
use Rattle.grammar.specs.Outcome.{Outcome, ok, no, Built, built, bad, Turn, more, last, on_word, and_then, built_at, after_built}
use Rattle.grammar.specs.Grammar.{Algebra, is_sum, is_product, index_sort, part_sort, closed, turn_built, turn_with, turn_on, on_turn, turn, chain, level, part, dotted, bracketed, pointed, named, mux_third, mux_second, muxed, kept, regged, inverted, factor, term, expression, nested}
use Rattle.grammar.specs.Modules.{then_turn, word_turn, repeat}
use Rattle.grammar.proofs.Chain.{Past, PastT, real_sum, real_product, Real, past_turn, past_factor, past_term, past_nested}

-- a number of document 01's list that stages 1 to 5 give
abbrev pub Number : ℕ → Type 0
Number n = (1 ≤ n) × (n ≤ 10)

-- ---- words: 2

abbrev pub ToldW : Taken → Type 0
ToldW (Word k st v c) = Unit {0}
ToldW (Refused n p) = Number n

word_pick : (b : Bool) (x y : Taken) → ToldW x → ToldW y → ToldW (pick b x y)
word_pick true x y p q = p
word_pick false x y p q = q

pub two : Number 2
two = (omega arith, omega arith)

told_name : (s : List ℕ) (p e : ℕ) → ToldW (name-word s p e)
unfolding name-word
told_name s p e = word_pick (ltb 16 (e - p)) (Refused 2 p) (word (keyword_of (drop p s) (e - p)) p 0 e) two tt

told_form : (s : List ℕ) (b p : ℕ) → ToldW (form_at s b p)
unfolding form_at name_at number_at pair_at logic_at
told_form s b p =
    word_pick (is_letter b) (name_at s p) _
    (word_pick (eqb (get_or s (end_of is_name_byte (drop p s) p) 0) 39) (name-word s p (end_of is_name_byte (drop p s) p + 1)) (name-word s p (end_of is_name_byte (drop p s) p))
    (told_name s p (end_of is_name_byte (drop p s) p + 1)) (told_name s p (end_of is_name_byte (drop p s) p)))
    (word_pick (is_digit b) (number_at s p) _ (word_pick (ltb 65535 (value_of 0 (drop p s))) (word 4 p 0 (end_of is_digit (drop p s) p)) (word 2 p (value_of 0 (drop p s)) (end_of is_digit (drop p s) p)) tt tt)
    (word_pick (is_single b) (word b p 0 (p + 1)) _ tt
    (word_pick (is_pair b) (pair_at s p) _ (word_pick (eqb (pair_kind (get_or s p 0) (get_or s (p + 1) 0)) 0) (word (get_or s p 0) p 0 (p + 1)) (word (pair_kind (get_or s p 0) (get_or s (p + 1) 0)) p 0 (p + 2)) tt tt)
    (word_pick (eqb b 39) (logic_at s p) (Refused 2 p)
    (word_pick (eqb (get_or s (p + 1) 0) 48) (word 3 p 0 (p + 2)) _ tt (word_pick (eqb (get_or s (p + 1) 0) 49) (word 3 p 1 (p + 2)) (Refused 2 p) tt two)) two))))

told_after : (s : List ℕ) (g : Gap) → ToldW (after s g)
unfolding word_at
told_after s (Here p) = word_pick (ltb p (length s)) (form_at s (get_or s p 0) p) (word 0 p 0 p) (told_form s (get_or s p 0) p) tt
told_after s (Cut p) = two

told_next : (s : List ℕ) (at : ℕ) → ToldW (next_word s at)
unfolding next_word
told_next s at = told_after s (gap 0 (drop at s) at)

-- ---- answers

module _ {S A : Type 0} where
  abbrev pub Told : Outcome S A → Type 0
  Told (ok v e x) = Unit {0}
  Told (no n p x) = Number n

  abbrev pub ToldB : Built S A → Type 0
  ToldB (built v x) = Unit {0}
  ToldB (bad n p x) = Number n

  abbrev pub ToldT : Turn S A → Type 0
  ToldT (more v e x) = Unit {0}
  ToldT (last o) = Told o

  pub told_pick : (b : Bool) (x y : Outcome S A) → Told x → Told y → Told (pick b x y)
  told_pick true x y p q = p
  told_pick false x y p q = q

  pub turn_pick : (b : Bool) (x y : Turn S A) → ToldT x → ToldT y → ToldT (pick b x y)
  turn_pick true x y p q = p
  turn_pick false x y p q = q

  told-on : (x : S) (t : Taken) (f : ℕ → ℕ → ℕ → ℕ → Outcome S A) → ToldW t → ((k st v nx : ℕ) → Told (f k st v nx)) → Told (on_word x t f)
  told-on x (Word k st v c) f w h = h k st v c.at
  told-on x (Refused n p) f w h = w

  turn_on_lem : (x : S) (t : Taken) (f : ℕ → ℕ → ℕ → ℕ → Turn S A) → ToldW t → ((k st v nx : ℕ) → ToldT (f k st v nx)) → ToldT (word_turn x t f)
  turn_on_lem x (Word k st v c) f w h = h k st v c.at
  turn_on_lem x (Refused n p) f w h = w

  pub told_word : (s : List ℕ) (at : ℕ) (x : S) (f : ℕ → ℕ → ℕ → ℕ → Outcome S A) → ((k st v nx : ℕ) → Told (f k st v nx)) → Told (on_word x (next_word s at) f)
  told_word s at x f h = told-on x (next_word s at) f (told_next s at) h

  pub turn_word : (s : List ℕ) (at : ℕ) (x : S) (f : ℕ → ℕ → ℕ → ℕ → Turn S A) → ((k st v nx : ℕ) → ToldT (f k st v nx)) → ToldT (word_turn x (next_word s at) f)
  turn_word s at x f h = turn_on_lem x (next_word s at) f (told_next s at) h

  pub told_built : (e : ℕ) (b : Built S A) → ToldB b → Told (built_at e b)
  told_built e (built v x) h = tt
  told_built e (bad n p x) h = h

  pub told_closed : (s : List ℕ) (k : ℕ) (v : A) (at : ℕ) (x : S) → Told (closed s k v at x)
  unfolding closed
  told_closed s k v at x = told_word s at x _ (λ k' st v' nx. told_pick (eqb k' k) (ok v nx x) (no 2 st x) tt two)

  -- turns that go forward don't run out
  module _ (s : List ℕ) (turns : A → ℕ → S → Turn S A) (told : (v : A) (at : ℕ) (x : S) → ToldT (turns v at x))
      (falls : (v w : A) (at e : ℕ) (x y : S) → turns v at x ≡ more w e y → length s - e < length s - at) where
    told-turns : (n : ℕ) (t : Turn S A) → ToldT t → ((w : A) (e : ℕ) (y : S) → t ≡ more w e y → Told (repeat turns n w e y)) → Told (on_turn t (λ w e y. repeat turns n w e y))
    told-turns n (more w e y) h ih = ih w e y refl
    told-turns n (last o) h ih = h

    told-repeats : (n : ℕ) (v : A) (at : ℕ) (x : S) → length s - at < n → Told (repeat turns n v at x)
    unfolding repeat
    told-repeats zero v at x l = absurd (omega arith)
    told-repeats (suc n) v at x l =
        told-turns n (turns v at x) (told v at x) (λ w e y q. let f : length s - e < length s - at = falls v w at e x y q in told-repeats n w e y (omega arith))

    pub told_repeat : (v : A) (at : ℕ) (x : S) → Told (repeat turns (suc (length s)) v at x)
    told_repeat v at x = told-repeats (suc (length s)) v at x (omega arith)

pub told_then : {S A B : Type 0} (o : Outcome S A) (f : A → ℕ → S → Outcome S B) → Told o → ((v : A) (e : ℕ) (x : S) → Told (f v e x)) → Told (and_then o f)
told_then (ok v e x) f h g = g v e x
told_then (no n p x) f h g = h

pub turn_then : {S A B : Type 0} (o : Outcome S A) (f : A → ℕ → S → Turn S B) → Told o → ((v : A) (e : ℕ) (x : S) → ToldT (f v e x)) → ToldT (then_turn o f)
turn_then (ok v e x) f h g = g v e x
turn_then (no n p x) f h g = h

told_afterwards : {S A B : Type 0} (b : Built S A) (f : A → S → Outcome S B) → ToldB b → ((v : A) (x : S) → Told (f v x)) → Told (after_built b f)
told_afterwards (built v x) f h g = g v x
told_afterwards (bad n p x) f h g = h

-- how far a turn goes, as a measure that falls
pub far_falls : {S A : Type 0} (n at : ℕ) (t : Turn S A) (w : A) (e : ℕ) (y : S) → PastT n at t → t ≡ more w e y → n - e < n - at
far_falls {S} {A} n at t w e y p q = let f : (at < e) × (at < n) = subst (λ (u : Turn S A). PastT n at u) q p in omega arith

-- ---- expressions, for every algebra whose operations refuse so

module _ {S A B : Type 0} (alg : Algebra S A B)
    (literals : (o p v : ℕ) (x : S) → ToldB (alg.literal o p v x))
    (logics : (o p v : ℕ) (x : S) → ToldB (alg.logic o p v x))
    (plains : (o st e : ℕ) (x : S) → ToldB (alg.plain o st e x))
    (opens : (o st e p : ℕ) (x : S) → ToldB (alg.opened o st e p x))
    (elements : (o st e p : ℕ) (c : B) (i : A) (x : S) → ToldB (alg.element o st e p c i x))
    (inverts : (o p : ℕ) (i : A) (x : S) → ToldB (alg.invert o p i x))
    (applies : (o k p : ℕ) (v w : A) (x : S) → ToldB (alg.apply o k p v w x))
    (chooses : (o p : ℕ) (u v w : A) (x : S) → ToldB (alg.choose o p u v w x))
    (holds : (o p : ℕ) (i : A) (x : S) → ToldB (alg.hold o p i x))
    (keeps : (o p : ℕ) (v w : A) (x : S) → ToldB (alg.keep o p v w x)) (s : List ℕ) where
  made : (e : ℕ) (b : Built S A) → ToldB b → ToldT (turn_built e b)
  made e (built v x) h = tt
  made e (bad n p x) h = h

  module _ (o : ℕ) (among : ℕ → Bool) (real : Real among) (operand : ℕ → S → Outcome S A) (far : (at : ℕ) (x : S) → Past (length s) at (operand at x))
      (told : (at : ℕ) (x : S) → Told (operand at x)) where
    turn-with : (v : A) (k st : ℕ) (r : Outcome S A) → Told r → ToldT (turn_with alg o v k st r)
    turn-with v k st (ok w e x) h = made e (alg.apply o k st v w x) (applies o k st v w x)
    turn-with v k st (no n p x) h = h

    by_word : (v : A) (at : ℕ) (x : S) (t : Taken) → ToldW t → ToldT (turn_on alg s o among operand v at x t)
    by_word v at x (Word k st v' c) w = turn_pick (among k) (turn_with alg o v k st (operand c.at x)) (last (ok v at x)) (turn-with v k st (operand c.at x) (told c.at x)) tt
    by_word v at x (Refused n p) w = w

    one-turn : (v : A) (at : ℕ) (x : S) → ToldT (turn alg s o among operand v at x)
    unfolding turn
    one-turn v at x = by_word v at x (next_word s at) (told_next s at)

    links : (n : ℕ) (t : Turn S A) → ToldT t → ((w : A) (e : ℕ) (y : S) → t ≡ more w e y → Told (chain alg s o among operand n w e y))
        → Told (on_turn t (λ w e y. chain alg s o among operand n w e y))
    links n (more w e y) h ih = ih w e y refl
    links n (last r) h ih = h

    told-chain : (n : ℕ) (v : A) (at : ℕ) (x : S) → length s - at < n → Told (chain alg s o among operand n v at x)
    unfolding chain
    told-chain zero v at x l = absurd (omega arith)
    told-chain (suc n) v at x l =
        links n (turn alg s o among operand v at x) (one-turn v at x) (λ w e y q.
        let f : length s - e < length s - at = far_falls (length s) at (turn alg s o among operand v at x) w e y (past_turn alg s o among operand real far v at x) q in
        told-chain n w e y (omega arith))

    told-level : (at : ℕ) (x : S) → Told (level alg s o among operand at x)
    unfolding level
    told-level at x = told_then (operand at x) (chain alg s o among operand (suc (length s))) (told at x) (λ v e x. told-chain (suc (length s)) v e x (omega arith))

  told-dotted : (o at : ℕ) (x : S) → Told (dotted alg s o at x)
  unfolding dotted
  told-dotted o at x =
      told_word s at x _ (λ k st v nx.
      told_pick (eqb k 2) (built_at nx (alg.literal o st v x)) _ (told_built nx (alg.literal o st v x) (literals o st v x))
      (told_pick (eqb k 4) (no 3 st x) _ (omega arith, omega arith)
      (told_pick (eqb k 1) (built_at nx (alg.plain o st nx x)) (no 2 st x) (told_built nx (alg.plain o st nx x) (plains o st nx x)) two)))

  module _ (inner : Bool → ℕ → ℕ → ℕ → S → Outcome S A) (far : (m : Bool) (o p at : ℕ) (x : S) → Past (length s) at (inner m o p at x))
      (told : (m : Bool) (o p at : ℕ) (x : S) → Told (inner m o p at x)) where
    pub told_part : (o p k at : ℕ) (x : S) → Told (part alg s inner o p k at x)
    unfolding part
    told_part o p k at x = told_then (inner false o p at x) (closed s k) (told false o p at x) (λ v e x. told_closed s k v e x)

    told-bracketed : (o st e p at : ℕ) (x : S) → Told (bracketed alg s inner o st e p at x)
    unfolding bracketed
    told-bracketed o st e p at x =
        told_afterwards (alg.opened o st e p x) _ (opens o st e p x) (λ c x.
        told_then (part alg s inner (index_sort o) p 93 at x) _ (told_part (index_sort o) p 93 at x) (λ i e' x. told_built e' (alg.element o st e p c i x) (elements o st e p c i x)))

    told-pointed : (o st e p at : ℕ) (x : S) → Told (pointed alg s o st e p at x)
    unfolding pointed
    told-pointed o st e p at x =
        told_afterwards (alg.opened o st e p x) _ (opens o st e p x) (λ c x.
        told_then (dotted alg s (index_sort o) at x) _ (told-dotted (index_sort o) at x) (λ i e' x. told_built e' (alg.element o st e p c i x) (elements o st e p c i x)))

    pub told_named : (o st e : ℕ) (x : S) → Told (named alg s inner o st e x)
    unfolding named
    told_named o st e x =
        told_word s e x _ (λ k p v nx.
        told_pick (eqb k 91) (bracketed alg s inner o st e p nx x) _ (told-bracketed o st e p nx x)
        (told_pick (eqb k 46) (pointed alg s o st e p nx x) (built_at e (alg.plain o st e x)) (told-pointed o st e p nx x)
        (told_built e (alg.plain o st e x) (plains o st e x))))

    told-third : (o p r : ℕ) (a b : A) (at : ℕ) (x : S) → Told (mux_third alg s inner o p r a b at x)
    unfolding mux_third
    told-third o p r a b at x =
        told_then (part alg s inner (part_sort o) r 41 at x) _ (told_part (part_sort o) r 41 at x) (λ c e x. told_built e (alg.choose o p a b c x) (chooses o p a b c x))

    told-second : (o p r : ℕ) (a : A) (at : ℕ) (x : S) → Told (mux_second alg s inner o p r a at x)
    unfolding mux_second
    told-second o p r a at x =
        told_then (part alg s inner (part_sort o) r 44 at x) (mux_third alg s inner o p r a) (told_part (part_sort o) r 44 at x) (λ b e x. told-third o p r a b e x)

    told-muxed : (o p at : ℕ) (x : S) → Told (muxed alg s inner o p at x)
    unfolding muxed
    told-muxed o p at x =
        told_word s at x _ (λ k r v nx.
        told_pick (eqb k 40) _ (no 2 r x)
        (told_then (part alg s inner (part_sort o) r 58 nx x) (mux_second alg s inner o p r) (told_part (part_sort o) r 58 nx x) (λ a e x. told-second o p r a e x)) two)

    told-kept : (o p r : ℕ) (a : A) (at : ℕ) (x : S) → Told (kept alg s inner o p r a at x)
    unfolding kept
    told-kept o p r a at x =
        told_word s at x _ (λ k st v nx.
        told_pick (eqb k 41) (built_at nx (alg.hold o p a x)) _ (told_built nx (alg.hold o p a x) (holds o p a x))
        (told_pick (eqb k 44) _ (no 2 st x)
        (told_then (part alg s inner (part_sort o) r 41 nx x) _ (told_part (part_sort o) r 41 nx x) (λ b e x. told_built e (alg.keep o p a b x) (keeps o p a b x))) two))

    told-regged : (o p at : ℕ) (x : S) → Told (regged alg s inner o p at x)
    unfolding regged
    told-regged o p at x =
        told_word s at x _ (λ k r v nx.
        told_pick (eqb k 40) _ (no 2 r x)
        (told_then (inner false (part_sort o) r nx x) (kept alg s inner o p r) (told false (part_sort o) r nx x) (λ a e x. told-kept o p r a e x)) two)

    told-inverted : (o p at : ℕ) (x : S) → Told (inverted alg s inner o p at x)
    unfolding inverted
    told-inverted o p at x = told_then (inner true o p at x) _ (told true o p at x) (λ v e x. told_built e (alg.invert o p v x) (inverts o p v x))

    told-factor : (o at : ℕ) (x : S) → Told (factor alg s inner o at x)
    unfolding factor
    told-factor o at x =
        told_word s at x _ (λ k st v nx.
        told_pick (eqb k 2) (built_at nx (alg.literal o st v x)) _ (told_built nx (alg.literal o st v x) (literals o st v x))
        (told_pick (eqb k 4) (no 3 st x) _ (omega arith, omega arith)
        (told_pick (eqb k 3) (built_at nx (alg.logic o st v x)) _ (told_built nx (alg.logic o st v x) (logics o st v x))
        (told_pick (eqb k 1) (named alg s inner o st nx x) _ (told_named o st nx x)
        (told_pick (eqb k 40) (part alg s inner o st 41 nx x) _ (told_part o st 41 nx x)
        (told_pick (eqb k 126) (inverted alg s inner o st nx x) _ (told-inverted o st nx x)
        (told_pick (eqb k 205) (muxed alg s inner o st nx x) _ (told-muxed o st nx x)
        (told_pick (eqb k 206) (regged alg s inner o st nx x) (no 2 st x) (told-regged o st nx x) two))))))))

    told-term : (o at : ℕ) (x : S) → Told (term alg s inner o at x)
    unfolding term
    told-term o at x = told-level o is_product real_product (factor alg s inner o) (past_factor alg s inner far o) (told-factor o) at x

    pub told_expression : (o at : ℕ) (x : S) → Told (expression alg s inner o at x)
    unfolding expression
    told_expression o at x = told-level o is_sum real_sum (term alg s inner o) (past_term alg s inner far o) (told-term o) at x

  pub told_nested : (d : ℕ) (m : Bool) (o p at : ℕ) (x : S) → Told (nested alg s d m o p at x)
  unfolding nested
  told_nested zero m o p at x = (omega arith, omega arith)
  told_nested (suc d) true o p at x = told-factor (nested alg s d) (past_nested alg s d) (λ m o p at x. told_nested d m o p at x) o at x
  told_nested (suc d) false o p at x = told_expression (nested alg s d) (past_nested alg s d) (λ m o p at x. told_nested d m o p at x) o at x
