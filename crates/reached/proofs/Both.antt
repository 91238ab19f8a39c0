-- Two readings that answer the same, and what holds of the answer. Assumes nothing.
use mathlib.Core.Path.{◌≡◌, refl, ap, subst, ◌∙◌}
use mathlib.Core.Bool.{Bool, true, false}
use mathlib.Core.List.{List}
use Prim.Native.Nat.{ℕ, zero, suc}
use lib.ListN.{length}
use Rattle.basics.specs.Choice.{pick}
use Rattle.words.specs.Taken.{Taken}
use Rattle.words.specs.Taken.{Word, Refused}
use Rattle.words.specs.Words.{next_word}
use Rattle.grammar.specs.Outcome.{Outcome, ok, no, Turn, more, last, on_word, and_then}
use Rattle.grammar.specs.Grammar.{turned, on_turn}
use Rattle.grammar.specs.Modules.{then_turn, word_turn, repeat}
use Rattle.reached.proofs.Places.{Stands, Inside, next_in}

module _ {S A : Type 0} (P : A → S → Type 0) where
  -- an answer of which P holds, if it is no refusal
  abbrev pub Fine : Outcome S A → Type 0
  Fine (ok v e x) = P v x
  Fine (no n p x) = Unit {0}

  abbrev pub Both : Outcome S A → Outcome S A → Type 0
  Both o o' = (o ≡ o') × Fine o

  pub fine_pick : (b : Bool) (x y : Outcome S A) → (b ≡ true → Fine x) → (b ≡ false → Fine y) → Fine (pick b x y)
  fine_pick true x y p q = p refl
  fine_pick false x y p q = q refl

  pub both_pick : (b : Bool) (x y x' y' : Outcome S A) → (b ≡ true → Both x x') → (b ≡ false → Both y y') → Both (pick b x y) (pick b x' y')
  both_pick true x y x' y' p q = p refl
  both_pick false x y x' y' p q = q refl

  fine-taken : (n : ℕ) (x : S) (t : Taken) (f : ℕ → ℕ → ℕ → ℕ → Outcome S A) → Inside n t
      → ((k st v nx : ℕ) → ((k ≡ 0 → ⊥) → Stands n st nx v) → Fine (f k st v nx)) → Fine (on_word x t f)
  fine-taken n x (Word k st v c) f w h = h k st v c.at w
  fine-taken n x (Refused m p) f w h = tt

  both-taken : (n : ℕ) (x : S) (t : Taken) (f f' : ℕ → ℕ → ℕ → ℕ → Outcome S A) → Inside n t
      → ((k st v nx : ℕ) → ((k ≡ 0 → ⊥) → Stands n st nx v) → Both (f k st v nx) (f' k st v nx)) → Both (on_word x t f) (on_word x t f')
  both-taken n x (Word k st v c) f f' w h = h k st v c.at w
  both-taken n x (Refused m p) f f' w h = (refl, tt)

  pub fine_word : (s : List ℕ) (at : ℕ) (x : S) (f : ℕ → ℕ → ℕ → ℕ → Outcome S A)
      → ((k st v nx : ℕ) → ((k ≡ 0 → ⊥) → Stands (length s) st nx v) → Fine (f k st v nx)) → Fine (on_word x (next_word s at) f)
  fine_word s at x f h = fine-taken (length s) x (next_word s at) f (next_in s at) h

  pub both_word : (s : List ℕ) (at : ℕ) (x : S) (f f' : ℕ → ℕ → ℕ → ℕ → Outcome S A)
      → ((k st v nx : ℕ) → ((k ≡ 0 → ⊥) → Stands (length s) st nx v) → Both (f k st v nx) (f' k st v nx))
      → Both (on_word x (next_word s at) f) (on_word x (next_word s at) f')
  both_word s at x f f' h = both-taken (length s) x (next_word s at) f f' (next_in s at) h

  pub ok_same : (u u' : A) (e : ℕ) (x x' : S) → u ≡ u' → x ≡ x' → P u x → Both (ok u e x) (ok u' e x')
  ok_same u u' e x x' p q h = (ap (λ (a : A). ok a e x) p ∙ ap (λ (y : S). ok u' e y) q, h)

-- after what was read
pub fine_then : {S A B : Type 0} (Q : A → S → Type 0) (P : B → S → Type 0) (o : Outcome S A) (f : A → ℕ → S → Outcome S B) → Fine Q o
    → ((v : A) (e : ℕ) (x : S) → Q v x → Fine P (f v e x)) → Fine P (and_then o f)
fine_then Q P (ok v e x) f a h = h v e x a
fine_then Q P (no n p x) f a h = tt

both_on : {S A B : Type 0} (Q : A → S → Type 0) (P : B → S → Type 0) (o : Outcome S A) (f f' : A → ℕ → S → Outcome S B) → Fine Q o
    → ((v : A) (e : ℕ) (x : S) → Q v x → Both P (f v e x) (f' v e x)) → Both P (and_then o f) (and_then o f')
both_on Q P (ok v e x) f f' a h = h v e x a
both_on Q P (no n p x) f f' a h = (refl, tt)

pub both_then : {S A B : Type 0} (Q : A → S → Type 0) (P : B → S → Type 0) (o o' : Outcome S A) (f f' : A → ℕ → S → Outcome S B) → Both Q o o'
    → ((v : A) (e : ℕ) (x : S) → Q v x → Both P (f v e x) (f' v e x)) → Both P (and_then o f) (and_then o' f')
both_then {S} {A} {B} Q P o o' f f' a h = subst (λ (r : Outcome S A). Both P (and_then o f) (and_then r f')) a.0 (both_on Q P o f f' a.1 h)

-- what is less of an answer
pub fine_less : {S A : Type 0} (Q P : A → S → Type 0) (o : Outcome S A) → ((v : A) (x : S) → Q v x → P v x) → Fine Q o → Fine P o
fine_less Q P (ok v e x) h a = h v x a
fine_less Q P (no n p x) h a = tt

-- ---- turns: P holds where they go on, Q where they end

module _ {S A : Type 0} (P Q : A → S → Type 0) where
  abbrev pub FineT : Turn S A → Type 0
  FineT (more v e x) = P v x
  FineT (last o) = Fine Q o

  abbrev pub BothT : Turn S A → Turn S A → Type 0
  BothT t t' = (t ≡ t') × FineT t

  pub turn_pick : (b : Bool) (x y x' y' : Turn S A) → (b ≡ true → BothT x x') → (b ≡ false → BothT y y') → BothT (pick b x y) (pick b x' y')
  turn_pick true x y x' y' p q = p refl
  turn_pick false x y x' y' p q = q refl

  turn_taken : (n : ℕ) (x : S) (t : Taken) (f f' : ℕ → ℕ → ℕ → ℕ → Turn S A) → Inside n t
      → ((k st v nx : ℕ) → ((k ≡ 0 → ⊥) → Stands n st nx v) → BothT (f k st v nx) (f' k st v nx)) → BothT (word_turn x t f) (word_turn x t f')
  turn_taken n x (Word k st v c) f f' w h = h k st v c.at w
  turn_taken n x (Refused m p) f f' w h = (refl, tt)

  pub turn_word : (s : List ℕ) (at : ℕ) (x : S) (f f' : ℕ → ℕ → ℕ → ℕ → Turn S A)
      → ((k st v nx : ℕ) → ((k ≡ 0 → ⊥) → Stands (length s) st nx v) → BothT (f k st v nx) (f' k st v nx))
      → BothT (word_turn x (next_word s at) f) (word_turn x (next_word s at) f')
  turn_word s at x f f' h = turn_taken (length s) x (next_word s at) f f' (next_in s at) h

  turn_on : {B : Type 0} (R : B → S → Type 0) (o : Outcome S B) (f f' : B → ℕ → S → Turn S A) → Fine R o
      → ((v : B) (e : ℕ) (x : S) → R v x → BothT (f v e x) (f' v e x)) → BothT (then_turn o f) (then_turn o f')
  turn_on R (ok v e x) f f' a h = h v e x a
  turn_on R (no n p x) f f' a h = (refl, tt)

  pub turn_then : {B : Type 0} (R : B → S → Type 0) (o o' : Outcome S B) (f f' : B → ℕ → S → Turn S A) → Both R o o'
      → ((v : B) (e : ℕ) (x : S) → R v x → BothT (f v e x) (f' v e x)) → BothT (then_turn o f) (then_turn o' f')
  turn_then {B} R o o' f f' a h = subst (λ (r : Outcome S B). BothT (then_turn o f) (then_turn r f')) a.0 (turn_on R o f f' a.1 h)

  pub more_same : (u u' : A) (e : ℕ) (x x' : S) → u ≡ u' → x ≡ x' → P u x → BothT (more u e x) (more u' e x')
  more_same u u' e x x' p q h = (ap (λ (a : A). more a e x) p ∙ ap (λ (y : S). more u' e y) q, h)

  pub last_same : (o o' : Outcome S A) → Both Q o o' → BothT (last o) (last o')
  last_same o o' h = (ap (λ (r : Outcome S A). last r) h.0, h.1)

pub turn_turned : {S A : Type 0} (P : A → S → Type 0) (o o' : Outcome S A) → Both P o o' → BothT P P (turned o) (turned o')
turn_turned {S} {A} P o o' h = (ap (λ (r : Outcome S A). turned r) h.0, go o h.1)
  where
    go : (r : Outcome S A) → Fine P r → FineT P P (turned r)
    go (ok v e x) a = a
    go (no n p x) a = tt

-- turn after turn; P speaks of the turns that are left
module _ {S A : Type 0} (P : ℕ → A → S → Type 0) (Q : A → S → Type 0) (turn turn' : A → ℕ → S → Turn S A)
    (alike : (n : ℕ) (v : A) (at : ℕ) (x : S) → P (suc n) v x → BothT (P n) Q (turn v at x) (turn' v at x)) where
  go_on : (n : ℕ) (t : Turn S A) → FineT (P n) Q t → ((v : A) (e : ℕ) (x : S) → P n v x → Both Q (repeat turn n v e x) (repeat turn' n v e x))
      → Both Q (on_turn t (λ v e x. repeat turn n v e x)) (on_turn t (λ v e x. repeat turn' n v e x))
  go_on n (more v e x) a ih = ih v e x a
  go_on n (last o) a ih = (refl, a)

  pub both_repeat : (n : ℕ) (v : A) (at : ℕ) (x : S) → P n v x → Both Q (repeat turn n v at x) (repeat turn' n v at x)
  unfolding repeat
  both_repeat zero v at x h = (refl, tt)
  both_repeat (suc n) v at x h =
      let a = alike n v at x h in
      subst (λ (t : Turn S A). Both Q (on_turn (turn v at x) (λ w e y. repeat turn n w e y)) (on_turn t (λ w e y. repeat turn' n w e y))) a.0
      (go_on n (turn v at x) a.1 (λ w e y p. both_repeat n w e y p))
