-- What every part of an expression keeps: if the operations of an algebra keep a rule of states and a rule of meanings, so does reading an expression. The
-- number that a literal says is at most 65,535.
-- Assumes nothing.
use mathlib.Core.Path.{◌≡◌, refl}
use mathlib.Core.Bool.{Bool, true, false}
use mathlib.Core.List.{List}
use Prim.Native.Nat.{ℕ, zero, suc, ◌≤◌}
use native.Mathlib.Omega.{arith}
use lib.ListN.{length}
use lib.Dec.{eqb}
use Rattle.basics.specs.Choice.{pick}
use Rattle.words.specs.Taken.{Taken}
use Rattle.words.specs.Taken.{Word, Refused}
use Rattle.words.specs.Words.{next_word}
use Rattle.grammar.specs.Outcome.{Outcome, ok, no, Built, built, bad, Turn, more, last, on_word, and_then, built_at, after_built}
use Rattle.grammar.specs.Grammar.{Algebra, is_sum, is_product, index_sort, part_sort, closed, turn_built, turn_with, turn_on, on_turn, turn, chain, level, part, dotted, bracketed, pointed, named, mux_third, mux_second, muxed, kept, regged, inverted, factor, term, expression, nested}
use Rattle.grammar.proofs.Chain.{other}
use Rattle.reached.proofs.Places.{Stands, Inside, next_in}

-- K is kept by states, P by meanings, N by names that an index follows
module _ {S : Type 0} (K : S → Type 0) where
  abbrev pub HoldsB : {A : Type 0} → (A → Type 0) → Built S A → Type 0
  HoldsB P (built v x) = P v × K x
  HoldsB P (bad n p x) = Unit {0}

  module _ {A : Type 0} (P : A → Type 0) where
    abbrev pub Holds : Outcome S A → Type 0
    Holds (ok v e x) = P v × K x
    Holds (no n p x) = Unit {0}

    abbrev HoldsT : Turn S A → Type 0
    HoldsT (more v e x) = P v × K x
    HoldsT (last r) = Holds r

    holds-pick : (b : Bool) (x y : Outcome S A) → (b ≡ true → Holds x) → (b ≡ false → Holds y) → Holds (pick b x y)
    holds-pick true x y p q = p refl
    holds-pick false x y p q = q refl

    holds-pickT : (b : Bool) (x y : Turn S A) → HoldsT x → HoldsT y → HoldsT (pick b x y)
    holds-pickT true x y p q = p
    holds-pickT false x y p q = q

    holds-taken : (n : ℕ) (x : S) (t : Taken) (f : ℕ → ℕ → ℕ → ℕ → Outcome S A) → Inside n t
        → ((k st v nx : ℕ) → ((k ≡ 0 → ⊥) → Stands n st nx v) → Holds (f k st v nx)) → Holds (on_word x t f)
    holds-taken n x (Word k st v c) f w h = h k st v c.at w
    holds-taken n x (Refused m p) f w h = tt

    holds-word : (s : List ℕ) (at : ℕ) (x : S) (f : ℕ → ℕ → ℕ → ℕ → Outcome S A)
        → ((k st v nx : ℕ) → ((k ≡ 0 → ⊥) → Stands (length s) st nx v) → Holds (f k st v nx)) → Holds (on_word x (next_word s at) f)
    holds-word s at x f h = holds-taken (length s) x (next_word s at) f (next_in s at) h

    holds_then : (r : Outcome S A) (f : A → ℕ → S → Outcome S A) → Holds r → ((v : A) (e : ℕ) (x : S) → P v → K x → Holds (f v e x)) → Holds (and_then r f)
    holds_then (ok v e x) f a h = h v e x a.0 a.1
    holds_then (no n p x) f a h = tt

    holds-built : (e : ℕ) (b : Built S A) → HoldsB P b → Holds (built_at e b)
    holds-built e (built v x) q = q
    holds-built e (bad n p x) q = tt

    holds_after : {C : Type 0} (N : C → Type 0) (b : Built S C) (f : C → S → Outcome S A) → HoldsB N b → ((c : C) (x : S) → N c → K x → Holds (f c x)) → Holds (after_built b f)
    holds_after N (built c x) f q h = h c x q.0 q.1
    holds_after N (bad n p x) f q h = tt

    holds-made : (e : ℕ) (b : Built S A) → HoldsB P b → HoldsT (turn_built e b)
    holds-made e (built v x) q = q
    holds-made e (bad n p x) q = tt

    holds-closed : (s : List ℕ) (k : ℕ) (v : A) (at : ℕ) (x : S) → P v → K x → Holds (closed s k v at x)
    unfolding closed
    holds-closed s k v at x r q = holds-word s at x _ (λ k' st v' nx w. holds-pick (eqb k' k) (ok v nx x) (no 2 st x) (λ b. (r, q)) (λ b. tt))

    module _ {B : Type 0} (N : B → Type 0) (alg : Algebra S A B)
        (literals : (o p v : ℕ) (x : S) → v ≤ 65535 → K x → HoldsB P (alg.literal o p v x))
        (logics : (o p v : ℕ) (x : S) → K x → HoldsB P (alg.logic o p v x))
        (plains : (o st e : ℕ) (x : S) → K x → HoldsB P (alg.plain o st e x))
        (opens : (o st e p : ℕ) (x : S) → K x → HoldsB N (alg.opened o st e p x))
        (elements : (o st e p : ℕ) (c : B) (i : A) (x : S) → N c → P i → K x → HoldsB P (alg.element o st e p c i x))
        (inverts : (o p : ℕ) (i : A) (x : S) → P i → K x → HoldsB P (alg.invert o p i x))
        (applies : (o k p : ℕ) (v w : A) (x : S) → P v → P w → K x → HoldsB P (alg.apply o k p v w x))
        (chooses : (o p : ℕ) (u v w : A) (x : S) → K x → HoldsB P (alg.choose o p u v w x))
        (holds : (o p : ℕ) (i : A) (x : S) → K x → HoldsB P (alg.hold o p i x))
        (keeps : (o p : ℕ) (v w : A) (x : S) → K x → HoldsB P (alg.keep o p v w x)) (s : List ℕ) where
      holds-with : (o : ℕ) (v : A) (k st : ℕ) (r : Outcome S A) → P v → Holds r → HoldsT (turn_with alg o v k st r)
      holds-with o v k st (ok w e x) q a = holds-made e (alg.apply o k st v w x) (applies o k st v w x q a.0 a.1)
      holds-with o v k st (no n p x) q a = tt

      module _ (o : ℕ) (among : ℕ → Bool) (operand : ℕ → S → Outcome S A) (same : (at : ℕ) (x : S) → K x → Holds (operand at x)) where
        holds_on : (v : A) (at : ℕ) (x : S) (t : Taken) → P v → K x → HoldsT (turn_on alg s o among operand v at x t)
        holds_on v at x (Word k st v' c) r q =
            holds-pickT (among k) (turn_with alg o v k st (operand c.at x)) (last (ok v at x)) (holds-with o v k st (operand c.at x) r (same c.at x q)) (r, q)
        holds_on v at x (Refused n p) r q = tt

        holds-links : (m : ℕ) (t : Turn S A) → HoldsT t → ((v : A) (e : ℕ) (x : S) → P v → K x → Holds (chain alg s o among operand m v e x))
            → Holds (on_turn t (λ v e x. chain alg s o among operand m v e x))
        holds-links m (more v e x) a ih = ih v e x a.0 a.1
        holds-links m (last r) a ih = a

        holds-chain : (m : ℕ) (v : A) (at : ℕ) (x : S) → P v → K x → Holds (chain alg s o among operand m v at x)
        unfolding chain turn
        holds-chain zero v at x r q = tt
        holds-chain (suc m) v at x r q =
            holds-links m (turn_on alg s o among operand v at x (next_word s at)) (holds_on v at x (next_word s at) r q) (λ v e x r q. holds-chain m v e x r q)

        holds-level : (at : ℕ) (x : S) → K x → Holds (level alg s o among operand at x)
        unfolding level
        holds-level at x q =
            holds_then (operand at x) (chain alg s o among operand (suc (length s))) (same at x q) (λ v e x r q. holds-chain (suc (length s)) v e x r q)

      module _ (inner : Bool → ℕ → ℕ → ℕ → S → Outcome S A) (same : (m : Bool) (o p at : ℕ) (x : S) → K x → Holds (inner m o p at x)) where
        holds-part : (o p k at : ℕ) (x : S) → K x → Holds (part alg s inner o p k at x)
        unfolding part
        holds-part o p k at x q = holds_then (inner false o p at x) (closed s k) (same false o p at x q) (λ v e x r q. holds-closed s k v e x r q)

        said : (k st nx v : ℕ) → ((k ≡ 0 → ⊥) → Stands (length s) st nx v) → eqb k 2 ≡ true → v ≤ 65535
        said k st nx v w b = (w (other k 2 (λ z. omega arith) b)).says

        holds-dotted : (o at : ℕ) (x : S) → K x → Holds (dotted alg s o at x)
        unfolding dotted
        holds-dotted o at x q =
            holds-word s at x _ (λ k st v nx w.
            holds-pick (eqb k 2) (built_at nx (alg.literal o st v x)) _ (λ b. holds-built nx (alg.literal o st v x) (literals o st v x (said k st nx v w b) q)) (λ b.
            holds-pick (eqb k 4) (no 3 st x) _ (λ b. tt) (λ b.
            holds-pick (eqb k 1) (built_at nx (alg.plain o st nx x)) (no 2 st x) (λ b. holds-built nx (alg.plain o st nx x) (plains o st nx x q)) (λ b. tt))))

        holds-bracketed : (o st e p at : ℕ) (x : S) → K x → Holds (bracketed alg s inner o st e p at x)
        unfolding bracketed
        holds-bracketed o st e p at x q =
            holds_after N (alg.opened o st e p x) _ (opens o st e p x q) (λ c x h q.
            holds_then (part alg s inner (index_sort o) p 93 at x) _ (holds-part (index_sort o) p 93 at x q) (λ i e' x r q.
            holds-built e' (alg.element o st e p c i x) (elements o st e p c i x h r q)))

        holds-pointed : (o st e p at : ℕ) (x : S) → K x → Holds (pointed alg s o st e p at x)
        unfolding pointed
        holds-pointed o st e p at x q =
            holds_after N (alg.opened o st e p x) _ (opens o st e p x q) (λ c x h q.
            holds_then (dotted alg s (index_sort o) at x) _ (holds-dotted (index_sort o) at x q) (λ i e' x r q.
            holds-built e' (alg.element o st e p c i x) (elements o st e p c i x h r q)))

        pub holds_named : (o st e : ℕ) (x : S) → K x → Holds (named alg s inner o st e x)
        unfolding named
        holds_named o st e x q =
            holds-word s e x _ (λ k p v nx w.
            holds-pick (eqb k 91) (bracketed alg s inner o st e p nx x) _ (λ b. holds-bracketed o st e p nx x q) (λ b.
            holds-pick (eqb k 46) (pointed alg s o st e p nx x) (built_at e (alg.plain o st e x)) (λ b. holds-pointed o st e p nx x q) (λ b.
            holds-built e (alg.plain o st e x) (plains o st e x q))))

        holds-third : (o p r : ℕ) (a b : A) (at : ℕ) (x : S) → K x → Holds (mux_third alg s inner o p r a b at x)
        unfolding mux_third
        holds-third o p r a b at x q =
            holds_then (part alg s inner (part_sort o) r 41 at x) _ (holds-part (part_sort o) r 41 at x q) (λ c e x h q. holds-built e (alg.choose o p a b c x) (chooses o p a b c x q))

        holds-second : (o p r : ℕ) (a : A) (at : ℕ) (x : S) → K x → Holds (mux_second alg s inner o p r a at x)
        unfolding mux_second
        holds-second o p r a at x q =
            holds_then (part alg s inner (part_sort o) r 44 at x) (mux_third alg s inner o p r a) (holds-part (part_sort o) r 44 at x q) (λ b e x g q. holds-third o p r a b e x q)

        holds-muxed : (o p at : ℕ) (x : S) → K x → Holds (muxed alg s inner o p at x)
        unfolding muxed
        holds-muxed o p at x q =
            holds-word s at x _ (λ k r v nx w.
            holds-pick (eqb k 40) _ (no 2 r x)
            (λ b. holds_then (part alg s inner (part_sort o) r 58 nx x) (mux_second alg s inner o p r) (holds-part (part_sort o) r 58 nx x q) (λ a e x g q. holds-second o p r a e x q))
            (λ b. tt))

        holds_kept : (o p r : ℕ) (a : A) (at : ℕ) (x : S) → K x → Holds (kept alg s inner o p r a at x)
        unfolding kept
        holds_kept o p r a at x q =
            holds-word s at x _ (λ k st v nx w.
            holds-pick (eqb k 41) (built_at nx (alg.hold o p a x)) _ (λ b. holds-built nx (alg.hold o p a x) (holds o p a x q)) (λ b.
            holds-pick (eqb k 44) _ (no 2 st x)
            (λ b. holds_then (part alg s inner (part_sort o) r 41 nx x) _ (holds-part (part_sort o) r 41 nx x q) (λ b e x g q. holds-built e (alg.keep o p a b x) (keeps o p a b x q)))
            (λ b. tt)))

        holds-regged : (o p at : ℕ) (x : S) → K x → Holds (regged alg s inner o p at x)
        unfolding regged
        holds-regged o p at x q =
            holds-word s at x _ (λ k r v nx w.
            holds-pick (eqb k 40) _ (no 2 r x)
            (λ b. holds_then (inner false (part_sort o) r nx x) (kept alg s inner o p r) (same false (part_sort o) r nx x q) (λ a e x f q. holds_kept o p r a e x q))
            (λ b. tt))

        holds-inverted : (o p at : ℕ) (x : S) → K x → Holds (inverted alg s inner o p at x)
        unfolding inverted
        holds-inverted o p at x q =
            holds_then (inner true o p at x) _ (same true o p at x q) (λ v e x f q. holds-built e (alg.invert o p v x) (inverts o p v x f q))

        holds-factor : (o at : ℕ) (x : S) → K x → Holds (factor alg s inner o at x)
        unfolding factor
        holds-factor o at x q =
            holds-word s at x _ (λ k st v nx w.
            holds-pick (eqb k 2) (built_at nx (alg.literal o st v x)) _ (λ b. holds-built nx (alg.literal o st v x) (literals o st v x (said k st nx v w b) q)) (λ b.
            holds-pick (eqb k 4) (no 3 st x) _ (λ b. tt) (λ b.
            holds-pick (eqb k 3) (built_at nx (alg.logic o st v x)) _ (λ b. holds-built nx (alg.logic o st v x) (logics o st v x q)) (λ b.
            holds-pick (eqb k 1) (named alg s inner o st nx x) _ (λ b. holds_named o st nx x q) (λ b.
            holds-pick (eqb k 40) (part alg s inner o st 41 nx x) _ (λ b. holds-part o st 41 nx x q) (λ b.
            holds-pick (eqb k 126) (inverted alg s inner o st nx x) _ (λ b. holds-inverted o st nx x q) (λ b.
            holds-pick (eqb k 205) (muxed alg s inner o st nx x) _ (λ b. holds-muxed o st nx x q) (λ b.
            holds-pick (eqb k 206) (regged alg s inner o st nx x) (no 2 st x) (λ b. holds-regged o st nx x q) (λ b. tt)))))))))

        holds-term : (o at : ℕ) (x : S) → K x → Holds (term alg s inner o at x)
        unfolding term
        holds-term o at x q = holds-level o is_product (factor alg s inner o) (λ at x q. holds-factor o at x q) at x q

        pub holds_expression : (o at : ℕ) (x : S) → K x → Holds (expression alg s inner o at x)
        unfolding expression
        holds_expression o at x q = holds-level o is_sum (term alg s inner o) (λ at x q. holds-term o at x q) at x q

      pub holds_nested : (d : ℕ) (m : Bool) (o p at : ℕ) (x : S) → K x → Holds (nested alg s d m o p at x)
      unfolding nested
      holds_nested zero m o p at x q = tt
      holds_nested (suc d) true o p at x q = holds-factor (nested alg s d) (λ m o p at x q. holds_nested d m o p at x q) o at x q
      holds_nested (suc d) false o p at x q = holds_expression (nested alg s d) (λ m o p at x q. holds_nested d m o p at x q) o at x q
