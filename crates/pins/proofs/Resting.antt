-- What an OUT shows rests on the pins that its equation names, and on nothing else. Assumes nothing.
use mathlib.Core.Path.{◌≡◌, refl, sym, ap, ◌∙◌, subst}
use mathlib.Core.Logic.{⊎_elim}
use mathlib.Core.Bool.{Bool, true, false, not, ◌&&◌}
use mathlib.Core.List.{List}
use Prim.Native.Nat.{ℕ, zero, suc, ◌≤◌, ◌<◌}
use native.Mathlib.Omega.{arith}
use lib.Dec.{T, eqb, ltb}
use borrow.Author.Tests.{eq-eqb, lt-ltb, le-ltb}
use Rattle.basics.specs.Choice.{pick, xor}
use Rattle.basics.specs.Below.{any_below}
use Rattle.basics.proofs.Truth.{and_i, and_l, and_r, or_l, or_r, of_true, true_of, or_cases, clash}
use Rattle.basics.proofs.Folds.{any_hit}
use Rattle.basics.proofs.Store.{below_or_not}
use Rattle.trees.specs.Layout.{Elements, elements_of}
use Rattle.trees.specs.Machine.{value_of}
use Rattle.reach.specs.Uses.{names, replaced, remains, writes, uses, keeps}
use Rattle.reach.specs.Reach.Meets.{here}
use Rattle.reach.specs.Meeting.{meets}
use Rattle.reach.proofs.Warshall.{joined}
use Rattle.reach.proofs.Meeting.{meets_path, path_meets}
use Rattle.reach.specs.Uses.{inverts}
use Rattle.circuit.specs.Placed.{plain_n, placed_n}
use Rattle.circuit.specs.StageFive.{misplaced}
use Rattle.pins.proofs.Keeping.{none_two, value_own}
use Rattle.meaning.specs.Meaning.{known, value, meaning, shows_next}
use Rattle.meaning.proofs.Unique.{value_same}
use Rattle.meaning.proofs.Fine.{remains_beyond, replaced_beyond}
use Rattle.pins.specs.Named.{mentions, mentions_at, names_pin}

any_at : (f : ℕ → Bool) (n k : ℕ) → k < n → T (f k) → T (any_below f n)
any_at f n k h t = of_true (any_below f n) (any_hit f n k h (true_of (f k) t))

any_found : (f : ℕ → Bool) (n : ℕ) → T (any_below f n) → (k : ℕ) × ((k < n) × T (f k))
unfolding any_below
any_found f zero t = absurd t
any_found f (suc n) t =
    ⊎_elim
    (λ (l : T (any_below f n)). let r = any_found f n l in let h = r.1.0 in (r.0, (omega arith, r.1.1)))
    (λ (l : T (f n)). (n, (omega arith, l)))
    (or_cases (any_below f n) (f n) t)

-- what is written is mentioned
pub mentions_written : (e : Elements) (o j : ℕ) → T (writes e o j) → T (mentions e o j)
unfolding mentions
mentions_written e o j t = or_l (writes e o j) (any_below (λ k. writes e o k && meets e k j) 64) t

writes_small : (e : Elements) (o j : ℕ) → j < 64 → T (names (e.nodes o) j) → T (writes e o j)
unfolding writes
writes_small e o j h t = and_i (ltb j 64) (names (e.nodes o) j) (of_true (ltb j 64) (lt-ltb j 64 h)) t

writes_below : (e : Elements) (o j : ℕ) → T (writes e o j) → j < 64
unfolding writes
writes_below e o j t =
    ⊎_elim (λ (h : j < 64). h) (λ (h : 64 ≤ j). absurd (subst (λ (b : Bool). T b) (le-ltb j 64 h) (and_l (ltb j 64) (names (e.nodes o) j) t))) (below_or_not j 64)

uses_of : (e : Elements) (i j : ℕ) → T (replaced e i) → T (writes e i j) → T (uses e i j)
unfolding uses
uses_of e i j r w = and_i (replaced e i) (writes e i j) r w

-- a mentioned element that is replaced mentions what it names
pub mentions_next : (e : Elements) (o i j : ℕ) → i < 64 → T (mentions e o i) → T (replaced e i) → T (writes e i j) → T (mentions e o j)
unfolding mentions
mentions_next e o i j hi t r w =
    ⊎_elim
    (λ (l : T (writes e o i)).
    or_r (writes e o j) (any_below (λ k. writes e o k && meets e k j) 64)
    (any_at (λ k. writes e o k && meets e k j) 64 i hi (and_i (writes e o i) (meets e i j) l (path_meets e i j (here (uses_of e i j r w))))))
    (λ (l : T (any_below (λ k. writes e o k && meets e k i) 64)).
    let f = any_found (λ k. writes e o k && meets e k i) 64 l in
    let k = f.0 in
    or_r (writes e o j) (any_below (λ k. writes e o k && meets e k j) 64)
    (any_at (λ k. writes e o k && meets e k j) 64 k f.1.0
    (and_i (writes e o k) (meets e k j) (and_l (writes e o k) (meets e k i) f.1.1)
    (path_meets e k j (joined (meets_path e k i (and_r (writes e o k) (meets e k i) f.1.1)) (here (uses_of e i j r w)))))))
    (or_cases (writes e o i) (any_below (λ k. writes e o k && meets e k i) 64) t)

-- the pin of a mentioned element that remains is named
pub names_mentioned : (e : Elements) (o j : ℕ) → j < 64 → T (mentions e o j) → T (remains e j) → T (names_pin e o (e.pin j))
unfolding names_pin
names_mentioned e o j h t r =
    or_l (any_below (mentions_at e o (e.pin j)) 64) (keeps (e.nodes o) && eqb (e.pin o) (e.pin j))
    (any_at (mentions_at e o (e.pin j)) 64 j h
    (and_i (remains e j) (eqb (e.pin j) (e.pin j) && mentions e o j) r
    (and_i (eqb (e.pin j) (e.pin j)) (mentions e o j) (of_true (eqb (e.pin j) (e.pin j)) (eq-eqb (e.pin j) (e.pin j) refl)) t)))

-- a two-part REG names its own pin
pub names_own : (e : Elements) (o : ℕ) → T (keeps (e.nodes o)) → T (names_pin e o (e.pin o))
unfolding names_pin
names_own e o k =
    or_r (any_below (mentions_at e o (e.pin o)) 64) (keeps (e.nodes o) && eqb (e.pin o) (e.pin o))
    (and_i (keeps (e.nodes o)) (eqb (e.pin o) (e.pin o)) k (of_true (eqb (e.pin o) (e.pin o)) (eq-eqb (e.pin o) (e.pin o) refl)))

-- an OUT that refusal 8 lets pass
not_false : (b : Bool) → not b ≡ false → b ≡ true
not_false true q = refl
not_false false q = absurd (clash q)

misplaced_out : (e : Elements) (o : ℕ) → e.class o ≡ 2 → misplaced e o ≡ false → placed_n (e.nodes o) ≡ true
unfolding misplaced
misplaced_out e o c p =
    not_false (placed_n (e.nodes o))
    (sym (ap (λ (b : Bool). pick b (not (placed_n (e.nodes o))) (pick (eqb (e.class o) 3) (not (plain_n (e.nodes o))) false)) (eq-eqb (e.class o) 2 c)) ∙ p)

module _ (parts : List ℕ) (o : ℕ) (s t : ℕ → Bool) (same : (p : ℕ) → T (names_pin (elements_of parts) o p) → s p ≡ t p) where
  -- the value of an element that remains
  known-rests : (j : ℕ) → (j < 64 → T (mentions (elements_of parts) o j)) → known (elements_of parts) s j ≡ known (elements_of parts) t j
  known-rests j m = go (remains (elements_of parts) j) refl
    where
      go : (b : Bool) → remains (elements_of parts) j ≡ b → (b && s ((elements_of parts).pin j)) ≡ (b && t ((elements_of parts).pin j))
      go false q = refl
      go true q =
          ⊎_elim
          (λ (h : j < 64). same ((elements_of parts).pin j) (names_mentioned (elements_of parts) o j h (m h) (of_true (remains (elements_of parts) j) q)))
          (λ (h : 64 ≤ j). absurd (subst (λ (b : Bool). T b) (sym q ∙ remains_beyond parts j h) tt))
          (below_or_not j 64)

  side-rests : (v w : ℕ → Bool) (j : ℕ) → (T (replaced (elements_of parts) j) → (k : ℕ) → T (names ((elements_of parts).nodes j) k) → v k ≡ w k)
      → known (elements_of parts) s j ≡ known (elements_of parts) t j
      → pick (replaced (elements_of parts) j) (value_of v false ((elements_of parts).nodes j)) (known (elements_of parts) s j)
      ≡ pick (replaced (elements_of parts) j) (value_of w false ((elements_of parts).nodes j)) (known (elements_of parts) t j)
  side-rests v w j f k = go (replaced (elements_of parts) j) refl
    where
      go : (b : Bool) → replaced (elements_of parts) j ≡ b
          → pick b (value_of v false ((elements_of parts).nodes j)) (known (elements_of parts) s j) ≡ pick b (value_of w false ((elements_of parts).nodes j)) (known (elements_of parts) t j)
      go true q = value_same v w false ((elements_of parts).nodes j) (f (of_true (replaced (elements_of parts) j) q))
      go false q = k

  -- the value of a mentioned element, names replaced d deep
  value-rests : (d j : ℕ) → (j < 64 → T (mentions (elements_of parts) o j)) → value (elements_of parts) s d j ≡ value (elements_of parts) t d j
  unfolding value
  value-rests zero j m = known-rests j m
  value-rests (suc d) j m =
      side-rests (value (elements_of parts) s d) (value (elements_of parts) t d) j
      (λ r k n. value-rests d k (λ h. deeper r k n h)) (known-rests j m)
    where
      deeper : T (replaced (elements_of parts) j) → (k : ℕ) → T (names ((elements_of parts).nodes j) k) → k < 64 → T (mentions (elements_of parts) o k)
      deeper r k n h =
          ⊎_elim
          (λ (l : j < 64). mentions_next (elements_of parts) o j k l (m l) r (writes_small (elements_of parts) j k h n))
          (λ (l : 64 ≤ j). absurd (subst (λ (b : Bool). T b) (replaced_beyond parts j l) r))
          (below_or_not j 64)

  -- the equation's value, with its own register's value as it may be
  pub rests_at : (q : Bool) → value_of (meaning (elements_of parts) s) q ((elements_of parts).nodes o) ≡ value_of (meaning (elements_of parts) t) q ((elements_of parts).nodes o)
  rests_at q =
      value_same (meaning (elements_of parts) s) (meaning (elements_of parts) t) q ((elements_of parts).nodes o)
      (λ j n. value-rests 65 j (λ h. mentions_written (elements_of parts) o j (writes_small (elements_of parts) o j h n)))

  -- what the pin shows next
  pub rests : o < 64 → (elements_of parts).class o ≡ 2 → misplaced (elements_of parts) o ≡ false → shows_next (elements_of parts) o s ≡ shows_next (elements_of parts) o t
  unfolding shows_next
  rests h out p = go (keeps ((elements_of parts).nodes o)) refl
    where
      own : keeps ((elements_of parts).nodes o) ≡ true → s ((elements_of parts).pin o) ≡ t ((elements_of parts).pin o)
      own k = same ((elements_of parts).pin o) (names_own (elements_of parts) o (of_true (keeps ((elements_of parts).nodes o)) k))

      placed : placed_n ((elements_of parts).nodes o) ≡ true
      placed = misplaced_out (elements_of parts) o out p

      go : (b : Bool) → keeps ((elements_of parts).nodes o) ≡ b
          → value_of (meaning (elements_of parts) s) (xor (inverts ((elements_of parts).nodes o)) (s ((elements_of parts).pin o))) ((elements_of parts).nodes o)
          ≡ value_of (meaning (elements_of parts) t) (xor (inverts ((elements_of parts).nodes o)) (t ((elements_of parts).pin o))) ((elements_of parts).nodes o)
      go true k =
          rests_at (xor (inverts ((elements_of parts).nodes o)) (s ((elements_of parts).pin o)))
          ∙ ap (λ (b : Bool). value_of (meaning (elements_of parts) t) (xor (inverts ((elements_of parts).nodes o)) b) ((elements_of parts).nodes o)) (own k)
      go false k =
          rests_at (xor (inverts ((elements_of parts).nodes o)) (s ((elements_of parts).pin o)))
          ∙ value_own (meaning (elements_of parts) t) (xor (inverts ((elements_of parts).nodes o)) (s ((elements_of parts).pin o))) (xor (inverts ((elements_of parts).nodes o)) (t ((elements_of parts).pin o))) ((elements_of parts).nodes o)
          (none_two ((elements_of parts).nodes o) placed k)
