-- What an OUT takes next depends on the pins that its equation names, and on no others. Assumes nothing.
use mathlib.Core.Path.{◌≡◌, refl, sym, ap, ap₂, ◌∙◌}
use mathlib.Core.Logic.{⊎_elim}
use mathlib.Core.Bool.{Bool, true, false, not, ◌&&◌, ◌||◌}
use mathlib.Core.List.{List, [], ◌∷◌}
use Prim.Native.Nat.{ℕ, zero, suc, ◌-◌, ◌≤◌, ◌<◌}
use native.Mathlib.Omega.{arith}
use lib.Dec.{T, eqb, ltb}
use lib.ListN.{length, get_or, drop}
use borrow.Author.Tests.{lt-ltb, ltb-true, eq-eqb}
use Rattle.basics.specs.Choice.{pick, xor}
use Rattle.basics.specs.Below.{any_below}
use Rattle.basics.proofs.Truth.{clash, of_true, true_of, or_l, or_r, and_i}
use Rattle.basics.proofs.Store.{below_or_not}
use Rattle.basics.proofs.Folds.{any_hit}
use Rattle.trees.specs.Machine.{run, step, gate, node_value, arity, value_of}
use Rattle.trees.specs.Layout.{Elements}
use Rattle.reach.specs.Uses.{is_reg, from_end, inverts, keeps, names, remains, replaced, writes}
use Rattle.circuit.specs.Placed.{placed_n}
use Rattle.meaning.specs.Meaning.{known, value, meaning, shows_next, takes_next}
use Rattle.meaning.proofs.Unique.{value_same, value_leaf}
use Rattle.pins.specs.Named.{mentions, mentions_at, names_pin}
use Rattle.pins.proofs.Resting.{mentions_written, mentions_next}
use Rattle.agree.proofs.Basic.{under, and_first, and_second}

-- ---- a REG of two parts is where keeps finds it

-- no node is a REG of two parts
free : List ℕ → Bool
free [] = true
free (c ∷ ns) = not (eqb c 8) && free ns

end_tail : (c : ℕ) (ns : List ℕ) (k : ℕ) → k < length ns → from_end (c ∷ ns) k ≡ from_end ns k
unfolding from_end
end_tail c ns k h =
    let i : suc (length ns) - 1 - k ≡ suc (length ns - 1 - k) = omega arith in
    ap₂ (λ (b : Bool) (j : ℕ). pick b (get_or (c ∷ ns) j 0) 0) (lt-ltb k (suc (length ns)) (omega arith) ∙ sym (lt-ltb k (length ns) h)) i

keeps_tail : (c d f : ℕ) (ns : List ℕ) → keeps (c ∷ d ∷ f ∷ ns) ≡ keeps (d ∷ f ∷ ns)
unfolding keeps
keeps_tail c d f ns =
    let a = end_tail c (d ∷ f ∷ ns) 0 (omega arith) in
    let b = end_tail c (d ∷ f ∷ ns) 1 (omega arith) in
    λ i. pick (eqb (a i) 8) true (pick (eqb (a i) 2) (eqb (b i) 8) false)

not_reg : (c : ℕ) → not (is_reg c) ≡ true → not (eqb c 8) ≡ true
not_reg c e = go (eqb c 7) (eqb c 8) e
  where
    go : (a b : Bool) → not (a || b) ≡ true → not b ≡ true
    go true b t = absurd (clash (sym t))
    go false true t = absurd (clash (sym t))
    go false false t = refl

free_of : (ns : List ℕ) → placed_n ns ≡ true → keeps ns ≡ false → free ns ≡ true
unfolding placed_n keeps from_end free
free_of [] t k = refl
free_of (c ∷ []) t k = go (eqb c 8) (eqb c 2) k
  where
    go : (a b : Bool) → pick a true (pick b false false) ≡ false → (not a && true) ≡ true
    go true b q = absurd (clash q)
    go false b q = refl
free_of (c ∷ d ∷ []) t k = go (eqb c 7) (eqb c 8) (eqb d 2) (eqb d 8) t k
  where
    go : (a b x y : Bool) → (not (a || b) || x) ≡ true → pick y true (pick x b false) ≡ false → (not b && (not y && true)) ≡ true
    go a b x true p q = absurd (clash q)
    go a true true false p q = absurd (clash q)
    go a false x false p q = refl
    go true true false false p q = absurd (clash (sym p))
    go false true false false p q = absurd (clash (sym p))
free_of (c ∷ d ∷ f ∷ ns) t k =
    ap₂ (λ (a b : Bool). a && b) (not_reg c (and_first (not (is_reg c)) (placed_n (d ∷ f ∷ ns)) t))
    (free_of (d ∷ f ∷ ns) (and_second (not (is_reg c)) (placed_n (d ∷ f ∷ ns)) t) (sym (keeps_tail c d f ns) ∙ k))

-- its value then does not rest on what the register holds
gate_free : (c : ℕ) → c < 9 → not (eqb c 8) ≡ true → (x y z q r : Bool) → gate c x y z q ≡ gate c x y z r
gate_free zero h n x y z q r = refl
gate_free (suc zero) h n x y z q r = refl
gate_free (suc (suc zero)) h n x y z q r = refl
gate_free (suc (suc (suc zero))) h n x y z q r = refl
gate_free (suc (suc (suc (suc zero)))) h n x y z q r = refl
gate_free (suc (suc (suc (suc (suc zero))))) h n x y z q r = refl
gate_free (suc (suc (suc (suc (suc (suc zero)))))) h n x y z q r = refl
gate_free (suc (suc (suc (suc (suc (suc (suc zero))))))) h n x y z q r = refl
gate_free (suc (suc (suc (suc (suc (suc (suc (suc zero)))))))) h n x y z q r = absurd (clash (sym n))
gate_free (suc (suc (suc (suc (suc (suc (suc (suc (suc c))))))))) h n x y z q r = absurd (omega arith)

node_free : (env : ℕ → Bool) (q r : Bool) (c : ℕ) (x y z : Bool) → not (eqb c 8) ≡ true → node_value env q c x y z ≡ node_value env r c x y z
node_free env q r c x y z n = go (ltb c 9) refl
  where
    go : (b : Bool) → ltb c 9 ≡ b → pick b (gate c x y z q) (env (c - 9)) ≡ pick b (gate c x y z r) (env (c - 9))
    go true e = gate_free c (ltb-true c 9 e) n x y z q r
    go false e = refl

run_free : (env : ℕ → Bool) (q r : Bool) (ns : List ℕ) (st : List Bool) → free ns ≡ true → run env q ns st ≡ run env r ns st
unfolding run free
run_free env q r [] st e = refl
run_free env q r (c ∷ ns) st e =
    ap (λ (b : Bool). run env q ns (b ∷ drop (arity c) st)) (node_free env q r c (get_or st 0 false) (get_or st 1 false) (get_or st 2 false) (and_first (not (eqb c 8)) (free ns) e))
    ∙ run_free env q r ns (step env r c st) (and_second (not (eqb c 8)) (free ns) e)

value_free : (env : ℕ → Bool) (q r : Bool) (ns : List ℕ) → placed_n ns ≡ true → (keeps ns ≡ true → q ≡ r) → value_of env q ns ≡ value_of env r ns
unfolding value_of
value_free env q r ns t f = go (keeps ns) refl
  where
    go : (b : Bool) → keeps ns ≡ b → get_or (run env q ns []) 0 false ≡ get_or (run env r ns []) 0 false
    go true k = ap (λ (x : Bool). get_or (run env x ns []) 0 false) (f k)
    go false k = ap (λ (l : List Bool). get_or l 0 false) (run_free env q r ns [] (free_of ns t k))

-- ---- what is mentioned

written_in : (e : Elements) (i j : ℕ) → j < 64 → T (names (e.nodes i) j) → T (writes e i j)
unfolding writes
written_in e i j h t = and_i (ltb j 64) (names (e.nodes i) j) (of_true _ (lt-ltb j 64 h)) t

module _ (e : Elements) (few : (i : ℕ) → 64 ≤ i → e.class i ≡ 0) (o : ℕ) where
  -- what an equation writes is mentioned, and so is what a replaced element that is mentioned writes
  wrote : (j : ℕ) → j < 64 → T (names (e.nodes o) j) → T (mentions e o j)
  wrote j h t = mentions_written e o j (written_in e o j h t)

  passed_on : (i j : ℕ) → i < 64 → j < 64 → T (mentions e o i) → T (replaced e i) → T (names (e.nodes i) j) → T (mentions e o j)
  passed_on i j h l m r n = mentions_next e o i j h m r (written_in e i j l n)

  remains_beyond : (i : ℕ) → 64 ≤ i → remains e i ≡ false
  unfolding remains
  remains_beyond i h = simp (few i h)

  replaced_beyond : (i : ℕ) → 64 ≤ i → replaced e i ≡ false
  unfolding replaced
  replaced_beyond i h = simp (few i h)

  module _ (s t : ℕ → Bool) (same : (p : ℕ) → T (names_pin e o p) → s p ≡ t p) where
    pin-named : (j : ℕ) → j < 64 → T (mentions e o j) → remains e j ≡ true → T (names_pin e o (e.pin j))
    unfolding names_pin
    pin-named j h m r =
        or_l (any_below (mentions_at e o (e.pin j)) 64) (keeps (e.nodes o) && eqb (e.pin o) (e.pin j))
        (of_true _ (any_hit (mentions_at e o (e.pin j)) 64 j h (λ i. r i && (eq-eqb (e.pin j) (e.pin j) refl i && true_of (mentions e o j) m i))))

    own-named : keeps (e.nodes o) ≡ true → T (names_pin e o (e.pin o))
    unfolding names_pin
    own-named k =
        or_r (any_below (mentions_at e o (e.pin o)) 64) (keeps (e.nodes o) && eqb (e.pin o) (e.pin o))
        (of_true _ (λ i. k i && eq-eqb (e.pin o) (e.pin o) refl i))

    known_same : (j : ℕ) → j < 64 → T (mentions e o j) → known e s j ≡ known e t j
    known_same j h m = under (remains e j) (s (e.pin j)) (t (e.pin j)) (λ r. same (e.pin j) (pin-named j h m r))

    known-beyond : (j : ℕ) → 64 ≤ j → known e s j ≡ known e t j
    known-beyond j h = under (remains e j) (s (e.pin j)) (t (e.pin j)) (λ r. absurd (clash (sym r ∙ remains_beyond j h)))

    -- elements that are mentioned, at any depth
    values_same : (d j : ℕ) → j < 64 → T (mentions e o j) → value e s d j ≡ value e t d j
    unfolding value
    values_same zero j h m = known_same j h m
    values_same (suc d) j h m = go (λ k l w. values_same d k l w) (replaced e j) refl
      where
        each : ((k : ℕ) → k < 64 → T (mentions e o k) → value e s d k ≡ value e t d k) → T (replaced e j) → (k : ℕ) → T (names (e.nodes j) k) → value e s d k ≡ value e t d k
        each ih r k n =
            ⊎_elim
            (λ (l : k < 64). ih k l (passed_on j k h l m r n))
            (λ (l : 64 ≤ k). value_leaf e s d k (replaced_beyond k l) ∙ known-beyond k l ∙ sym (value_leaf e t d k (replaced_beyond k l)))
            (below_or_not k 64)

        go : ((k : ℕ) → k < 64 → T (mentions e o k) → value e s d k ≡ value e t d k) → (b : Bool) → replaced e j ≡ b
            → pick b (value_of (value e s d) false (e.nodes j)) (known e s j) ≡ pick b (value_of (value e t d) false (e.nodes j)) (known e t j)
        go ih true q = value_same (value e s d) (value e t d) false (e.nodes j) (each ih (of_true _ q))
        go ih false q = known_same j h m

    meaning-same : (j : ℕ) → T (names (e.nodes o) j) → meaning e s j ≡ meaning e t j
    meaning-same j n =
        ⊎_elim
        (λ (l : j < 64). values_same 65 j l (wrote j l n))
        (λ (l : 64 ≤ j). value_leaf e s 65 j (replaced_beyond j l) ∙ known-beyond j l ∙ sym (value_leaf e t 65 j (replaced_beyond j l)))
        (below_or_not j 64)

    -- THE LAW: settings that agree at the pins named give the same value
    pub takes_same : placed_n (e.nodes o) ≡ true → takes_next e o s ≡ takes_next e o t
    unfolding shows_next
    takes_same pl =
        ap (xor (inverts (e.nodes o)))
        (value_same (meaning e s) (meaning e t) (xor (inverts (e.nodes o)) (s (e.pin o))) (e.nodes o) meaning-same
        ∙ value_free (meaning e t) (xor (inverts (e.nodes o)) (s (e.pin o))) (xor (inverts (e.nodes o)) (t (e.pin o))) (e.nodes o) pl
        (λ k. ap (xor (inverts (e.nodes o))) (same (e.pin o) (own-named k))))
