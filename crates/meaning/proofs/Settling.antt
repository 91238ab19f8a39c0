-- Every element is given its value at its turn: those that it names have had theirs. Assumes nothing.
use mathlib.Core.Path.{◌≡◌, refl, sym, ap, ◌∙◌, subst, fun_ext}
use mathlib.Core.Logic.{⊎_elim, ◌≢◌}
use mathlib.Core.Bool.{Bool, true, false, ◌&&◌}
use mathlib.Core.List.{List, [], ◌∷◌, ◌++◌}
use Prim.Native.Nat.{ℕ, zero, suc, ◌+◌, ◌*◌, ◌/◌, ◌%◌, ◌<◌}
use native.Mathlib.Omega.{arith}
use native.Mathlib.Nat.{eq-or-lt_of_le}
use lib.Dec.{T, eqb, ltb}
use borrow.Author.Tests.{eqb-true, eqb-false, lt-ltb}
use lib.ListN.{length, get_or, set, length-set}
use lib.Seq.{get_or-set_same, get_or-set_other}
use Rattle.basics.specs.Choice.{bit, pick, on}
use Rattle.basics.proofs.Truth.{clash, of_true}
use Rattle.trees.specs.Machine.{value_of, env_of}
use Rattle.trees.specs.Layout.{Elements}
use Rattle.trees.proofs.Stack.{on_bit}
use Rattle.reach.specs.Uses.{names, replaced}
use Rattle.meaning.specs.Meaning.{known, Solves, meaning}
use Rattle.meaning.specs.Settle.{settled1, settle_all, its_turn, order_of}
use Rattle.meaning.proofs.Unique.{Ranked, exists, value_same, value_leaf}

settle_append : (e : Elements) (v is js : List ℕ) → settle_all e v (is ++ js) ≡ settle_all e (settle_all e v is) js
unfolding settle_all
settle_append e v [] js = refl
settle_append e v (i ∷ is) js = settle_append e (settled1 e v i) is js

settle_one : (e : Elements) (v : List ℕ) (i : ℕ) → settle_all e v (i ∷ []) ≡ settled1 e v i
unfolding settle_all
settle_one e v i = refl

pub settle_cons : (e : Elements) (v : List ℕ) (i : ℕ) (is : List ℕ) → settle_all e v (i ∷ is) ≡ settle_all e (settled1 e v i) is
unfolding settle_all
settle_cons e v i is = refl

pub settled_length : (e : Elements) (v : List ℕ) (i : ℕ) → length (settled1 e v i) ≡ length v
settled_length e v i = go (ltb i 64)
  where
    go : (b : Bool) → length (pick b (set v i (bit (value_of (env_of v) false (e.nodes i)))) v) ≡ length v
    go true = length-set v i (bit (value_of (env_of v) false (e.nodes i)))
    go false = refl

pub settle_none : (e : Elements) (v : List ℕ) → settle_all e v [] ≡ v
unfolding settle_all
settle_none e v = refl

pub order_next : (e : Elements) (ranks : List ℕ) (p : ℕ) → order_of e ranks (suc p) ≡ pick (its_turn e ranks p) (order_of e ranks p ++ (p % 64 ∷ [])) (order_of e ranks p)
unfolding order_of
order_next e ranks p = refl

pub order_none : (e : Elements) (ranks : List ℕ) → order_of e ranks 0 ≡ []
unfolding order_of
order_none e ranks = refl

-- v₀ has the values of the pins
pub record Starts (e : Elements) (s : ℕ → Bool) (v₀ : List ℕ) : Type 0 where
  pub size : length v₀ ≡ 64
  pub pins : (i : ℕ) → replaced e i ≡ false → env_of v₀ i ≡ known e s i

-- the ranks of the elements
pub record Ranks (e : Elements) (ranks : List ℕ) : Type 0 where
  pub few : (i : ℕ) → T (replaced e i) → i < 64
  pub small : (i : ℕ) → get_or ranks i 0 < 65
  pub ranked : Ranked e (λ i. get_or ranks i 0)

module _ (e : Elements) (ranks v₀ : List ℕ) (s : ℕ → Bool) (rk : Ranks e ranks) (st : Starts e s v₀) where
  record Settling (v : List ℕ) (p : ℕ) : Type 0 where
    size : length v ≡ 64
    leaf : (i : ℕ) → replaced e i ≡ false → env_of v i ≡ known e s i
    done : (i : ℕ) → i < 64 → get_or ranks i 0 * 64 + i < p → env_of v i ≡ meaning e s i

  sol : Solves e s (meaning e s)
  sol = exists e s (λ i. get_or ranks i 0) rk.ranked 65 rk.small

  replaced-is : (i : ℕ) → replaced e i ≡ true → meaning e s i ≡ value_of (meaning e s) false (e.nodes i)
  replaced-is i q = sol.says i ∙ ap (λ (b : Bool). pick b (value_of (meaning e s) false (e.nodes i)) (known e s i)) q

  -- the equation of the element whose turn it is
  now-is : (v : List ℕ) (p i : ℕ) → get_or ranks i 0 * 64 + i ≡ p → replaced e i ≡ true → Settling v p → value_of (env_of v) false (e.nodes i) ≡ meaning e s i
  now-is v p i k q c = value_same (env_of v) (meaning e s) false (e.nodes i) named ∙ sym (replaced-is i q)
    where
      named : (j : ℕ) → T (names (e.nodes i) j) → env_of v j ≡ meaning e s j
      named j t = go (replaced e j) refl
        where
          go : (b : Bool) → replaced e j ≡ b → env_of v j ≡ meaning e s j
          go true z =
              let rj = of_true (replaced e j) z in
              let l = rk.few j rj in
              let f = rk.ranked.falls i j (of_true (replaced e i) q) rj t in
              let g = rk.few i (of_true (replaced e i) q) in
              c.done j l (omega arith)
          go false z = c.leaf j z ∙ sym (value_leaf e s 65 j z)

  turn-set : (v : List ℕ) (p i : ℕ) → i < 64 → get_or ranks i 0 * 64 + i ≡ p → replaced e i ≡ true → Settling v p → Settling (set v i (bit (value_of (env_of v) false (e.nodes i)))) (p + 1)
  turn-set v p i h k q c = record { size = length-set v i x ∙ c.size; leaf = leaf; done = done }
    where
      x : ℕ
      x = bit (value_of (env_of v) false (e.nodes i))

      leaf : (j : ℕ) → replaced e j ≡ false → env_of (set v i x) j ≡ known e s j
      leaf j f = ap on (get_or-set_other v i j x 0 (λ z. clash (sym q ∙ ap (replaced e) (sym z) ∙ f))) ∙ c.leaf j f

      done : (j : ℕ) → j < 64 → get_or ranks j 0 * 64 + j < p + 1 → env_of (set v i x) j ≡ meaning e s j
      done j l m = go (eqb j i) refl
        where
          go : (b : Bool) → eqb j i ≡ b → env_of (set v i x) j ≡ meaning e s j
          go true z =
              let w : j ≡ i = eqb-true j i z in
              let y = c.size in
              ap (λ (n : ℕ). env_of (set v i x) n) w
              ∙ ap on (get_or-set_same v i x 0 (omega arith))
              ∙ on_bit (value_of (env_of v) false (e.nodes i))
              ∙ now-is v p i k q c
              ∙ ap (meaning e s) (sym w)
          go false z =
              let n = eqb-false j i z in
              let w : get_or ranks j 0 * 64 + j ≢ p = λ y. n (omega arith) in
              ap on (get_or-set_other v i j x 0 n) ∙ c.done j l (omega arith)

  turn-keep : (v : List ℕ) (p : ℕ) → (get_or ranks (p % 64) 0 ≡ p / 64 → replaced e (p % 64) ≡ false) → Settling v p → Settling v (p + 1)
  turn-keep v p f c = record { size = c.size; leaf = c.leaf; done = done }
    where
      done : (j : ℕ) → j < 64 → get_or ranks j 0 * 64 + j < p + 1 → env_of v j ≡ meaning e s j
      done j l m =
          ⊎_elim
          (λ (q : get_or ranks j 0 * 64 + j ≡ p).
          let a : j ≡ p % 64 = omega arith in
          let b : get_or ranks j 0 ≡ p / 64 = omega arith in
          let d : replaced e j ≡ false = ap (replaced e) a ∙ f (ap (λ (n : ℕ). get_or ranks n 0) (sym a) ∙ b) in
          c.leaf j d ∙ sym (value_leaf e s 65 j d))
          (λ (q : get_or ranks j 0 * 64 + j < p). c.done j l q)
          (eq-or-lt_of_le (omega arith))

  step : (v : List ℕ) (p : ℕ) → Settling v p → Settling (pick (its_turn e ranks p) (settled1 e v (p % 64)) v) (p + 1)
  step v p c = go (eqb (get_or ranks (p % 64) 0) (p / 64)) (replaced e (p % 64)) refl refl
    where
      go : (a b : Bool) → eqb (get_or ranks (p % 64) 0) (p / 64) ≡ a → replaced e (p % 64) ≡ b → Settling (pick (a && b) (settled1 e v (p % 64)) v) (p + 1)
      go true true ea eb =
          let q = eqb-true (get_or ranks (p % 64) 0) (p / 64) ea in
          let h : p % 64 < 64 = omega arith in
          subst (λ (x : Bool). Settling (pick x (set v (p % 64) (bit (value_of (env_of v) false (e.nodes (p % 64))))) v) (p + 1)) (sym (lt-ltb (p % 64) 64 h)) (turn-set v p (p % 64) h (omega arith) eb c)
      go true false ea eb = turn-keep v p (λ q. eb) c
      go false b ea eb = turn-keep v p (λ q. absurd (eqb-false (get_or ranks (p % 64) 0) (p / 64) ea q)) c

  ordered-next : (p : ℕ) → Settling (settle_all e v₀ (order_of e ranks p)) p → Settling (settle_all e v₀ (order_of e ranks (suc p))) (suc p)
  ordered-next p c =
      subst (λ (l : List ℕ). Settling l (suc p)) (sym same) (subst (λ (n : ℕ). Settling (pick (its_turn e ranks p) (settled1 e v (p % 64)) v) n) one (step v p c))
    where
      v : List ℕ
      v = settle_all e v₀ (order_of e ranks p)

      one : p + 1 ≡ suc p
      one = omega arith

      go : (b : Bool) → settle_all e v₀ (pick b (order_of e ranks p ++ (p % 64 ∷ [])) (order_of e ranks p)) ≡ pick b (settled1 e v (p % 64)) v
      go true = settle_append e v₀ (order_of e ranks p) (p % 64 ∷ []) ∙ settle_one e v (p % 64)
      go false = refl

      same : settle_all e v₀ (order_of e ranks (suc p)) ≡ pick (its_turn e ranks p) (settled1 e v (p % 64)) v
      same = ap (settle_all e v₀) (order_next e ranks p) ∙ go (its_turn e ranks p)

  ordered : (p : ℕ) → Settling (settle_all e v₀ (order_of e ranks p)) p
  ordered zero = subst (λ (l : List ℕ). Settling l 0) (sym (ap (settle_all e v₀) (order_none e ranks) ∙ settle_none e v₀)) (record { size = st.size; leaf = st.pins; done = λ i l k. absurd (omega arith) })
  ordered (suc p) = ordered-next p (ordered p)

  -- all values
  pub settled : env_of (settle_all e v₀ (order_of e ranks 4160)) ≡ meaning e s
  settled = fun_ext at
    where
      c : Settling (settle_all e v₀ (order_of e ranks 4160)) 4160
      c = ordered 4160

      at : (i : ℕ) → env_of (settle_all e v₀ (order_of e ranks 4160)) i ≡ meaning e s i
      at i = go (replaced e i) refl
        where
          go : (b : Bool) → replaced e i ≡ b → env_of (settle_all e v₀ (order_of e ranks 4160)) i ≡ meaning e s i
          go true z = let l = rk.few i (of_true (replaced e i) z) in let r = rk.small i in c.done i l (omega arith)
          go false z = c.leaf i z ∙ sym (value_leaf e s 65 i z)
