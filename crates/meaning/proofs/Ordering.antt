-- The loops that fill the ranks and the order, and that follow the order. Assumes nothing.
use mathlib.Core.Path.{◌≡◌, refl, sym, ap, ap₂, ◌∙◌, subst}
use mathlib.Core.Bool.{Bool, true, false}
use mathlib.Core.List.{List, [], ◌∷◌, ◌++◌}
use Prim.Native.Nat.{ℕ, suc, ◌+◌, ◌-◌, ◌*◌, ◌%◌, ◌≤◌, ◌<◌}
use native.Mathlib.Numerals.{add-one}
use native.Mathlib.Omega.{arith}
use lib.ListN.{length, get_or, set, take, drop, length-set, length-drop, drop_of_length-le}
use lib.Seq.{drop-cons, take-suc, take-set-le, get_or-set_same, length-take-le, get_or-take, get_or-drop}
use Rattle.basics.specs.Choice.{bit, pick}
use Rattle.basics.specs.Below.{tally}
use Rattle.basics.proofs.Folds.{tally_next, tally_le}
use Rattle.trees.specs.Layout.{Elements}
use Rattle.meaning.proofs.Settling.{order_next, order_none, settle_none, settle_cons, settled_length}
use Rattle.meaning.specs.Settle.{settled1, settle_all, its_turn, order_of}

-- one more behind the n that a list begins with
pub pushed : (l : List ℕ) (n x : ℕ) → n < length l → take (n + 1) (set l n x) ≡ take n l ++ (x ∷ [])
pushed l n x h =
    let g = length-set l n x in
    ap (λ (k : ℕ). take k (set l n x)) (add-one n)
    ∙ take-suc (set l n x) n 0 (omega arith)
    ∙ ap₂ (λ (a : List ℕ) (b : ℕ). a ++ (b ∷ [])) (take-set-le n l n x (omega arith)) (get_or-set_same l n x 0 h)

pub record Ordering (e : Elements) (ranks out : List ℕ) (n p : ℕ) : Type 0 where
  pub size : length out ≡ 4160
  pub fits : n ≤ p
  pub under : p ≤ 4160
  pub says : take n out ≡ order_of e ranks p

pub order_start : (e : Elements) (ranks out : List ℕ) → length out ≡ 4160 → Ordering e ranks out 0 0
order_start e ranks out h = record { size = h; fits = omega arith; under = omega arith; says = sym (order_none e ranks) }

pub order_more : (e : Elements) (ranks out out' : List ℕ) (n n' p : ℕ) → p < 4160 → Ordering e ranks out n p
    → n' ≡ pick (its_turn e ranks p) (n + 1) n → out' ≡ pick (its_turn e ranks p) (set out n (p % 64)) out → Ordering e ranks out' n' (p + 1)
order_more e ranks out out' n n' p h c en eo = go (its_turn e ranks p) refl
  where
    next : order_of e ranks (p + 1) ≡ pick (its_turn e ranks p) (order_of e ranks p ++ (p % 64 ∷ [])) (order_of e ranks p)
    next = ap (order_of e ranks) (add-one p) ∙ order_next e ranks p

    go : (b : Bool) → its_turn e ranks p ≡ b → Ordering e ranks out' n' (p + 1)
    go true q =
        let a : n' ≡ n + 1 = en ∙ ap (λ (b : Bool). pick b (n + 1) n) q in
        let d : out' ≡ set out n (p % 64) = eo ∙ ap (λ (b : Bool). pick b (set out n (p % 64)) out) q in
        let f = c.fits in
        let z = c.size in
        record {
          size = ap length d ∙ length-set out n (p % 64) ∙ c.size;
          fits = omega arith;
          under = omega arith;
          says =
              ap₂ take a d
              ∙ pushed out n (p % 64) (omega arith)
              ∙ ap (λ (l : List ℕ). l ++ (p % 64 ∷ [])) c.says
              ∙ sym (next ∙ ap (λ (b : Bool). pick b (order_of e ranks p ++ (p % 64 ∷ [])) (order_of e ranks p)) q);
        }
    go false q =
        let a : n' ≡ n = en ∙ ap (λ (b : Bool). pick b (n + 1) n) q in
        let d : out' ≡ out = eo ∙ ap (λ (b : Bool). pick b (set out n (p % 64)) out) q in
        let f = c.fits in
        record {
          size = ap length d ∙ c.size;
          fits = omega arith;
          under = omega arith;
          says = ap₂ take a d ∙ c.says ∙ sym (next ∙ ap (λ (b : Bool). pick b (order_of e ranks p ++ (p % 64 ∷ [])) (order_of e ranks p)) q);
        }

pub order_end : (e : Elements) (ranks out : List ℕ) (n p : ℕ) → 4160 ≤ p → Ordering e ranks out n p → Ordering e ranks out n 4160
order_end e ranks out n p h c = let u = c.under in subst (λ (k : ℕ). Ordering e ranks out n k) (omega arith) c

-- ---- following the order

pub record Following (e : Elements) (v₀ order v : List ℕ) (k : ℕ) : Type 0 where
  pub size : length v ≡ 64
  pub says : settle_all e v (drop k order) ≡ settle_all e v₀ order

pub follow_more : (e : Elements) (v₀ order v v' : List ℕ) (k : ℕ) → k < length order → Following e v₀ order v k → v' ≡ settled1 e v (get_or order k 0) → Following e v₀ order v' (k + 1)
follow_more e v₀ order v v' k h c q =
    record {
      size = ap length q ∙ settled_length e v (get_or order k 0) ∙ c.size;
      says =
          ap₂ (λ (x : List ℕ) (j : ℕ). settle_all e x (drop j order)) q (add-one k)
          ∙ sym (settle_cons e v (get_or order k 0) (drop (suc k) order))
          ∙ ap (settle_all e v) (sym (drop-cons order k 0 h))
          ∙ c.says;
    }

pub follow_end : (e : Elements) (v₀ order v : List ℕ) (k : ℕ) → length order ≤ k → Following e v₀ order v k → v ≡ settle_all e v₀ order
follow_end e v₀ order v k h c = sym (settle_none e v) ∙ ap (settle_all e v) (sym (drop_of_length-le order h)) ∙ c.says

-- ---- counting

pub count_more : (f : ℕ → Bool) (j n x : ℕ) → n ≡ tally f j → x ≡ bit (f j) → n + x ≡ tally f (j + 1)
count_more f j n x e d = let a = tally_next f j in omega arith

pub count_small : (f : ℕ → Bool) (j n : ℕ) → n ≡ tally f j → n ≤ j
count_small f j n e = let a = tally_le f j in omega arith

pub count_none : (f : ℕ → Bool) → 0 ≡ tally f 0
unfolding tally
count_none f = refl

pub bit_one : (x : ℕ) (b : Bool) → x ≡ bit b → x ≤ 1
bit_one x true e = omega arith
bit_one x false e = omega arith

-- row i of a table, as a part of it
pub row_length : (m : List ℕ) (i : ℕ) → length m ≡ 4096 → i < 64 → length (take (i * 64 + 64 - i * 64) (drop (i * 64) m)) ≡ 64
row_length m i h l =
    let n : i * 64 + 64 - i * 64 ≡ 64 = omega arith in
    ap (λ (k : ℕ). length (take k (drop (i * 64) m))) n
    ∙ length-take-le 64 (drop (i * 64) m) (simp length-drop (omega arith))

pub row_at : (m : List ℕ) (i j : ℕ) → j < 64 → get_or (take (i * 64 + 64 - i * 64) (drop (i * 64) m)) j 0 ≡ get_or m (i * 64 + j) 0
row_at m i j h =
    let n : i * 64 + 64 - i * 64 ≡ 64 = omega arith in
    ap (λ (k : ℕ). get_or (take k (drop (i * 64) m)) j 0) n
    ∙ get_or-take 64 (drop (i * 64) m) j 0 h
    ∙ get_or-drop (i * 64) m j 0
