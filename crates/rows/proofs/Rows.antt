-- When the rows are true: open always, dead never, a product's row where the setting of the signals has what is picked, a feedback row where the pin
-- shows the value wanted.
-- Assumes nothing.
use mathlib.Core.Path.{◌≡◌, refl, sym, ap, ap₂, ◌∙◌}
use mathlib.Core.Bool.{Bool, true, false, not, ◌&&◌, ◌||◌}
use mathlib.Core.List.{List, [], ◌∷◌, ◌++◌, append-nil}
use mathlib.Core.Logic.{⊎_elim}
use Prim.Native.Nat.{ℕ, zero, suc, ◌+◌, ◌-◌, ◌*◌, ◌/◌, ◌%◌, ◌<◌}
use native.Mathlib.Nat.{eq-or-lt_of_le, le_of_suc-le-suc}
use native.Mathlib.Omega.{arith}
use borrow.Author.Tests.{eq-eqb, ne_eqb}
use lib.ListN.{length, get_or}
use Rattle.basics.specs.Choice.{bit, on, xor}
use Rattle.basics.specs.Below.{any_below, all_below, listed}
use Rattle.basics.proofs.Truth.{and_false, and_true, clash, of_true, true_of, or_cases}
use Rattle.basics.proofs.Folds.{any_hit, all_same, listed_at}
use Rattle.rows.specs.Row.{joins, pair_true, true_row, dead_row, plain_fuse, inverse_fuse, pairs_from, product_row, feedback_fuse, feedback_row}
use Rattle.rows.specs.Setting.{setting_from, setting_of}

-- ---- open and dead rows

all_true : (g : ℕ → Bool) (n : ℕ) → ((p : ℕ) → p < n → g p ≡ true) → all_below g n ≡ true
unfolding all_below
all_true g zero e = refl
all_true g (suc n) e = ap₂ (λ (x y : Bool). x && y) (all_true g n (λ p h. e p (omega arith))) (e n (omega arith))

-- a row of open fuses is always true
pub open_true : (f : ℕ → ℕ) (sig : List ℕ) → ((c : ℕ) → c < 44 → f c ≡ 1) → true_row f sig ≡ true
unfolding true_row
open_true f sig e =
    all_true (λ p. pair_true (f (p * 2)) (f (p * 2 + 1)) (get_or sig p 0)) 22 (λ p h. λ i. pair_true (e (p * 2) (omega arith) i) (e (p * 2 + 1) (omega arith) i) (get_or sig p 0))

dead_pair : (a b x : ℕ) → (joins a && joins b) ≡ true → pair_true a b x ≡ false
dead_pair a b x e = go (joins a) (joins b) (on x) e
  where
    go : (u v w : Bool) → (u && v) ≡ true → ((not u || w) && (not v || not w)) ≡ false
    go true true true t = refl
    go true true false t = refl
    go true false w t = absurd (clash (sym t))
    go false v w t = absurd (clash (sym t))

none_true : (f g : ℕ → Bool) → ((p : ℕ) → f p ≡ true → g p ≡ false) → (n : ℕ) → any_below f n ≡ true → all_below g n ≡ false
unfolding any_below all_below
none_true f g e zero t = absurd (clash (sym t))
none_true f g e (suc n) t =
    ⊎_elim
    (λ u. ap (λ (x : Bool). x && g n) (none_true f g e n (true_of (any_below f n) u)))
    (λ u. ap (λ (x : Bool). all_below g n && x) (e n (true_of (f n) u)) ∙ and_false (all_below g n))
    (or_cases (any_below f n) (f n) (of_true _ t))

-- a row that joins both columns of a pair is always false
pub dead_false : (f : ℕ → ℕ) (sig : List ℕ) → dead_row f ≡ true → true_row f sig ≡ false
unfolding true_row dead_row
dead_false f sig e =
    none_true (λ p. joins (f (p * 2)) && joins (f (p * 2 + 1))) (λ p. pair_true (f (p * 2)) (f (p * 2 + 1)) (get_or sig p 0)) (λ p. dead_pair (f (p * 2)) (f (p * 2 + 1)) (get_or sig p 0)) 22 e

-- a row whose fuses all join is dead
pub zero_dead : (f : ℕ → ℕ) → ((c : ℕ) → c < 44 → f c ≡ 0) → dead_row f ≡ true
unfolding dead_row
zero_dead f e = any_hit (λ p. joins (f (p * 2)) && joins (f (p * 2 + 1))) 22 0 (omega arith) (λ i. joins (e 0 (omega arith) i) && joins (e 1 (omega arith) i))

-- ---- settings

pub setting_length : (s : List Bool) (sig : List ℕ) → length (setting_from s sig) ≡ length s + length sig
unfolding setting_from
setting_length s [] = omega arith
setting_length s (x ∷ sig) = let e = setting_length (not (on x) ∷ s) sig in omega arith

behind : (s : List Bool) (sig : List ℕ) (j : ℕ) (d : Bool) → get_or (setting_from s sig) (length sig + j) d ≡ get_or s j d
unfolding setting_from
behind s [] j d = let e : 0 + j ≡ j = omega arith in ap (λ (i : ℕ). get_or s i d) e
behind s (x ∷ sig) j d =
    let e : suc (length sig) + j ≡ length sig + suc j = omega arith in
    ap (λ (i : ℕ). get_or (setting_from (not (on x) ∷ s) sig) i d) e ∙ behind (not (on x) ∷ s) sig (suc j) d

from_at : (s : List Bool) (sig : List ℕ) (i : ℕ) (d : Bool) → i < length sig → get_or (setting_from s sig) i d ≡ not (on (get_or sig (length sig - suc i) 0))
unfolding setting_from
from_at s [] i d h = absurd (omega arith)
from_at s (x ∷ sig) i d h =
    ⊎_elim
    (λ (q : i ≡ length sig).
    let e : i ≡ length sig + 0 = omega arith in
    let z : 0 ≡ suc (length sig) - suc i = omega arith in
    ap (λ (k : ℕ). get_or (setting_from (not (on x) ∷ s) sig) k d) e ∙ behind (not (on x) ∷ s) sig 0 d ∙ ap (λ (k : ℕ). not (on (get_or (x ∷ sig) k 0))) z)
    (λ (l : i < length sig).
    let z : suc (length sig - suc i) ≡ suc (length sig) - suc i = omega arith in
    from_at (not (on x) ∷ s) sig i d l ∙ ap (λ (k : ℕ). not (on (get_or (x ∷ sig) k 0))) z)
    (eq-or-lt_of_le (le_of_suc-le-suc h))

-- variable i is the complement of the signal of pair 21 - i
pub setting_at_lem : (sig : List ℕ) (i : ℕ) (d : Bool) → length sig ≡ 22 → i < 22 → get_or (setting_of sig) i d ≡ not (on (get_or sig (21 - i) 0))
unfolding setting_of
setting_at_lem sig i d z h =
    let e : length sig - suc i ≡ 21 - i = omega arith in
    from_at [] sig i d (omega arith) ∙ ap (λ (k : ℕ). not (on (get_or sig k 0))) e

pub setting_size : (sig : List ℕ) → length sig ≡ 22 → length (setting_of sig) ≡ 22
unfolding setting_of
setting_size sig z = let e = setting_length [] sig in omega arith

-- ---- a row as a list of pairs

and_assoc : (a b c : Bool) → ((a && b) && c) ≡ (a && (b && c))
and_assoc true b c = refl
and_assoc false b c = refl

and_one : (a : Bool) → (true && a) ≡ (a && true)
and_one true = refl
and_one false = refl

all_front : (f : ℕ → Bool) (n : ℕ) → all_below f (suc n) ≡ (f 0 && all_below (λ i. f (suc i)) n)
unfolding all_below
all_front f zero = and_one (f 0)
all_front f (suc n) = ap (λ (b : Bool). b && f (suc n)) (all_front f n) ∙ and_assoc (f 0) (all_below (λ i. f (suc i)) n) (f (suc n))

-- each pair asks the signal that stands with it
unfoldable pub list_true : List ℕ → List ℕ → Bool
list_true [] sig = true
list_true (a ∷ []) sig = true
list_true (a ∷ b ∷ fs) [] = true
list_true (a ∷ b ∷ fs) (x ∷ sig) = pair_true a b x && list_true fs sig

list_row : (sig fs : List ℕ) → length fs ≡ length sig * 2 → all_below (λ p. pair_true (get_or fs (p * 2) 0) (get_or fs (p * 2 + 1) 0) (get_or sig p 0)) (length sig) ≡ list_true fs sig
unfolding list_true all_below
list_row [] [] e = refl
list_row [] (a ∷ []) e = absurd (omega arith)
list_row [] (a ∷ b ∷ fs) e = absurd (omega arith)
list_row (x ∷ sig) [] e = absurd (omega arith)
list_row (x ∷ sig) (a ∷ []) e = absurd (omega arith)
list_row (x ∷ sig) (a ∷ b ∷ fs) e =
    all_front (λ p. pair_true (get_or (a ∷ b ∷ fs) (p * 2) 0) (get_or (a ∷ b ∷ fs) (p * 2 + 1) 0) (get_or (x ∷ sig) p 0)) (length sig)
    ∙ ap (λ (r : Bool). pair_true a b x && r)
    (all_same (λ p. pair_true (get_or (a ∷ b ∷ fs) (suc p * 2) 0) (get_or (a ∷ b ∷ fs) (suc p * 2 + 1) 0) (get_or sig p 0)) (λ p. pair_true (get_or fs (p * 2) 0) (get_or fs (p * 2 + 1) 0) (get_or sig p 0)) (length sig) further
    ∙ list_row sig fs (omega arith))
  where
    further : (p : ℕ) → p < length sig
        → pair_true (get_or (a ∷ b ∷ fs) (suc p * 2) 0) (get_or (a ∷ b ∷ fs) (suc p * 2 + 1) 0) (get_or sig p 0) ≡ pair_true (get_or fs (p * 2) 0) (get_or fs (p * 2 + 1) 0) (get_or sig p 0)
    further p l =
        let u : suc p * 2 ≡ suc (suc (p * 2)) = omega arith in
        let v : suc p * 2 + 1 ≡ suc (suc (p * 2 + 1)) = omega arith in
        ap₂ (λ (i j : ℕ). pair_true (get_or (a ∷ b ∷ fs) i 0) (get_or (a ∷ b ∷ fs) j 0) (get_or sig p 0)) u v

-- the row of a list of 44 fuses, pair by pair
pub row_list : (fs sig : List ℕ) → length sig ≡ 22 → length fs ≡ 44 → true_row (λ c. get_or fs c 0) sig ≡ list_true fs sig
unfolding true_row
row_list fs sig h l = ap (all_below (λ p. pair_true (get_or fs (p * 2) 0) (get_or fs (p * 2 + 1) 0) (get_or sig p 0))) (sym h) ∙ list_row sig fs (omega arith)

-- ---- the row of a product

-- the signals of a setting, before those that stand already; a signal is 0 or 1
signals_of : List ℕ → List Bool → List ℕ
signals_of vs [] = vs
signals_of vs (b ∷ s) = signals_of (bit (not b) ∷ vs) s

norm : List ℕ → List ℕ
norm [] = []
norm (x ∷ sig) = bit (not (not (on x))) ∷ norm sig

on_norm : (x : ℕ) → on (bit (not (not (on x)))) ≡ on x
on_norm x = go (on x)
  where
    go : (b : Bool) → on (bit (not (not b))) ≡ b
    go true = refl
    go false = refl

norm_true : (fs sig : List ℕ) → list_true fs (norm sig) ≡ list_true fs sig
unfolding list_true norm
norm_true [] sig = refl
norm_true (a ∷ []) sig = refl
norm_true (a ∷ b ∷ fs) [] = refl
norm_true (a ∷ b ∷ fs) (x ∷ sig) = λ i. ((not (joins a) || on_norm x i) && (not (joins b) || not (on_norm x i))) && norm_true fs sig i

back : (vs sig : List ℕ) (s : List Bool) → signals_of vs (setting_from s sig) ≡ signals_of (norm sig ++ vs) s
unfolding signals_of norm setting_from
back vs [] s = refl
back vs (x ∷ sig) s = back vs sig (not (on x) ∷ s)

signals_back : (sig : List ℕ) → signals_of [] (setting_of sig) ≡ norm sig
unfolding signals_of setting_of
signals_back sig = back [] sig [] ∙ append-nil (norm sig)

-- every picked variable has the value wanted: a has the bits picked, b the bits plain
unfoldable pub agrees : ℕ → ℕ → List Bool → Bool
agrees a b [] = true
agrees a b (v ∷ s) = (not (on (a % 2)) || not (xor v (on (b % 2)))) && agrees (a / 2) (b / 2) s

pair_agrees : (p q v : Bool) → pair_true (plain_fuse p q) (inverse_fuse p q) (bit (not v)) ≡ (not p || not (xor v q))
pair_agrees true true true = refl
pair_agrees true true false = refl
pair_agrees true false true = refl
pair_agrees true false false = refl
pair_agrees false true true = refl
pair_agrees false true false = refl
pair_agrees false false true = refl
pair_agrees false false false = refl

swap : (c p r : Bool) → (c && (p && r)) ≡ ((p && c) && r)
swap true true r = refl
swap true false r = refl
swap false true r = refl
swap false false r = refl

first : (fs vs : List ℕ) (p q v : Bool) → list_true (plain_fuse p q ∷ inverse_fuse p q ∷ fs) (bit (not v) ∷ vs) ≡ ((not p || not (xor v q)) && list_true fs vs)
unfolding list_true
first fs vs p q v = ap (λ (b : Bool). b && list_true fs vs) (pair_agrees p q v)

pairs_true : (s : List Bool) (a b : ℕ) (fs vs : List ℕ) → list_true (pairs_from (length s) a b fs) (signals_of vs s) ≡ (agrees a b s && list_true fs vs)
unfolding pairs_from agrees signals_of
pairs_true [] a b fs vs = refl
pairs_true (v ∷ s) a b fs vs =
    pairs_true s (a / 2) (b / 2) (plain_fuse (on (a % 2)) (on (b % 2)) ∷ inverse_fuse (on (a % 2)) (on (b % 2)) ∷ fs) (bit (not v) ∷ vs)
    ∙ ap (λ (x : Bool). agrees (a / 2) (b / 2) s && x) (first fs vs (on (a % 2)) (on (b % 2)) v)
    ∙ swap (agrees (a / 2) (b / 2) s) (not (on (a % 2)) || not (xor v (on (b % 2)))) (list_true fs vs)

pub pairs_length : (k a b : ℕ) (fs : List ℕ) → length (pairs_from k a b fs) ≡ k * 2 + length fs
unfolding pairs_from
pairs_length zero a b fs = omega arith
pairs_length (suc k) a b fs =
    let e = pairs_length k (a / 2) (b / 2) (plain_fuse (on (a % 2)) (on (b % 2)) ∷ inverse_fuse (on (a % 2)) (on (b % 2)) ∷ fs) in
    omega arith

pub product_length : (m : ℕ) → length (product_row m) ≡ 44
unfolding product_row
product_length m = let e = pairs_length 22 (m % 4294967296) (m / 4294967296) [] in omega arith

product_setting : (m : ℕ) (s : List Bool) → length s ≡ 22 → list_true (product_row m) (signals_of [] s) ≡ agrees (m % 4294967296) (m / 4294967296) s
unfolding product_row list_true
product_setting m s h =
    ap (λ (k : ℕ). list_true (pairs_from k (m % 4294967296) (m / 4294967296) []) (signals_of [] s)) (sym h)
    ∙ pairs_true s (m % 4294967296) (m / 4294967296) [] []
    ∙ and_true (agrees (m % 4294967296) (m / 4294967296) s)

-- a product's row is true where the setting of the signals has every picked variable at the value wanted
pub product_true : (m : ℕ) (sig : List ℕ) → length sig ≡ 22 → true_row (λ c. get_or (product_row m) c 0) sig ≡ agrees (m % 4294967296) (m / 4294967296) (setting_of sig)
product_true m sig h =
    row_list (product_row m) sig h (product_length m)
    ∙ sym (norm_true (product_row m) sig)
    ∙ ap (list_true (product_row m)) (sym (signals_back sig))
    ∙ product_setting m (setting_of sig) (setting_size sig h)

-- ---- the row of a cell's feedback

-- a row that asks one pair only
all_one : (g : ℕ → Bool) (n q : ℕ) → q < n → ((p : ℕ) → p < n → (p ≡ q → ⊥) → g p ≡ true) → all_below g n ≡ g q
unfolding all_below
all_one g zero q h e = absurd (omega arith)
all_one g (suc n) q h e =
    ⊎_elim
    (λ (z : q ≡ n). ap (λ (x : Bool). x && g n) (all_true g n (λ p l. e p (omega arith) (λ y. omega arith))) ∙ ap g (sym z))
    (λ (l : q < n). ap₂ (λ (x y : Bool). x && y) (all_one g n q l (λ p k. e p (omega arith))) (e n (omega arith) (λ y. omega arith)) ∙ and_true (g q))
    (eq-or-lt_of_le (le_of_suc-le-suc h))

one_pair : (a b : Bool) → ((not (joins (bit (not a))) || b) && (not (joins (bit a)) || not b)) ≡ not (xor a b)
one_pair true true = refl
one_pair true false = refl
one_pair false true = refl
one_pair false false = refl

other : (k : ℕ) (x : Bool) (c : ℕ) → (c ≡ 4 * k + 2 → ⊥) → (c ≡ 4 * k + 3 → ⊥) → feedback_fuse k x c ≡ 1
unfolding feedback_fuse
other k x c h l = simp (ne_eqb _ _ h, ne_eqb _ _ l)

own_plain : (k : ℕ) (x : Bool) (c : ℕ) → c ≡ 4 * k + 2 → feedback_fuse k x c ≡ bit (not x)
unfolding feedback_fuse
own_plain k x c h = simp (eq-eqb _ _ h)

own_inverse : (k : ℕ) (x : Bool) (c : ℕ) → c ≡ 4 * k + 3 → feedback_fuse k x c ≡ bit x
unfolding feedback_fuse
own_inverse k x c h = let n : c ≡ 4 * k + 2 → ⊥ = λ e. omega arith in simp (ne_eqb _ _ n, eq-eqb _ _ h)

signal_asked : (k : ℕ) (x : Bool) (sig : List ℕ) → k < 10 → true_row (λ c. get_or (listed (feedback_fuse k x) 44) c 0) sig ≡ not (xor x (on (get_or sig (2 * k + 1) 0)))
unfolding true_row
signal_asked k x sig h =
    all_one (λ p. pair_true (get_or (listed (feedback_fuse k x) 44) (p * 2) 0) (get_or (listed (feedback_fuse k x) 44) (p * 2 + 1) 0) (get_or sig p 0)) 22 (2 * k + 1) (omega arith)
    (λ p l n.
    let a = listed_at (feedback_fuse k x) 44 (p * 2) (omega arith) ∙ other k x (p * 2) (λ e. n (omega arith)) (λ e. omega arith) in
    let b = listed_at (feedback_fuse k x) 44 (p * 2 + 1) (omega arith) ∙ other k x (p * 2 + 1) (λ e. omega arith) (λ e. n (omega arith)) in
    λ i. pair_true (a i) (b i) (get_or sig p 0))
    ∙ (let a = listed_at (feedback_fuse k x) 44 ((2 * k + 1) * 2) (omega arith) ∙ own_plain k x ((2 * k + 1) * 2) (omega arith) in
    let b = listed_at (feedback_fuse k x) 44 ((2 * k + 1) * 2 + 1) (omega arith) ∙ own_inverse k x ((2 * k + 1) * 2 + 1) (omega arith) in
    λ i. pair_true (a i) (b i) (get_or sig (2 * k + 1) 0))
    ∙ one_pair x (on (get_or sig (2 * k + 1) 0))

-- the feedback row of a combinational cell is true where the pin, which is the signal, has the value v
pub feedback_pin : (k : ℕ) (s0 v : Bool) (sig : List ℕ) → k < 10 → true_row (λ c. get_or (feedback_row k false s0 v) c 0) sig ≡ not (xor v (on (get_or sig (2 * k + 1) 0)))
unfolding feedback_row
feedback_pin k s0 v sig h = signal_asked k v sig h

-- that of a registered cell, whose signal is the inverse of Q, is true where the pin shows v: Q where S0 is 1, else its inverse
pub feedback_register : (k : ℕ) (s0 v q : Bool) (sig : List ℕ) → k < 10 → on (get_or sig (2 * k + 1) 0) ≡ not q
    → true_row (λ c. get_or (feedback_row k true s0 v) c 0) sig ≡ not (xor v (xor (not s0) q))
unfolding feedback_row
feedback_register k s0 v q sig h e = signal_asked k (not (xor (not s0) v)) sig h ∙ ap (λ (b : Bool). not (xor (not (xor (not s0) v)) b)) e ∙ go s0 v q
  where
    go : (s w r : Bool) → not (xor (not (xor (not s) w)) (not r)) ≡ not (xor w (xor (not s) r))
    go true true true = refl
    go true true false = refl
    go true false true = refl
    go true false false = refl
    go false true true = refl
    go false true false = refl
    go false false true = refl
    go false false false = refl
