-- The laws of a field's judgement: a list by its first element, and a first fuse above 10,000. Assumes nothing.
use mathlib.Core.Path.{◌≡◌, refl, sym, ap, ap₂, ◌∙◌}
use mathlib.Core.List.{List, [], ◌∷◌}
use mathlib.Core.Bool.{Bool, true}
use Prim.Native.Nat.{ℕ, suc, ◌+◌, ◌-◌, ◌≤◌, ◌<◌, min}
use native.Mathlib.Omega.{arith}
use native.Mathlib.Decide.{dec_le}
use lib.ListN.{length, take, drop, get_or}
use lib.Seq.{take_all}
use lib.Dec.{eqb}
use borrow.Author.Tests.{le-leb, lt-leb, eq-eqb, eqb-true}
use Rattle.basics.specs.Choice.{pick}
use Rattle.fusetext.proofs.Files.{pick_both}
use Rattle.fusefields.specs.Bytes.{blank, digit, fuse, fuse_or_blank, front, past, value, fuses}
use Rattle.fusefields.specs.Fields.{good, need, some, listed_fuses, listed_rest, listed, fault_of, kept, one, judge_qf, judge_qp, judge_q, judge_plain, stop, go, step_of, saw_l, judge_l, judge}
use Rattle.fusefields.specs.declared.Seen.{Seen}
use Rattle.std.specs.Prelude.{Ok}
use Rattle.fusefields.proofs.Fronts.{fuse_code}

-- ---- what stands behind an L, a part at a time

pub fuses_good : (n : ℕ) (xs : List ℕ) → 1 ≤ length xs → length xs ≤ length (front fuse_or_blank xs) → n + length (fuses xs) ≤ 5892 → good n (fuses xs) ≡ listed_fuses n xs
unfolding listed_fuses
fuses_good n xs h k o = rw (le-leb _ _ h, le-leb _ _ k, le-leb _ _ o)

pub rest_some : (n : ℕ) (xs : List ℕ) → 1 ≤ length (front blank xs) → listed_fuses n (past blank xs) ≡ listed_rest n xs
unfolding listed_rest
rest_some n xs h = rw (le-leb _ _ h)

pub listed_some : (xs : List ℕ) → 1 ≤ length (front digit xs) → listed_rest (value 0 (front digit xs)) (past digit xs) ≡ listed xs
unfolding listed
listed_some xs h = rw (le-leb _ _ h)

-- ---- a list by its first element, as the code takes it apart

-- `&xs[1..]`
abbrev pub tail : List ℕ → List ℕ
tail xs = take (length xs - 1) (drop 1 xs)

tail_cons : (x : ℕ) (xs : List ℕ) → xs ≡ tail (x ∷ xs)
tail_cons x xs = sym (take_all (suc (length xs) - 1) xs (omega arith))

pub judge_empty : (s : Seen) (xs cells : List ℕ) → length xs < 1 → stop 20 ≡ judge s xs cells
unfolding judge
judge_empty s [] cells h = refl
judge_empty s (x ∷ xs) cells h = absurd (omega arith)

pub judge_cons : (s : Seen) (xs cells : List ℕ) → 1 ≤ length xs
    → judge s xs cells ≡ pick (eqb (get_or xs 0 0) 76) (judge_l s (tail xs) cells) (step_of (judge_plain s (get_or xs 0 0) (tail xs)) cells)
unfolding judge
judge_cons s [] cells h = absurd (omega arith)
judge_cons s (x ∷ xs) cells h = ap (λ (l : List ℕ). pick (eqb x 76) (judge_l s l cells) (step_of (judge_plain s x l) cells)) (tail_cons x xs)

pub judge_q_empty : (s : Seen) (xs : List ℕ) → length xs < 1 → Ok s ≡ judge_q s xs
unfolding judge_q
judge_q_empty s [] h = refl
judge_q_empty s (x ∷ xs) h = absurd (omega arith)

pub judge_q_cons : (s : Seen) (xs : List ℕ) → 1 ≤ length xs
    → judge_q s xs ≡ pick (eqb (get_or xs 0 0) 70) (judge_qf s (tail xs)) (pick (eqb (get_or xs 0 0) 80) (judge_qp s (tail xs)) (Ok s))
unfolding judge_q
judge_q_cons s [] h = absurd (omega arith)
judge_q_cons s (x ∷ xs) h = ap (λ (l : List ℕ). pick (eqb x 70) (judge_qf s l) (pick (eqb x 80) (judge_qp s l) (Ok s))) (tail_cons x xs)

pub one_length : (xs : List ℕ) → one xs ≡ true → length xs ≡ 1
unfolding one
one_length xs e = eqb-true _ _ (pick_both (eqb (length xs) 1) (fuse (get_or xs 0 0)) e).0

pub judge_l_good : (s : Seen) (xs cells after : List ℕ) → s.qf ≡ true → fault_of (listed xs) ≡ 0 → after ≡ kept (listed xs) cells → go (saw_l s) after ≡ judge_l s xs cells
unfolding judge_l
judge_l_good s xs cells after q f k =
    ap (go (saw_l s)) k
    ∙ sym (ap₂ (λ (a b : Bool). pick a (pick b (go (saw_l s) (kept (listed xs) cells)) (stop (fault_of (listed xs)))) (stop 20)) q (eq-eqb _ _ f))

-- ---- a first fuse above 10,000 is told as well by 10,000

listed_fuses_capped : (n : ℕ) (xs : List ℕ) → listed_fuses (min 10000 n) xs ≡ listed_fuses n xs
unfolding listed_fuses
listed_fuses_capped n xs = elim (dec_le n 10000) [ yes h ↦ under h | no h ↦ over (omega arith) ]
  where
    under : n ≤ 10000 → listed_fuses (min 10000 n) xs ≡ listed_fuses n xs
    under h = let e : min 10000 n ≡ n = omega arith in ap (λ (k : ℕ). listed_fuses k xs) e

    over : 10000 < n → listed_fuses (min 10000 n) xs ≡ listed_fuses n xs
    over h =
        let a : 5892 < min 10000 n + length (fuses xs) = omega arith in
        let b : 5892 < n + length (fuses xs) = omega arith in
        rw (lt-leb _ _ a, lt-leb _ _ b)

pub listed_capped : (n : ℕ) (xs : List ℕ) → listed_rest (min 10000 n) xs ≡ listed_rest n xs
unfolding listed_rest
listed_capped n xs = ap (need (some (front blank xs))) (listed_fuses_capped n (past blank xs))

-- ---- one 0 or 1

pub one_code : (xs : List ℕ) → one xs ≡ true → 48 ≤ get_or xs 0 0
unfolding one
one_code xs e = fuse_code _ (pick_both (eqb (length xs) 1) (fuse (get_or xs 0 0)) e).1
