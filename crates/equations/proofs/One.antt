-- No second answer fits a reader's promise: what is seen of an answer says the answer, and what the lent room holds.
-- Assumes nothing.
use mathlib.Core.Path.{◌≡◌, sym, ap, ap₂}
use Prim.Native.Nat.{ℕ}
use native.Mathlib.Omega.{arith}
use lib.IntN.{ℤ, pos, negsuc}
use Rattle.words.specs.declared.Cursor.{Cursor}
use Rattle.integers.specs.Integers.{num}
use Rattle.integers.specs.declared.Num.{Num}
use Rattle.integers.specs.declared.Num.TheVariants.{Up, Down}
use Rattle.grammar.specs.Outcome.{ok, no}
use Rattle.judging.specs.Reading.{State, seen}
use Rattle.judging.specs.declared.Read.{Read}
use Rattle.std.specs.Prelude.{Result, Ok, Err}
use Rattle.basics.specs.Refusal.{number_of}
use Rattle.basics.specs.declared.refusal.Reason.{Reason}
use Rattle.basics.specs.declared.refusal.Refusal.{Refusal}
use Rattle.basics.proofs.Refusals.{number_of_once}

same_cursor : (c d : Cursor) → c.at ≡ d.at → c ≡ d
same_cursor c d p = λ i. record { at = p i }

signs_apart : (m n : ℕ) → pos m ≡ negsuc n → ⊥
signs_apart m n q = let z : ◌≡◌ {A = ℕ} 0 1 = cc in omega arith

num_one : (a b : Num) → num a ≡ num b → a ≡ b
num_one (Up m) (Up n) q = let e : m ≡ n = cc in ap Up e
num_one (Up m) (Down n) q = absurd (signs_apart m n q)
num_one (Down m) (Up n) q = absurd (signs_apart n m (sym q))
num_one (Down m) (Down n) q = let e : m ≡ n = cc in ap Down e

apart : (v : ℤ) (a n p : ℕ) (x y : State) → ok v a x ≡ no n p y → ⊥
apart v a n p x y q = let z : ◌≡◌ {A = ℕ} 0 1 = cc in omega arith

pub seen_one : (a b : Result Read Refusal) (x y : State) → seen a x ≡ seen b y → (a ≡ b) × (x ≡ y)
seen_one (Ok a) (Ok b) x y q =
    let p : num a.value ≡ num b.value = cc in
    let r : a.next.at ≡ b.next.at = cc in
    let e : x ≡ y = cc in
    (ap₂ (λ (u : Num) (o : Cursor). Ok (record { value = u; next = o })) (num_one a.value b.value p) (same_cursor a.next b.next r), e)
seen_one (Ok a) (Err r) x y q = absurd (apart (num a.value) a.next.at (number_of r.reason) r.place x y q)
seen_one (Err r) (Ok a) x y q = absurd (apart (num a.value) a.next.at (number_of r.reason) r.place y x (sym q))
seen_one (Err r) (Err t) x y q =
    let e : number_of r.reason ≡ number_of t.reason = cc in
    let p : r.place ≡ t.place = cc in
    let f : x ≡ y = cc in
    (ap₂ (λ (m : Reason) (n : ℕ). Err (record { reason = m; place = n })) (number_of_once r.reason t.reason e) p, f)
