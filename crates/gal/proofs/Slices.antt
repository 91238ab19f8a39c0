-- Tests over a slice as tests over the numbers below its length.
-- Assumes nothing.
use mathlib.Core.Path.{◌≡◌, refl, sym, ap, ap₂, ◌∙◌}
use mathlib.Core.Bool.{Bool, true, false, ◌&&◌, ◌||◌}
use mathlib.Core.List.{List, [], ◌∷◌}
use Prim.Native.Nat.{ℕ, zero, suc, ◌+◌, ◌*◌, ◌<◌}
use native.Mathlib.Omega.{arith}
use lib.Dec.{eqb}
use lib.ListN.{length, get_or, take, drop, length-drop}
use denote.Param.Members.{Mut}
use Rattle.std.specs.Fn.{Called}
use Rattle.std.specs.Iterator.{YieldsThen}
use Rattle.std.specs.Option.{MatchOption}
use Rattle.std.specs.declared.ops.Range.{Range}
use Rattle.std.specs.Prelude.{Option}
use Rattle.std.proofs.iter.Yields.{nat_range_steps}
use Rattle.std.proofs.lemmas.Iterator.{YieldsList-from_range}
use Rattle.std.proofs.lemmas.Iterator.Search.{any_from_yields_List, all_from_yields_List}
use Rattle.std.specs.List.{FoldsTo, list_all, list_any, range_with_len}
use Rattle.std.proofs.lemmas.List.{length-take-le, get_or-take, get_or-drop}
use Rattle.basics.specs.Below.{any_below, all_below}
use Rattle.basics.proofs.Truth.{and_true}
use Rattle.basics.proofs.Folds.{all_same}
use Rattle.gal.specs.Map.{fuse, row_is}

and_regroup : (a b c : Bool) → ((a && b) && c) ≡ (a && (b && c))
and_regroup true b c = refl
and_regroup false b c = refl

or_regroup : (a b c : Bool) → ((a || b) || c) ≡ (a || (b || c))
or_regroup true b c = refl
or_regroup false b c = refl

or_nothing : (a : Bool) → (a || false) ≡ a
or_nothing true = refl
or_nothing false = refl

all_first : (f : ℕ → Bool) (n : ℕ) → (f 0 && all_below (λ i. f (suc i)) n) ≡ all_below f (suc n)
unfolding all_below
all_first f zero = and_true (f 0)
all_first f (suc n) = sym (and_regroup (f 0) (all_below (λ i. f (suc i)) n) (f (suc n))) ∙ ap (λ (x : Bool). x && f (suc n)) (all_first f n)

any_first : (f : ℕ → Bool) (n : ℕ) → (f 0 || any_below (λ i. f (suc i)) n) ≡ any_below f (suc n)
unfolding any_below
any_first f zero = or_nothing (f 0)
any_first f (suc n) = sym (or_regroup (f 0) (any_below (λ i. f (suc i)) n) (f (suc n))) ∙ ap (λ (x : Bool). x || f (suc n)) (any_first f n)

pub all_by_index : (f : ℕ → Bool) (s : List ℕ) → list_all f s ≡ all_below (λ i. f (get_or s i 0)) (length s)
unfolding all_below
all_by_index f [] = refl
all_by_index f (x ∷ s) = ap (λ (b : Bool). f x && b) (all_by_index f s) ∙ all_first (λ i. f (get_or (x ∷ s) i 0)) (length s)

pub any_by_index : (f : ℕ → Bool) (s : List ℕ) → list_any f s ≡ any_below (λ i. f (get_or s i 0)) (length s)
unfolding any_below
any_by_index f [] = refl
any_by_index f (x ∷ s) = ap (λ (b : Bool). f x || b) (any_by_index f s) ∙ any_first (λ i. f (get_or (x ∷ s) i 0)) (length s)

all_from : (f g : ℕ → Bool) (a n : ℕ) → ((i : ℕ) → i < n → f (a + i) ≡ g i) → list_all f (range_with_len a n) ≡ all_below g n
unfolding all_below
all_from f g a zero e = refl
all_from f g a (suc n) e =
    ap₂ (λ (x y : Bool). x && y) (ap f (omega arith) ∙ e 0 (omega arith)) (all_from f (λ i. g (suc i)) (a + 1) n (λ i h. ap f (omega arith) ∙ e (suc i) (omega arith)))
    ∙ all_first g n

pub all_in_range : (f : ℕ → Bool) (n : ℕ) → list_all f (range_with_len 0 n) ≡ all_below f n
all_in_range f n = all_from f f 0 n (λ i h. ap f (omega arith))

any_from : (f g : ℕ → Bool) (a n : ℕ) → ((i : ℕ) → i < n → f (a + i) ≡ g i) → list_any f (range_with_len a n) ≡ any_below g n
unfolding any_below
any_from f g a zero e = refl
any_from f g a (suc n) e =
    ap₂ (λ (x y : Bool). x || y) (ap f (omega arith) ∙ e 0 (omega arith)) (any_from f (λ i. g (suc i)) (a + 1) n (λ i h. ap f (omega arith) ∙ e (suc i) (omega arith)))
    ∙ any_first g n

pub any_in_range : (f : ℕ → Bool) (n : ℕ) → list_any f (range_with_len 0 n) ≡ any_below f n
any_in_range f n = any_from f f 0 n (λ i h. ap f (omega arith))

-- what `any` and `all` over the numbers below n answer, where the closure computes a test
module _ {F : Type 0} {g : Mut F (ℕ × Unit {0}) Bool} (test : ℕ → Bool) (n : ℕ) (u : Range ℕ) (f : F) (r : Bool) where
  pub any_is : (xs : List ℕ) × (o : Option ℕ) × (j : F) × YieldsThen nat_range_steps (record { start = 0; end = n }) xs o u × FoldsTo (λ p x q. Called g p (x, tt) false q) f xs j
      × MatchOption o (r ≡ false) (λ x. (r ≡ true) × ((h : F) × Called g j (x, tt) true h))
      → ((x : ℕ) (b : Bool) (q : F) → Called g f (x, tt) b q → (q ≡ f) × (b ≡ test x)) → r ≡ any_below test n
  any_is ran says = any_from_yields_List test _ _ _ ran (YieldsList-from_range 0 n n refl (omega arith)) says ∙ any_in_range test n

  pub all_is : (xs : List ℕ) × (o : Option ℕ) × (j : F) × YieldsThen nat_range_steps (record { start = 0; end = n }) xs o u × FoldsTo (λ p x q. Called g p (x, tt) true q) f xs j
      × MatchOption o (r ≡ true) (λ x. (r ≡ false) × ((h : F) × Called g j (x, tt) false h))
      → ((x : ℕ) (b : Bool) (q : F) → Called g f (x, tt) b q → (q ≡ f) × (b ≡ test x)) → r ≡ all_below test n
  all_is ran says = all_from_yields_List test _ _ _ ran (YieldsList-from_range 0 n n refl (omega arith)) says ∙ all_in_range test n

-- the fuses of a row
pub row_all : (m : List ℕ) (r v n : ℕ) → length m ≡ 5892 → r < 132 → n ≡ 44 → list_all (λ x. eqb x v) (take n (drop (r * 44) m)) ≡ row_is m r v
unfolding row_is
row_all m r v n size h e =
    let row = take n (drop (r * 44) m) in
    let d = length-drop (r * 44) m in
    let l : length row ≡ 44 = length-take-le n (drop (r * 44) m) (omega arith) ∙ e in
    all_by_index (λ x. eqb x v) row
    ∙ ap (all_below (λ i. eqb (get_or row i 0) v)) l
    ∙ all_same (λ i. eqb (get_or row i 0) v) (λ c. eqb (fuse m r c) v) 44 (λ i q. ap (λ (x : ℕ). eqb x v) (get_or-take n (drop (r * 44) m) i 0 (omega arith) ∙ get_or-drop (r * 44) m i 0))
