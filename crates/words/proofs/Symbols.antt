-- Symbols by one byte and by two: what was found says which form the word has. Assumes nothing.
use Rattle.std.proofs.Common.{◌≡◌, ℕ, ◌+◌, ◌≤◌, refl, Bool, true, false, ◌||◌, List, get_or, eqb}
use Rattle.std.specs.Prelude.{Some, None}
use borrow.Author.Tests.{eqb-true, le-leb}
use Rattle.basics.specs.Choice.{pick}
use Rattle.words.specs.Bytes.{is_single, is_pair}
use Rattle.words.specs.Taken.{Refused}
use Rattle.words.specs.Words.{word, pair_kind, pair_at, logic_at}
use Rattle.words.specs.Kinds.{kinded, single_of, symbol_at}

pub kinded_some : (k m : ℕ) → Some k ≡ kinded m → (k ≡ m) × (eqb m 0 ≡ false)
kinded_some k m e = go (eqb m 0) refl e
  where
    go : (b : Bool) → eqb m 0 ≡ b → Some k ≡ pick b None (Some m) → (k ≡ m) × (eqb m 0 ≡ false)
    go true q e = absurd (cc)
    go false q e = (cc, q)

pub kinded_none : (m : ℕ) → None ≡ kinded m → eqb m 0 ≡ true
kinded_none m e = go (eqb m 0) refl e
  where
    go : (b : Bool) → eqb m 0 ≡ b → None ≡ pick b None (Some m) → eqb m 0 ≡ true
    go true q e = q
    go false q e = absurd (cc)

row_single : (b : ℕ) → 40 ≤ b → b ≤ 45 → is_single b ≡ true
unfolding is_single
row_single b h k = simp (le-leb 40 b h, le-leb b 45 k)

-- two bytes that make a symbol
pair_starts : (b a : ℕ) → eqb (pair_kind b a) 0 ≡ false → (is_single b ≡ false) × (is_pair b ≡ true)
unfolding pair_kind is_single is_pair
pair_starts b a h = go (eqb b 46) (eqb b 58) refl refl h
  where
    go : (x y : Bool) → eqb b 46 ≡ x → eqb b 58 ≡ y → eqb (pick x (pick (eqb a 46) 174 0) (pick y (pick (eqb a 58) 186 (pick (eqb a 61) 189 0)) 0)) 0 ≡ false
        → (is_single b ≡ false) × (is_pair b ≡ true)
    go true y p q h = let e : b ≡ 46 = eqb-true _ _ p in rw e (refl, refl)
    go false true p q h = let e : b ≡ 58 = eqb-true _ _ q in rw e (refl, refl)
    go false false p q h = absurd (cc)

-- a byte that makes none
single_none : (b : ℕ) → eqb (single_of b) 0 ≡ true → (is_single b ≡ false) × (is_pair b ≡ false)
unfolding single_of is_single is_pair
single_none b h = go (is_single b) (is_pair b) refl refl h
  where
    go : (x y : Bool) → is_single b ≡ x → is_pair b ≡ y → eqb (pick (x || y) b 0) 0 ≡ true → (is_single b ≡ false) × (is_pair b ≡ false)
    go true y p q h = let e : b ≡ 0 = eqb-true _ _ h in absurd (let z : false ≡ true = rw e at p in cc)
    go false true p q h = let e : b ≡ 0 = eqb-true _ _ h in absurd (let z : false ≡ true = rw e at q in cc)
    go false false p q h = (p, q)

module _ (s : List ℕ) (p : ℕ) where
  pub symbol_two : eqb (pair_kind (get_or s p 0) (get_or s (p + 1) 0)) 0 ≡ false → word (pair_kind (get_or s p 0) (get_or s (p + 1) 0)) p 0 (p + 2) ≡ symbol_at s p
  unfolding symbol_at pair_at
  symbol_two h = let e = pair_starts _ _ h in simp (e.0, e.1, h)

  pub symbol_one : eqb (pair_kind (get_or s p 0) (get_or s (p + 1) 0)) 0 ≡ true → eqb (single_of (get_or s p 0)) 0 ≡ false
      → word (single_of (get_or s p 0)) p 0 (p + 1) ≡ symbol_at s p
  unfolding symbol_at pair_at single_of
  symbol_one h k = go (is_single (get_or s p 0)) (is_pair (get_or s p 0)) refl refl
    where
      go : (x y : Bool) → is_single (get_or s p 0) ≡ x → is_pair (get_or s p 0) ≡ y → word (single_of (get_or s p 0)) p 0 (p + 1) ≡ symbol_at s p
      go true y e f = simp e
      go false true e f = simp (e, f, h)
      go false false e f = absurd (let z : true ≡ false = rw (e, f) at k in cc)

  -- one of the six bytes that stand in a row
  pub symbol_row : 40 ≤ get_or s p 0 → get_or s p 0 ≤ 45 → word (get_or s p 0) p 0 (p + 1) ≡ symbol_at s p
  unfolding symbol_at
  symbol_row h k = simp (row_single _ h k)

  pub symbol_other : eqb (single_of (get_or s p 0)) 0 ≡ true → pick (eqb (get_or s p 0) 39) (logic_at s p) (Refused 2 p) ≡ symbol_at s p
  unfolding symbol_at
  symbol_other h = let e = single_none _ h in simp (e.0, e.1)
