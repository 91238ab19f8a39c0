-- The L fields of a written file, walked one after the other. Assumes nothing.
use mathlib.Core.Path.{◌≡◌, refl, ap, subst, ◌∙◌}
use mathlib.Core.List.{List, [], ◌∷◌, ◌++◌, append_assoc}
use mathlib.Core.Bool.{Bool, true, false}
use Prim.Native.Nat.{ℕ, zero, suc, ◌+◌, ◌-◌, ◌*◌, ◌≤◌}
use native.Mathlib.Omega.{arith}
use lib.ListN.{length}
use Rattle.basics.specs.Choice.{pick}
use Rattle.fusefields.specs.Fields.{saw_l}
use Rattle.fuseread.specs.Reading.{unlisted}
use Rattle.fuseread.specs.Walk.{walk, pieces}
use Rattle.fusetext.proofs.Files.{length_part, bits_part}
use Rattle.fusetext.specs.File.{Bits, zeros, part, listing, listing_if, rows}
use Rattle.fusetext.specs.Put.{put}
use Rattle.fusetrip.proofs.Back.{lfield, lpiece}
use Rattle.fusetrip.proofs.Defaults.{Holds, holds_start, holds_put, holds_if}
use Rattle.fusefields.specs.declared.Seen.{Seen}

-- A walk over the L fields of a map's first a fuses, whatever follows: it goes on from some state in which QF, F and C are as they were,
-- and in which the cells hold those fuses.
pub record Walks (s : Seen) (at : ℕ) (m : List ℕ) (a j : ℕ) (written : List ℕ) : Type 0 where
  pub seen : Seen
  pub cells : List ℕ
  pub next : ℕ
  pub qf : seen.qf ≡ s.qf
  pub f : seen.f ≡ s.f
  pub c : seen.c ≡ s.c
  pub holds : Holds m a j cells
  pub goes : (rest : List ℕ) → walk s unlisted at (pieces (13 ∷ 10 ∷ written ++ rest)) ≡ walk seen cells next (pieces (13 ∷ 10 ∷ rest))

pub walks_start : (s : Seen) (at : ℕ) (m : List ℕ) → Walks s at m 0 5892 []
walks_start s at m = record { seen = s; cells = unlisted; next = at; qf = refl; f = refl; c = refl; holds = holds_start m; goes = λ rest. refl }

module _ (s : Seen) (sized : s.qf ≡ true) (at : ℕ) (m : List ℕ) (bits : Bits m) (all : length m ≡ 5892) (a n j : ℕ) (some : 1 ≤ n) (sum : a + n + j ≡ 5892) (written : List ℕ) (w : Walks s at m a (n + j) written) where
  len : length (part a n m) ≡ n
  len = length_part a n m (omega arith)

  step : (rest : List ℕ) → walk w.seen w.cells w.next (pieces (13 ∷ 10 ∷ listing a (part a n m) ++ rest))
      ≡ walk (saw_l w.seen) (put w.cells a (part a n m)) (w.next + length (lpiece a (part a n m)) + 1) (pieces (13 ∷ 10 ∷ rest))
  step rest = lfield w.seen w.cells w.next a (part a n m) rest (w.qf ∙ sized) (bits_part a n m bits) (omega (arith, len)) (omega (arith, len))

  -- a field more
  pub walks_put : Walks s at m (a + n) j (written ++ listing a (part a n m))
  walks_put = record {
    seen = saw_l w.seen;
    cells = put w.cells a (part a n m);
    next = w.next + length (lpiece a (part a n m)) + 1;
    qf = w.qf;
    f = w.f;
    c = w.c;
    holds = holds_put m bits a n j (omega arith) w.cells w.holds;
    goes = λ rest. ap (λ (l : List ℕ). walk s unlisted at (pieces (13 ∷ 10 ∷ l))) (append_assoc written (listing a (part a n m)) rest) ∙ w.goes (listing a (part a n m) ++ rest) ∙ step rest;
  }

  -- a field more, unless its fuses are all 0
  pub walks_if : Walks s at m (a + n) j (written ++ listing_if a (part a n m))
  walks_if = record {
    seen = pick (zeros (part a n m)) w.seen (saw_l w.seen);
    cells = pick (zeros (part a n m)) w.cells (put w.cells a (part a n m));
    next = pick (zeros (part a n m)) w.next (w.next + length (lpiece a (part a n m)) + 1);
    qf = one (zeros (part a n m));
    f = two (zeros (part a n m));
    c = three (zeros (part a n m));
    holds = holds_if m bits a n j (omega arith) w.cells w.holds;
    goes = λ rest. ap (λ (l : List ℕ). walk s unlisted at (pieces (13 ∷ 10 ∷ l))) (append_assoc written (listing_if a (part a n m)) rest) ∙ w.goes (listing_if a (part a n m) ++ rest) ∙ go rest;
  }
    where
      one : (b : Bool) → (pick b w.seen (saw_l w.seen)).qf ≡ s.qf
      one true = w.qf
      one false = w.qf

      two : (b : Bool) → (pick b w.seen (saw_l w.seen)).f ≡ s.f
      two true = w.f
      two false = w.f

      three : (b : Bool) → (pick b w.seen (saw_l w.seen)).c ≡ s.c
      three true = w.c
      three false = w.c

      cases : (b : Bool) (rest : List ℕ) → walk w.seen w.cells w.next (pieces (13 ∷ 10 ∷ pick b [] (listing a (part a n m)) ++ rest))
          ≡ walk (pick b w.seen (saw_l w.seen)) (pick b w.cells (put w.cells a (part a n m))) (pick b w.next (w.next + length (lpiece a (part a n m)) + 1)) (pieces (13 ∷ 10 ∷ rest))
      cases true rest = refl
      cases false rest = step rest

      go : (rest : List ℕ) → walk w.seen w.cells w.next (pieces (13 ∷ 10 ∷ listing_if a (part a n m) ++ rest))
          ≡ walk (pick (zeros (part a n m)) w.seen (saw_l w.seen)) (pick (zeros (part a n m)) w.cells (put w.cells a (part a n m))) (pick (zeros (part a n m)) w.next (w.next + length (lpiece a (part a n m)) + 1)) (pieces (13 ∷ 10 ∷ rest))
      go rest = unfold listing_if in cases (zeros (part a n m)) rest

module _ (s : Seen) (sized : s.qf ≡ true) (at : ℕ) (m : List ℕ) (bits : Bits m) (all : length m ≡ 5892) where
  -- the rows
  pub walks_rows : (r : ℕ) → r ≤ 132 → Walks s at m (44 * r) (5892 - 44 * r) (rows r m)
  unfolding rows
  walks_rows zero h = walks_start s at m
  walks_rows (suc r) h =
      let w = walks_rows r (omega arith) in
      let e : 5892 - 44 * r ≡ 44 + (5892 - 44 * suc r) = omega arith in
      let d : 44 * r + 44 ≡ 44 * suc r = omega arith in
      subst (λ (k : ℕ). Walks s at m k (5892 - 44 * suc r) (rows r m ++ listing_if (44 * r) (part (44 * r) 44 m))) d
      (walks_if s sized at m bits all (44 * r) 44 (5892 - 44 * suc r) (omega arith) (omega arith) (rows r m)
      (subst (λ (k : ℕ). Walks s at m (44 * r) k (rows r m)) e w))

  -- all L fields
  pub walks_all : Walks s at m 5892 0 (rows 132 m ++ listing 5808 (part 5808 20 m) ++ listing_if 5828 (part 5828 64 m))
  walks_all =
      walks_if s sized at m bits all 5828 64 0 (omega arith) refl _
      (walks_put s sized at m bits all 5808 20 64 (omega arith) refl _ (walks_rows 132 (omega arith)))
