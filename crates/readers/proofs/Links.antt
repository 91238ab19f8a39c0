-- The readers' parts as the cycle uses them: a turn goes on with the chain from the next value; what was read ends nearer to the text's end.
-- Assumes nothing.
use mathlib.Core.Path.{◌≡◌, refl, sym, ap, subst, ◌∙◌}
use mathlib.Core.Bool.{Bool, true, false}
use mathlib.Core.List.{List}
use Prim.Native.Nat.{ℕ, zero, suc, ◌-◌, ◌<◌, ◌≤◌}
use native.Mathlib.Omega.{arith}
use native.Mathlib.Numerals.{sub-one}
use lib.ListN.{length}
use lib.IntN.{ℤ}
use Rattle.words.specs.Taken.{Taken}
use Rattle.std.specs.Prelude.{Ok}
use borrow.Author.Tests.{eq-eqb}
use Rattle.words.specs.declared.Kind.{Kind}
use Rattle.words.specs.declared.Word.{Word as Held}
use Rattle.words.specs.Kinds.{code, taken}
use Rattle.words.proofs.Codes.{code_other}
use Rattle.words.specs.Words.{next_word}
use Rattle.words.proofs.Forward.{Forward, next_forward}
use Rattle.grammar.specs.Outcome.{Outcome, ok, no, Turn, more, last}
use Rattle.grammar.specs.Grammar.{Algebra, turn, part, closed, nested}
use Rattle.grammar.proofs.Chain.{Past, PastT, Real, real_sum, real_product, past_turn, links_more, links_last, past_factor, past_term, past_part, past_nested}
use Rattle.judging.specs.Reading.{State, reads}
use Rattle.readers.specs.declared.Level.{Level}
use Rattle.readers.specs.declared.Level.TheVariants.{Sum, Product}
use Rattle.readers.specs.Readers.{inner_of, part_of, factor_of, expression_of}
use Rattle.readers.specs.Levels.{among, operand_of, turn_of, chain_of}

-- the calls at one place: operands of a level call its operand, which calls the operands of the next level or a factor
abbrev pub operand_rank : Level → ℕ
operand_rank Sum = 4
operand_rank Product = 1

pub operand_low : (l : Level) → operand_rank l ≤ 4
operand_low Sum = omega arith
operand_low Product = omega arith

abbrev pub level_rank : Level → ℕ
level_rank Sum = 5
level_rank Product = 2

-- a word that is not the end was taken; and one of a kind
pub word_gone : (s : List ℕ) (at : ℕ) (w : Held) → taken (Ok w) ≡ next_word s at → (code w.kind ≡ 0 → ⊥) → length s - w.next.at < length s - at
word_gone s at w q nz =
    let f : Forward (length s) at (taken (Ok w)) = subst (λ (t : Taken). Forward (length s) at t) (sym q) (next_forward s at) in
    let h : (at < w.next.at) × (at < length s) = f nz in
    omega arith

pub word_past : (s : List ℕ) (at : ℕ) (w : Held) (k : Kind) → taken (Ok w) ≡ next_word s at → w.kind ≡ k → (code k ≡ 0 → ⊥) → length s - w.next.at < length s - at
word_past s at w k q e nz = word_gone s at w q (λ z. nz (sym (ap code e) ∙ z))

-- what was read from a place
abbrev Gone : List ℕ → ℕ → Outcome State ℤ → Type 0
Gone s at r = (w : ℤ) (e : ℕ) (y : State) → ok w e y ≡ r → length s - e < length s - at

gone : (s : List ℕ) (at : ℕ) (r : Outcome State ℤ) → Past (length s) at r → Gone s at r
gone s at r p w e y q =
    let h : Past (length s) at (ok w e y) = subst (λ (o : Outcome State ℤ). Past (length s) at o) (sym q) p in
    omega arith

module _ (s t : List ℕ) (d o at : ℕ) (x : State) where
  pub inner_past : (m : Bool) (p : ℕ) (w : ℤ) (e : ℕ) (y : State) → ok w e y ≡ inner_of s t d m o p at x → length s - e < length s - at
  inner_past m p = gone s at (inner_of s t d m o p at x) (past_nested (reads s t) s d m o p at x)

  pub part_past : (p k : ℕ) (w : ℤ) (e : ℕ) (y : State) → ok w e y ≡ part_of s t d o p k at x → (k ≡ 0 → ⊥) → length s - e < length s - at
  part_past p k w e y q nz =
      gone s at (part_of s t d o p k at x) (past_part (reads s t) s (inner_of s t d) (past_nested (reads s t) s d) o p k at at nz x (omega arith)) w e y q

module _ {S A B : Type 0} (alg : Algebra S A B) (s : List ℕ) (o : ℕ) (among : ℕ → Bool) (operand : ℕ → S → Outcome S A)
    (real : Real among) (far : (at : ℕ) (x : S) → Past (length s) at (operand at x)) where
  nearer : (v w : A) (at e : ℕ) (x y : S) → turn alg s o among operand v at x ≡ more w e y → length s - e < length s - at
  nearer v w at e x y q =
      let p : PastT (length s) at (more w e y) = subst (λ (t : Turn S A). PastT (length s) at t) q (past_turn alg s o among operand real far v at x) in
      omega arith

module _ (s t : List ℕ) (d : ℕ) (l : Level) where
  real : Real (among l)
  real = by_level l
    where
      by_level : (l : Level) → Real (among l)
      by_level Sum = real_sum
      by_level Product = real_product

  far : (o a : ℕ) (x : State) → Past (length s) a (operand_of s t d l o a x)
  far = by_level l
    where
      by_level : (l : Level) (o a : ℕ) (x : State) → Past (length s) a (operand_of s t d l o a x)
      by_level Sum = past_term (reads s t) s (inner_of s t d) (past_nested (reads s t) s d)
      by_level Product = past_factor (reads s t) s (inner_of s t d) (past_nested (reads s t) s d)

  pub operator_real : (k : ℕ) → among l k ≡ true → k ≡ 0 → ⊥
  operator_real k e = real k e

  pub operand_past : (o at : ℕ) (x : State) (w : ℤ) (e : ℕ) (y : State) → ok w e y ≡ operand_of s t d l o at x → length s - e < length s - at
  operand_past o at x = gone s at (operand_of s t d l o at x) (far o at x)

  module _ (o : ℕ) (v : ℤ) (at : ℕ) (x : State) where
    pub chain_more : (w : ℤ) (e : ℕ) (y : State) → turn_of s t d l o v at x ≡ more w e y → (chain_of s t d l o v at x ≡ chain_of s t d l o w e y) × (length s - e < length s - at)
    chain_more w e y q = (
      links_more (reads s t) s o (among l) (operand_of s t d l o) real (far o) v w at e x y q,
      nearer (reads s t) s o (among l) (operand_of s t d l o) real (far o) v w at e x y q,
    )

    pub chain_last : (r : Outcome State ℤ) → turn_of s t d l o v at x ≡ last r → chain_of s t d l o v at x ≡ r
    chain_last r q = links_last (reads s t) s o (among l) (operand_of s t d l o) real (far o) v at x r q

-- with levels left, what stands within has a level fewer
pub inner_some : (s t : List ℕ) (d o p at : ℕ) (x : State) → (d ≡ 0 → ⊥) → inner_of s t d false o p at x ≡ expression_of s t (d - 1) o at x
unfolding nested
inner_some s t zero o p at x nz = absurd (nz refl)
inner_some s t (suc d) o p at x nz = rw sub-one refl

pub negated_some : (s t : List ℕ) (d o p at : ℕ) (x : State) → (d ≡ 0 → ⊥) → inner_of s t d true o p at x ≡ factor_of s t (d - 1) o at x
unfolding nested
negated_some s t zero o p at x nz = absurd (nz refl)
negated_some s t (suc d) o p at x nz = rw sub-one refl

pub inner_none : (s t : List ℕ) (d : ℕ) (m : Bool) (o p at : ℕ) (x : State) → d ≡ 0 → inner_of s t d m o p at x ≡ no 6 p x
unfolding nested
inner_none s t d m o p at x z = rw z refl

-- behind what stands within: the word that must follow, or another
module _ (s t : List ℕ) (d o p at : ℕ) (x : State) (v : ℤ) (e : ℕ) (y : State) (q : ok v e y ≡ inner_of s t d false o p at x)
    (w : Held) (r : taken (Ok w) ≡ next_word s e) (k : Kind) where
  pub part_ends : w.kind ≡ k → ok v w.next.at y ≡ part_of s t d o p (code k) at x
  unfolding part closed
  part_ends h = simp (← q, ← r, eq-eqb _ _ (ap code h))

  pub part_breaks : (w.kind ≡ k → ⊥) → no 2 w.start y ≡ part_of s t d o p (code k) at x
  unfolding part closed
  part_breaks h = simp (← q, ← r, code_other _ _ h)
