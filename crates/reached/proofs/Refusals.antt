-- Every refusal of a text has a number of document 01's list: 1 to 12, those of 'Refusal numbers' that a text can bring. So no definition along the stages runs out of
-- turns, which would be refused 0. (That stages 3 and 4 refuse with 3 to 6 alone is treewise's.)
-- Assumes nothing.
use mathlib.Core.Path.{◌≡◌, refl, sym, subst}
use mathlib.Core.Bool.{Bool, true, false}
use mathlib.Core.List.{List}
use Prim.Native.Nat.{ℕ, ◌≤◌}
use native.Mathlib.Omega.{arith}
use lib.ListN.{length, replicate}
use lib.Dec.{leb, ltb}
use lib.IntN.{ℤ}
use borrow.Author.Tests.{leb-true}
use Rattle.basics.specs.Choice.{pick}
use Rattle.grammar.specs.Outcome.{Outcome, ok, no, levels}
use Rattle.grammar.specs.Modules.{Module}
use Rattle.grammar.specs.Forms.{Statements, Declarations, parsed_text, checked_text}
use Rattle.grammar.proofs.Alike.{Like, Places, checked_text_lem}
use Rattle.judging.specs.Reading.{State}
use Rattle.trees.specs.Layout.{Elements, elements_of}
use Rattle.declare.specs.Declarations.{declarations_of}
use Rattle.unroll.specs.Loops.{statements_of}
use Rattle.circuit.specs.StageFive.{misassigned, misplaced, looped, mispositioned, first_below, Verdict, stage_five}
use Rattle.circuit.specs.StageFive.Verdict.{fine, refused as faulty}
use Rattle.outputs.specs.Outputs.{misfits, too_many, stage_six}
use Rattle.texts.specs.Stages.{Front, stays, refused, unless, fifth, unrolled, fourth, declared, third, checked, second, front_of, fitting, whole_of}
use Rattle.treewise.proofs.Later.{LaterIn, declarations_later, statements_later}
use Rattle.reached.proofs.Told.{Told}
use Rattle.reached.proofs.Checked.{checked_told}

-- a refusal has a number of the list
abbrev ToldF : ℕ → Front → Type 0
ToldF m (stays parts) = Unit {0}
ToldF m (refused n p) = (1 ≤ n) × (n ≤ m)

abbrev ToldJ : ℕ → Verdict → Type 0
ToldJ m fine = Unit {0}
ToldJ m (faulty n p) = (1 ≤ n) × (n ≤ m)

unless_told : (m : ℕ) (v : Verdict) (l : List ℕ) → ToldJ m v → ToldF m (unless v l)
unless_told m fine l h = tt
unless_told m (faulty n p) l h = h

judgement_pick : (m : ℕ) (b : Bool) (x y : Verdict) → ToldJ m x → ToldJ m y → ToldJ m (pick b x y)
judgement_pick m true x y p q = p
judgement_pick m false x y p q = q

stage_five_lem : (e : Elements) → ToldJ 10 (stage_five e)
unfolding stage_five
stage_five_lem e =
    judgement_pick 10 (ltb (first_below (misassigned e) 64) 64) (faulty 7 (e.place (first_below (misassigned e) 64))) _ (omega arith, omega arith)
    (judgement_pick 10 (ltb (first_below (misplaced e) 64) 64) (faulty 8 (e.place (first_below (misplaced e) 64))) _ (omega arith, omega arith)
    (judgement_pick 10 (ltb (first_below (looped e) 64) 64) (faulty 9 (e.place (first_below (looped e) 64))) _ (omega arith, omega arith)
    (judgement_pick 10 (ltb (first_below (mispositioned e) 64) 64) (faulty 10 (e.place (first_below (mispositioned e) 64))) fine (omega arith, omega arith) tt)))

eleven_twelve : (b : Bool) → (1 ≤ pick b 11 12) × (pick b 11 12 ≤ 12)
eleven_twelve true = (omega arith, omega arith)
eleven_twelve false = (omega arith, omega arith)

stage_six_lem : (e : Elements) → ToldJ 12 (stage_six e)
unfolding stage_six
stage_six_lem e =
    judgement_pick 12 (ltb (first_below (misfits e) 64) 64) (faulty (pick (too_many e (first_below (misfits e) 64)) 11 12) (e.place (first_below (misfits e) 64))) fine
    (eleven_twelve (too_many e (first_below (misfits e) 64))) tt

-- ---- a text

unrolled_told : (o : Outcome State ℤ) → LaterIn o → ToldF 10 (unrolled o)
unfolding fifth
unrolled_told (ok v at x) h = unless_told 10 (stage_five (elements_of x.0)) x.0 (stage_five_lem (elements_of x.0))
unrolled_told (no n p x) h = (omega arith, omega arith)

module _ (s : List ℕ) (small : length s ≤ 32768) where
  third-told : (m : Module Declarations Statements) (e : ℕ) → parsed_text s ≡ ok m e tt → ToldF 10 (third s m.declarations m.statements)
  unfolding third fourth
  third-told m e q = go (declarations_of s m.declarations (replicate 2588 0, 0)) (declarations_later s (omega arith) m e q (replicate 2588 0, 0))
    where
      go : (o : Outcome State (List ℕ)) → LaterIn o → ToldF 10 (declared s m.statements o)
      go (ok t at x) h = unrolled_told (statements_of s levels t m.statements x) (statements_later s (omega arith) m e q t x)
      go (no n p x) h = (omega arith, omega arith)

  second-told : ToldF 10 (second s)
  unfolding second
  second-told = go (checked_text s) (parsed_text s) refl (checked_text_lem s) (checked_told s)
    where
      go : (r : Outcome (Unit {0}) (Module (Unit {0}) (Unit {0}))) (r' : Outcome (Unit {0}) (Module Declarations Statements)) → parsed_text s ≡ r' → Like Places r r' → Told r
          → ToldF 10 (checked s r)
      go (ok m e u) (ok m' e' u') q l h =
          subst (λ (i : ℕ). ToldF 10 (third s i m.statements)) (sym l.0.0) (subst (λ (i : ℕ). ToldF 10 (third s m'.declarations i)) (sym l.0.1) (third-told m' e' q))
      go (ok m e u) (no n p u') q l h = absurd l
      go (no n p u) r' q l h = h

front_told : (s : List ℕ) → ToldF 10 (front_of s)
unfolding front_of
front_told s = go (leb (length s) 32768) refl
  where
    go : (b : Bool) → leb (length s) 32768 ≡ b → ToldF 10 (pick b (second s) (refused 1 0))
    go true e = second-told s (leb-true (length s) 32768 e)
    go false e = (omega arith, omega arith)

fitting_told : (f : Front) → ToldF 10 f → ToldF 12 (fitting f)
fitting_told (stays parts) h = unless_told 12 (stage_six (elements_of parts)) parts (stage_six_lem (elements_of parts))
fitting_told (refused n p) h = let l : (1 ≤ n) × (n ≤ 10) = h in (l.0, omega arith)

whole_told : (s : List ℕ) → ToldF 12 (whole_of s)
unfolding whole_of
whole_told s = fitting_told (front_of s) (front_told s)

-- a text that is refused is refused by a number from 1 to 12
pub refusal_number : (s : List ℕ) (n p : ℕ) → whole_of s ≡ refused n p → (1 ≤ n) × (n ≤ 12)
refusal_number s n p e = subst (ToldF 12) e (whole_told s)
