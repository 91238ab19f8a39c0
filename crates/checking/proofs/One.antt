-- No second answer fits the promise of stage 2: what is seen of an answer says the answer.
-- Assumes nothing.
use mathlib.Core.Path.{◌≡◌, sym, ap, ap₂, ◌∙◌}
use mathlib.Core.List.{List}
use Prim.Native.Nat.{ℕ}
use native.Mathlib.Omega.{arith}
use Rattle.std.specs.Prelude.{Result, Ok, Err}
use Rattle.basics.specs.Refusal.{number_of}
use Rattle.basics.specs.declared.refusal.Refusal.{Refusal}
use Rattle.basics.specs.declared.refusal.Reason.{Reason}
use Rattle.basics.proofs.Refusals.{number_of_once}
use Rattle.words.specs.declared.Cursor.{Cursor}
use Rattle.grammar.specs.Outcome.{ok, no}
use Rattle.grammar.specs.Modules.{Module}
use Rattle.grammar.specs.Forms.{checked_text}
use Rattle.checking.specs.Seen.{seen_text}
use Rattle.checking.specs.declared.Checked.{Checked}

abbrev Answer : Type 0
Answer = Result Checked Refusal

same_cursor : (c d : Cursor) → c.at ≡ d.at → c ≡ d
same_cursor c d p = λ i. record { at = p i }

abbrev Outline : Type 0
Outline = Module (Unit {0}) (Unit {0})

apart : (v : Outline) (a n p : ℕ) → ok v a (tt {0}) ≡ no n p (tt {0}) → ⊥
apart v a n p q = let z : ◌≡◌ {A = ℕ} 0 1 = cc in omega arith

outline : Checked → Outline
outline c = record { declarations = c.declarations.at; statements = c.statements.at; declared = tt; body = tt }

pub seen_one : (a b : Answer) → seen_text a ≡ seen_text b → a ≡ b
unfolding outline
seen_one (Ok a) (Ok b) q =
    let v : outline a ≡ outline b = cc in
    let d : a.declarations ≡ b.declarations = same_cursor a.declarations b.declarations (ap (λ (m : Outline). m.declarations) v) in
    let s : a.statements ≡ b.statements = same_cursor a.statements b.statements (ap (λ (m : Outline). m.statements) v) in
    let r : a.next.at ≡ b.next.at = cc in
    let n : a.next ≡ b.next = same_cursor a.next b.next r in
    λ i. Ok (record { declarations = d i; statements = s i; next = n i })
seen_one (Ok a) (Err r) q = absurd (apart (outline a) a.next.at (number_of r.reason) r.place q)
seen_one (Err r) (Ok a) q = absurd (apart (outline a) a.next.at (number_of r.reason) r.place (sym q))
seen_one (Err r) (Err t) q =
    let e : number_of r.reason ≡ number_of t.reason = cc in
    let p : r.place ≡ t.place = cc in
    ap₂ (λ (m : Reason) (n : ℕ). Err (record { reason = m; place = n })) (number_of_once r.reason t.reason e) p

-- two answers that both fit a text are one
pub check_one : (s : List ℕ) (a b : Answer) → seen_text a ≡ checked_text s → seen_text b ≡ checked_text s → a ≡ b
check_one s a b p q = seen_one a b (p ∙ sym q)
