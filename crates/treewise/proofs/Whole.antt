-- Stages 3 and 4 along a text that is of the grammar are those of its tree.
-- Assumes nothing.
use mathlib.Core.Path.{◌≡◌, refl, ap, ◌∙◌}
use mathlib.Core.Bool.{Bool, true, false}
use mathlib.Core.List.{List}
use Prim.Native.Nat.{ℕ, ◌≤◌}
use native.Mathlib.Omega.{arith}
use lib.ListN.{length, replicate}
use lib.Dec.{eqb, leb}
use lib.IntN.{pos}
use borrow.Author.Tests.{leb-true}
use Rattle.basics.specs.Choice.{pick}
use Rattle.grammar.specs.Outcome.{Outcome, ok, no, Built, built, bad, and_then, after_built, levels}
use Rattle.grammar.specs.Trees.{trees}
use Rattle.grammar.specs.Modules.{Module, must, sequence, declarations, begun, headed, same_name, ended, headless, whole_text}
use Rattle.grammar.specs.Forms.{Statements, nothing, Declarations, tree_forms, parsed_text, checked_text}
use Rattle.grammar.proofs.Alike.{Like, Places, checked_text_lem}
use Rattle.judging.specs.Reading.{State}
use Rattle.declare.specs.Declarations.{declarations_of}
use Rattle.unroll.specs.Loops.{statement_turn, statements_of}
use Rattle.unroll.proofs.Laws.{statements_last}
use Rattle.texts.specs.Stages.{refused, unrolled, fourth, declared, third, checked, second, front_of}
use Rattle.texts.specs.Meaning.{meaning, circuit_in}
use Rattle.treewise.specs.Unrolled.{carried}
use Rattle.treewise.specs.Declared.{declared_in}
use Rattle.treewise.specs.Staged.{unrolled_in, fourth_in, declared_on, third_in, parsed_on, front_in, meaning_in}
use Rattle.treewise.proofs.Trace.{When, when_pick, when_then, when_is, when_self, when_word, when_closed, Stands}
use Rattle.treewise.proofs.Loops.{sequence_is}
use Rattle.treewise.proofs.Declares.{declarations_are}

-- stages 3 and 4 from the places of a module are those of its tree, among all names and from every state
pub record Agrees (s : List ℕ) (m : Module Declarations Statements) : Type 0 where
  pub declared_to : ℕ
  pub declares : (x : State) → declarations_of s m.declarations x ≡ after_built (declared_in s m.declared x) (λ t y. ok t declared_to y)
  pub carried_to : ℕ
  pub carries : (t : List ℕ) (x : State) → statements_of s levels t m.statements x ≡ after_built (carried s t m.body x) (λ u y. ok (pos 0) carried_to y)

module _ (s : List ℕ) (small : length s ≤ 65535) where
  -- the statements of a module, where END follows
  Begun : ℕ × Statements → ℕ → Type 0
  Begun b n =
      (e : ℕ) → Stands s 202 n e → (t : List ℕ) (x : State) → statements_of s levels t b.0 x ≡ after_built (carried s t b.1 x) (λ u y. ok (pos 0) n y)

  -- a module without statements
  none-begun : (at e : ℕ) (t : List ℕ) (x : State) → Stands s 202 at e → statements_of s levels t at x ≡ ok (pos 0) at x
  none-begun at e t x w = statements_last s t levels at x (ok (pos 0) at x) (unfold statement_turn in rw w.taken refl)

  begun-is : (at : ℕ) → When Begun (begun trees tree_forms s at tt)
  unfolding begun Begun carried
  begun-is at =
      when_word s Begun at _ (λ k st v c q.
      when_pick Begun (eqb k 212) _ (ok (at, nothing) at tt)
      (λ b. when_then Begun (sequence trees tree_forms s levels c.at tt) _ (λ u n h e w t x. sequence_is s small levels t c.at x u n e (omega arith) h w))
      (λ b e w t x. none-begun at e t x w))

  ended_is : (st e at : ℕ) → When (λ u n. (m : ℕ) × Stands s 202 at m) (ended trees tree_forms s st e at tt)
  unfolding ended
  ended_is st e at =
      when_then (λ u n. (m : ℕ) × Stands s 202 at m) (must s 202 at tt) _ (λ u m q.
      when_self (λ u n. (m : ℕ) × Stands s 202 at m) (and_then (same_name trees tree_forms s st e m tt) (λ u at x. and_then (must s 46 at x) (λ u at x. must s 0 at x))) (λ v n h.
      (m, when_is (λ u j. Stands s 202 at j) (must s 202 at tt) tt m q (when_closed s (λ u j. Stands s 202 at j) 202 tt at (λ e o. o)))))

  headless-is : (st e at : ℕ) → When (λ m n. Agrees s m) (headless trees tree_forms s st e at tt)
  unfolding headless Begun
  headless-is st e at =
      when_then (λ m n. Agrees s m) (declarations trees tree_forms s at tt) _ (λ v b q.
      when_then (λ m n. Agrees s m) (begun trees tree_forms s b tt) _ (λ u n h.
      when_then (λ m n. Agrees s m) (ended trees tree_forms s st e n tt) _ (λ w r g.
      let end : (m : ℕ) × Stands s 202 n m = when_is (λ u n'. (m : ℕ) × Stands s 202 n m) (ended trees tree_forms s st e n tt) w r g (ended_is st e n) in
      record {
        declared_to = b;
        declares = λ x. when_is (λ v e. declarations_of s at x ≡ after_built (declared_in s v x) (λ t y. ok t e y)) (declarations trees tree_forms s at tt) v b q (declarations_are s at x);
        carried_to = n;
        carries = λ t x. when_is Begun (begun trees tree_forms s b tt) u n h (begun-is b) end.0 end.1 t x;
      })))

  text_is : When (λ m n. Agrees s m) (parsed_text s)
  unfolding whole_text
  text_is = when_then (λ m n. Agrees s m) (headed trees tree_forms s 0 tt) _ (λ h at q. headless-is h.0 h.1 at)

  -- a text that is of the grammar: stages 3 and 4 from where its declarations and its statements start are those of its tree
  pub tree_agrees : (m : Module Declarations Statements) (e : ℕ) → parsed_text s ≡ ok m e tt → Agrees s m
  tree_agrees m e q = when_is (λ m n. Agrees s m) (parsed_text s) m e q text_is

  fourth-is : (u : Statements) (b n : ℕ) (t : List ℕ) (x : State) → statements_of s levels t b x ≡ after_built (carried s t u x) (λ v y. ok (pos 0) n y)
      → fourth s b t x ≡ fourth_in s u t x
  unfolding fourth fourth_in
  fourth-is u b n t x h = ap unrolled h ∙ go (carried s t u x)
    where
      go : (b : Built State (Unit {0})) → unrolled (after_built b (λ v y. ok (pos 0) n y)) ≡ unrolled_in b
      go (built v y) = refl
      go (bad k p y) = refl

  third-is : (m : Module Declarations Statements) → Agrees s m → third s m.declarations m.statements ≡ third_in s m
  unfolding third third_in
  third-is m a = ap (declared s m.statements) (a.declares (replicate 2588 0, 0)) ∙ go (declared_in s m.declared (replicate 2588 0, 0))
    where
      go : (b : Built State (List ℕ)) → declared s m.statements (after_built b (λ t y. ok t a.declared_to y)) ≡ declared_on s m.body b
      go (built t x) = fourth-is m.body m.statements a.carried_to t x (a.carries t x)
      go (bad k p x) = refl

  -- the same refusal number and place, or the same memory left, on which stage 5 goes on
  pub stages_are : (m : Module Declarations Statements) (e : ℕ) → parsed_text s ≡ ok m e tt → third s m.declarations m.statements ≡ third_in s m
  stages_are m e q = third-is m (tree_agrees m e q)

  second_is : second s ≡ parsed_on s (parsed_text s)
  unfolding second
  second_is = go (checked_text s) (parsed_text s) refl (checked_text_lem s)
    where
      go : (r : Outcome (Unit {0}) (Module (Unit {0}) (Unit {0}))) (r' : Outcome (Unit {0}) (Module Declarations Statements)) → parsed_text s ≡ r' → Like Places r r'
          → checked s r ≡ parsed_on s r'
      go (ok m e u) (ok m' e' u') q l =
          ap (λ (i : ℕ). third s i m.statements) l.0.0 ∙ ap (λ (i : ℕ). third s m'.declarations i) l.0.1 ∙ stages_are m' e' q
      go (ok m e u) (no n p u') q l = absurd l
      go (no n p u) (ok m e u') q l = absurd l
      go (no n p u) (no n' p' u') q l = ap (λ (i : ℕ). refused i p) l.0 ∙ ap (λ (i : ℕ). refused n' i) l.1

-- what every text comes to up to stage 5 is a function of its tree
pub front_is : (s : List ℕ) → front_of s ≡ front_in s
unfolding front_of front_in
front_is s = go (leb (length s) 32768) refl
  where
    go : (b : Bool) → leb (length s) 32768 ≡ b → pick b (second s) (refused 1 0) ≡ pick b (parsed_on s (parsed_text s)) (refused 1 0)
    go true q = let h : length s ≤ 32768 = leb-true (length s) 32768 q in second_is s (omega arith)
    go false q = refl

-- and so is its meaning
pub meaning_is : (s : List ℕ) → meaning s ≡ meaning_in s
unfolding meaning meaning_in
meaning_is s = ap circuit_in (front_is s)
