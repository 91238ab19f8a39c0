-- What is out of reach of a text. Document 01 knows no bound on names together, on places, on the number behind a number, or on a room of nodes other than 2,048;
-- the definitions of names, parts, integers and judging carry these, and refusal 10 looks at pins beside counts. Without them the outcome of every text is the
-- same. Of a text that is let pass no equation is cut.
-- Assumes nothing.
use mathlib.Core.Path.{◌≡◌, refl, ap, subst, ◌∙◌}
use mathlib.Core.Bool.{Bool, true, false}
use mathlib.Core.List.{List, []}
use Prim.Native.Nat.{ℕ, ◌+◌, ◌<◌, ◌≤◌}
use native.Mathlib.Omega.{arith}
use lib.ListN.{length, get_or, take, drop, replicate, length-replicate, get_or-replicate}
use lib.Dec.{leb}
use lib.IntN.{ℤ}
use borrow.Author.Tests.{leb-true}
use Rattle.basics.specs.Choice.{pick}
use Rattle.grammar.specs.Outcome.{Outcome, ok, no, levels}
use Rattle.grammar.specs.Modules.{Module}
use Rattle.grammar.specs.Forms.{checked_text}
use Rattle.judging.specs.Reading.{State}
use Rattle.trees.specs.Layout.{Elements, elements_of, start_at, size_at, pin_at}
use Rattle.parts.specs.Parts.{elements_at, constants_at}
use Rattle.circuit.specs.StageFive.{Verdict, stage_five}
use Rattle.circuit.specs.StageFive.Verdict.{fine, refused as faulty}
use Rattle.declare.specs.Declarations.{declarations_of}
use Rattle.unroll.specs.Loops.{statements_of}
use Rattle.texts.specs.Stages.{Front, stays, refused, unless, fifth, unrolled, fourth, declared, third, checked, second, front_of, fitting, whole_of}
use Rattle.reached.proofs.Unbounded as free
use Rattle.reached.specs.Counted.{counted_five}
use Rattle.reached.proofs.Known.{AllFair}
use Rattle.reached.proofs.Both.{Fine}
use Rattle.reached.proofs.Declared.{Room, declarations_of_lem}
use Rattle.reached.proofs.Shared.{Pinned}
use Rattle.reached.proofs.Runs.{Runs, begins, counts, nodes_whole}
use Rattle.reached.proofs.Acts.{Sound, Left}
use Rattle.reached.proofs.Unrolled.{Names, statements_of_lem}
use Rattle.reached.proofs.Sharing.{counted_five_lem}

-- nothing is declared yet
abbrev zeros : List ℕ
zeros = replicate 2588 0

zero_at : (k : ℕ) → k < 2588 → get_or zeros k 0 ≡ 0
zero_at k h = get_or-replicate 2588 k 0 0 h

start_room : Room 0 [] (zeros, 0)
unfolding AllFair
start_room =
    let c = zero_at constants_at (omega arith) in
    let e = zero_at elements_at (omega arith) in
    record {
      fair = tt;
      size = length-replicate {A = ℕ} 2588 0;
      nodes = omega arith;
      constants = omega arith;
      elements = omega arith;
      names = omega arith;
      blank = λ k g h. zero_at k (omega arith);
    }

-- behind the declarations: at most 96 names stand, and no element has a pin
room_names : (t : List ℕ) (x : State) → Room 0 t x → Names levels t
room_names t x r = let c = r.constants in let e = r.elements in let n = r.names in record { fair = r.fair; few = omega arith }

room_sound : (t : List ℕ) (x : State) → Room 0 t x → Sound x
room_sound t x r =
    record {
      nodes = r.nodes;
      pinned = record {
        size = r.size;
        once = λ i h a b. let z = r.blank (pin_at + i) (omega arith) (omega arith) in absurd (omega arith);
        twice = λ i j h g n s a b. let z = r.blank (pin_at + i) (omega arith) (omega arith) in absurd (omega arith);
      };
      runs = record {
        size = r.size;
        run = λ i h.
            let z = r.blank (start_at + i) (omega arith) (omega arith) in
            let w = r.blank (size_at + i) (omega arith) (omega arith) in
            omega arith;
      };
    }

module _ (five : Elements → Verdict) (agree : (l : List ℕ) → Pinned l → stage_five (elements_of l) ≡ five (elements_of l)) where
  fifth-same : (l : List ℕ) → Pinned l → fifth l ≡ free.fifth five l
  unfolding fifth free.fifth
  fifth-same l r = ap (λ (v : Verdict). unless v l) (agree l r)

  unrolled-same : (o : Outcome State ℤ) → Fine Left o → unrolled o ≡ free.unrolled five o
  unrolled-same (ok v at x) r = fifth-same x.0 r.pinned
  unrolled-same (no n p x) r = refl

  module _ (s : List ℕ) (small : length s ≤ 32768) where
    fourth-same : (at : ℕ) (t : List ℕ) (x : State) → Room 0 t x → fourth s at t x ≡ free.fourth five s at t x
    unfolding fourth free.fourth
    fourth-same at t x r =
        let b = statements_of_lem s small levels t at x (room_names t x r) (room_sound t x r) in
        unrolled-same (statements_of s levels t at x) b.1 ∙ ap (free.unrolled five) b.0

    declared_same : (b : ℕ) (o : Outcome State (List ℕ)) → Fine (Room 0) o → declared s b o ≡ free.declared five s b o
    declared_same b (ok t at x) r = fourth-same b t x r
    declared_same b (no n p x) r = refl

    third-same : (at b : ℕ) → third s at b ≡ free.third five s at b
    unfolding third free.third
    third-same at b =
        let d = declarations_of_lem s small at (replicate 2588 0, 0) start_room in
        declared_same b (declarations_of s at (replicate 2588 0, 0)) d.1 ∙ ap (free.declared five s b) d.0

    checked-same : (o : Outcome (Unit {0}) (Module (Unit {0}) (Unit {0}))) → checked s o ≡ free.checked five s o
    checked-same (ok m at u) = third-same m.declarations m.statements
    checked-same (no n p u) = refl

    second-same : second s ≡ free.second five s
    unfolding second free.second
    second-same = checked-same (checked_text s)

  front_same : (s : List ℕ) → front_of s ≡ free.front_of five s
  unfolding front_of free.front_of
  front_same s = go (leb (length s) 32768) refl
    where
      go : (b : Bool) → leb (length s) 32768 ≡ b → pick b (second s) (refused 1 0) ≡ pick b (free.second five s) (refused 1 0)
      go true e = second-same s (leb-true (length s) 32768 e)
      go false e = refl

-- stages 1 to 5 come to the same where every name is added, every place and count is noted, and every number has one behind it
pub front_unbounded : (s : List ℕ) → front_of s ≡ free.front_of stage_five s
front_unbounded s = front_same stage_five (λ l r. refl) s

-- and so they do where, besides, refusal 10 goes by the counts of given numbers alone
pub front_counted : (s : List ℕ) → front_of s ≡ free.front_of counted_five s
front_counted s = front_same counted_five counted_five_lem s

-- (6) too, whose verdict is over what stays
pub whole_counted : (s : List ℕ) → whole_of s ≡ fitting (free.front_of counted_five s)
unfolding whole_of
whole_counted s = ap fitting (front_counted s)

-- ---- what stays

abbrev Whole : Front → Type 0
Whole (stays parts) = Runs parts
Whole (refused n p) = Unit {0}

whole_unless : (v : Verdict) (l : List ℕ) → Runs l → Whole (unless v l)
whole_unless fine l r = r
whole_unless (faulty n q) l r = tt

whole_unrolled : (o : Outcome State ℤ) → Fine Left o → Whole (unrolled o)
unfolding fifth
whole_unrolled (ok v at x) r = whole_unless (stage_five (elements_of x.0)) x.0 r.runs
whole_unrolled (no n p x) r = tt

whole_declared : (s : List ℕ) → length s ≤ 32768 → (b : ℕ) (o : Outcome State (List ℕ)) → Fine (Room 0) o → Whole (declared s b o)
unfolding fourth
whole_declared s small b (ok t at x) r = whole_unrolled (statements_of s levels t b x) (statements_of_lem s small levels t b x (room_names t x r) (room_sound t x r)).1
whole_declared s small b (no n p x) r = tt

whole_checked : (s : List ℕ) → length s ≤ 32768 → (o : Outcome (Unit {0}) (Module (Unit {0}) (Unit {0}))) → Whole (checked s o)
unfolding third
whole_checked s small (ok m at u) =
    whole_declared s small m.statements (declarations_of s m.declarations (zeros, 0)) (declarations_of_lem s small m.declarations (zeros, 0) start_room).1
whole_checked s small (no n p u) = tt

whole_front : (s : List ℕ) → Whole (front_of s)
unfolding front_of second
whole_front s = go (leb (length s) 32768) refl
  where
    go : (b : Bool) → leb (length s) 32768 ≡ b → Whole (pick b (second s) (refused 1 0))
    go true e = whole_checked s (leb-true (length s) 32768 e) (checked_text s)
    go false e = tt

-- the nodes of each element are all that were written for it: those from where its equation starts, as many as it has
pub nodes_uncut : (s parts : List ℕ) (i : ℕ) → i < 64 → front_of s ≡ stays parts → (elements_of parts).nodes i ≡ take (counts parts i) (drop (begins parts i) parts)
nodes_uncut s parts i h e = nodes_whole parts i h (subst Whole e (whole_front s))
