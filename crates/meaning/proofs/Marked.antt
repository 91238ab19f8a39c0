-- The module of document 01, "The fuse file", y := REG(y - a): what it shows, and what stage 5 says of it and of modules beside it. Assumes nothing.
use mathlib.Core.Path.{◌≡◌, refl}
use mathlib.Core.Bool.{Bool, true, false}
use mathlib.Core.List.{List, [], ◌∷◌, map}
use Prim.Native.Nat.{ℕ, ◌+◌}
use lib.Dec.{eqb}
use Rattle.basics.specs.Choice.{pick}
use Rattle.trees.specs.Layout.{Elements}
use Rattle.trees.specs.Machine.{run, value_of}
use Rattle.basics.specs.Below.{any_below}
use Rattle.reach.specs.Uses.{from_end, inverts, registers, names, replaced, remains, writes, uses}
use Rattle.reach.specs.Reach.{via}
use Rattle.reach.specs.Meeting.{top_below, meets}
use Rattle.circuit.specs.Placed.{plain_n, placed_n}
use Rattle.circuit.specs.Pins.{role_of}
use Rattle.circuit.specs.StageFive.{misassigned, misplaced, positioned_right, mispositioned, first_below, stage_five}
use Rattle.circuit.specs.StageFive.Verdict.{fine, refused}
use Rattle.meaning.specs.Meaning.{value, shows_next}
use Rattle.meaning.specs.Circuit.{circuit_of, out_at, shows, clocked, run_from, runs}

-- two elements of given classes, equations and counts of assignments, at pins 2 and p
abbrev pub pair : ℕ → ℕ → List ℕ → List ℕ → ℕ → ℕ → ℕ → Elements
pair c d ns ms a b p =
    record {
      class = λ i. pick (eqb i 0) c (pick (eqb i 1) d 0);
      place = λ i. 10 + i;
      nodes = λ i. pick (eqb i 0) ns ms;
      assigned = λ i. pick (eqb i 0) a b;
      positioned = λ i. 1;
      pin = λ i. pick (eqb i 0) 2 p;
      miscounted = λ i. false;
      given = λ q. pick (eqb q 2) (pick (eqb p 2) 2 1) 1;
    }

-- an IN at pin 2, and an OUT at pin 23 with the register's equation y - a
abbrev pub toggles : Elements
toggles = pair 1 2 [] (10 ∷ 9 ∷ 5 ∷ 7 ∷ []) 0 1 23

-- its OUT changes in each cycle behind one in which a is 1
pub toggles_shows : map (λ (f : ℕ → Bool). f 23) (runs (circuit_of toggles) ((λ p. true) ∷ (λ p. true) ∷ (λ p. false) ∷ (λ p. false) ∷ [])) ≡ false ∷ true ∷ false ∷ false ∷ []
unfolding run value_of from_end inverts registers replaced remains first_below value shows_next out_at shows clocked run_from
toggles_shows = refl

-- it passes stage 5; its OUT assigned twice is refused 7, a REG under * 8, an OUT that names itself 9, its pin shared 10 at the first of the two
pub fifth_stage : map stage_five (
    toggles
    ∷ pair 1 2 [] (10 ∷ 9 ∷ 5 ∷ 7 ∷ []) 0 2 23
    ∷ pair 1 2 [] (9 ∷ 7 ∷ 9 ∷ 3 ∷ []) 0 1 23
    ∷ pair 1 2 [] (10 ∷ 9 ∷ 3 ∷ []) 0 1 23
    ∷ pair 1 2 [] (9 ∷ []) 0 1 2
    ∷ []) ≡ fine ∷ refused 7 11 ∷ refused 8 11 ∷ refused 9 11 ∷ refused 10 10 ∷ []
unfolding any_below from_end inverts registers names replaced writes uses via top_below meets plain_n placed_n role_of misassigned misplaced positioned_right mispositioned first_below stage_five
fifth_stage = refl
