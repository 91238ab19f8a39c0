-- A circuit: what stands at each OUT pin, and what it shows, cycle by cycle from power-up (document 01, "The language we take": registers start
-- at '0). Assumes nothing.
use Rattle.std.specs.Prelude.{◌≡◌, Bool, false, ◌&&◌, List, [], ◌∷◌, ℕ, eqb, ltb}
use Rattle.basics.specs.Choice.{pick, xor}
use Rattle.trees.specs.Layout.{Elements}
use Rattle.reach.specs.Uses.{inverts, registers}
use Rattle.circuit.specs.StageFive.{first_below}
use Rattle.meaning.specs.Meaning.{takes_next}

pub record Circuit : Type 0 where
  -- pin p is an OUT; it has a register; it shows the register's inverse
  pub out : ℕ → Bool
  pub registered : ℕ → Bool
  pub inverted : ℕ → Bool
  -- on a setting of the pins, the value of its function: what the pin shows, or what its register takes next
  pub next : ℕ → (ℕ → Bool) → Bool

-- the OUT element at pin p, 64 where there is none
unfoldable pub out_at : Elements → ℕ → ℕ
out_at e p = first_below (λ i. eqb (e.class i) 2 && eqb (e.pin i) p) 64

-- the circuit that a module's elements are
abbrev pub circuit_of : Elements → Circuit
circuit_of e =
    record {
      out = λ p. ltb (out_at e p) 64;
      registered = λ p. ltb (out_at e p) 64 && registers (e.nodes (out_at e p));
      inverted = λ p. ltb (out_at e p) 64 && inverts (e.nodes (out_at e p));
      next = λ p s. ltb (out_at e p) 64 && takes_next e (out_at e p) s;
    }

-- what a register's pin shows where its bit is q
abbrev pub pin_of_bit : Circuit → ℕ → Bool → Bool
pin_of_bit c p q = xor (c.inverted p) q

-- the values of all pins, where the others have the values ins and the registers hold q
abbrev pub setting_of : Circuit → (ℕ → Bool) → (ℕ → Bool) → ℕ → Bool
setting_of c ins q p = pick (c.registered p) (pin_of_bit c p (q p)) (ins p)

-- what the OUT pins show then, and what the registers hold after the clock
unfoldable pub shows : Circuit → (ℕ → Bool) → (ℕ → Bool) → ℕ → Bool
shows c ins q p = c.out p && pick (c.registered p) (pin_of_bit c p (q p)) (c.next p (setting_of c ins q))

unfoldable pub clocked : Circuit → (ℕ → Bool) → (ℕ → Bool) → ℕ → Bool
clocked c ins q p = c.registered p && c.next p (setting_of c ins q)

-- what the OUT pins show in each cycle, for the values of the other pins in each cycle
unfoldable pub run_from : Circuit → (ℕ → Bool) → List (ℕ → Bool) → List (ℕ → Bool)
run_from c q [] = []
run_from c q (ins ∷ later) = shows c ins q ∷ run_from c (clocked c ins q) later

-- from power-up every register holds 0
abbrev pub runs : Circuit → List (ℕ → Bool) → List (ℕ → Bool)
runs c = run_from c (λ p. false)

-- two circuits are the same: the same OUT pins, of the same kinds, with the same functions of a setting
pub record SameCircuit (c d : Circuit) : Type 0 where
  pub outs : (p : ℕ) → c.out p ≡ d.out p
  pub kinds : (p : ℕ) → c.registered p ≡ d.registered p
  pub polarities : (p : ℕ) → c.inverted p ≡ d.inverted p
  pub functions : (p : ℕ) (s : ℕ → Bool) → c.next p s ≡ d.next p s
