-- An entry of a truth table. Assumes nothing.
use mathlib.Core.Path.{◌≡◌, refl, sym, ap, ap₂, ◌∙◌, subst}
use mathlib.Core.Logic.{⊎_elim}
use mathlib.Core.Bool.{Bool, true, false, ◌&&◌}
use mathlib.Core.List.{List, [], ◌∷◌, ◌++◌}
use Prim.Native.Nat.{ℕ, zero, suc, ◌+◌, ◌≤◌, ◌<◌}
use native.Mathlib.Omega.{arith}
use lib.ListN.{length, get_or, take, get_or-eq_default, get_or-append, length-append}
use lib.Seq.{get_or_at}
use Rattle.basics.specs.Choice.{bit, pick, on, xor}
use Rattle.basics.specs.Below.{listed}
use Rattle.basics.proofs.Folds.{listed_at, listed_length}
use Rattle.basics.proofs.Store.{below_or_not}
use Rattle.trees.specs.Machine.{env_of, value_of}
use Rattle.trees.specs.Layout.{Elements, elements_of}
use Rattle.trees.proofs.Stack.{on_bit}
use Rattle.reach.specs.Uses.{inverts, uses}
use Rattle.reach.specs.Reach.{via}
use Rattle.reach.specs.Table.{Matrix}
use Rattle.circuit.specs.StageFive.{stage_five}
use Rattle.circuit.specs.StageFive.Verdict.{fine}
use Rattle.meaning.specs.Meaning.{known, meaning, shows_next}
use Rattle.meaning.specs.Settle.{settle_all, order_of, rank_in, Ordered}
use Rattle.meaning.proofs.Fine.{remains_beyond}
use Rattle.meaning.proofs.Settling.{Starts, settled}
use Rattle.meaning.proofs.Whole.{ranks_are}
use Rattle.pins.specs.Variables.{variable_pin, chosen, variables_of, names_variable}
use Rattle.pins.proofs.Choosing.{pin_small}
use Rattle.tables.specs.Memory.{InOrder, Pins}

-- the values of the elements that remain
starts : (parts : List ℕ) (s : ℕ → Bool) (v : List ℕ) → v ≡ listed (λ i. bit (known (elements_of parts) s i)) 64 → Starts (elements_of parts) s v
starts parts s v q = record { size = size; pins = λ i z. at i }
  where
    size : length v ≡ 64
    size = ap length q ∙ listed_length (λ i. bit (known (elements_of parts) s i)) 64

    at : (i : ℕ) → env_of v i ≡ known (elements_of parts) s i
    at i =
        ⊎_elim
        (λ (h : i < 64). ap (λ (x : List ℕ). env_of x i) q ∙ ap on (listed_at (λ i. bit (known (elements_of parts) s i)) 64 i h) ∙ on_bit (known (elements_of parts) s i))
        (λ (h : 64 ≤ i).
        let z = size in
        ap on (get_or-eq_default v 0 {n = i} (omega arith)) ∙ sym (ap (λ (b : Bool). b && s ((elements_of parts).pin i)) (remains_beyond parts i h)))
        (below_or_not i 64)

pub values_are : (parts : List ℕ) → stage_five (elements_of parts) ≡ fine → (order : List ℕ) → InOrder (elements_of parts) order → (s : ℕ → Bool) (v₀ v : List ℕ)
    → v₀ ≡ listed (λ i. bit (known (elements_of parts) s i)) 64 → v ≡ settle_all (elements_of parts) v₀ order → env_of v ≡ meaning (elements_of parts) s
values_are parts ok order io s v₀ v e₀ e =
    ap env_of (e ∙ ap (settle_all (elements_of parts) v₀) io.says)
    ∙ settled (elements_of parts) (listed (rank_in io.meets) 64) v₀ s (ranks_are parts ok io.meets (listed (rank_in io.meets) 64) io.closed refl) (starts parts s v₀ e₀)

-- what the pin shows next, from the values
pub shown_is : (e : Elements) (o : ℕ) (v s : ℕ → Bool) (a c q r : Bool) → v ≡ meaning e s → a ≡ inverts (e.nodes o) → c ≡ s (e.pin o) → q ≡ xor a c → r ≡ value_of v q (e.nodes o) → r ≡ shows_next e o s
unfolding shows_next
shown_is e o v s a c q r ev ea ec eq er = er ∙ ap₂ (λ (f : ℕ → Bool) (b : Bool). value_of f b (e.nodes o)) ev (eq ∙ ap₂ xor ea ec)

-- the order that was found
pub in_order : (e : Elements) (m ranks out : List ℕ) (n : ℕ) → Matrix m (via (uses e) 64) → ranks ≡ listed (rank_in m) 64 → Ordered e ranks out n → (k : ℕ) → k ≡ n → InOrder e (take k out)
in_order e m ranks out n mx er o k q = record { meets = m; closed = mx; says = ap (λ (j : ℕ). take j out) q ∙ o.says ∙ ap (λ (l : List ℕ). order_of e l 4160) er }

-- variables are pins below 24
below : (l r : List ℕ) → ((k : ℕ) → get_or l k 0 < 24) → (x : ℕ) → x < 24 → (k : ℕ) → get_or (l ++ (x ∷ [])) k 0 < 24
below l r f x h k =
    ⊎_elim
    (λ (z : k < length l). subst (λ (y : ℕ). y < 24) (sym (get_or-append l (x ∷ []) 0 k z)) (f k))
    (λ (z : length l ≤ k).
    ⊎_elim
    (λ (w : k < length l + 1). let q : length l ≡ k = omega arith in subst (λ (y : ℕ). y < 24) (sym (get_or_at l x [] 0 k q)) h)
    (λ (w : length l + 1 ≤ k). let a = length-append l (x ∷ []) in subst (λ (y : ℕ). y < 24) (sym (get_or-eq_default (l ++ (x ∷ [])) 0 {n = k} (omega arith))) (omega arith))
    (below_or_not k (length l + 1)))
    (below_or_not k (length l))

chosen_small : (f : ℕ → Bool) (g : ℕ → ℕ) (n : ℕ) → ((i : ℕ) → i < n → g i < 24) → (k : ℕ) → get_or (chosen f g n) k 0 < 24
unfolding chosen
chosen_small f g zero h k = omega arith
chosen_small f g (suc n) h k = both (f n) (chosen_small f g n (λ i l. h i (omega arith))) (h n (omega arith)) k
  where
    both : (b : Bool) → ((k : ℕ) → get_or (chosen f g n) k 0 < 24) → g n < 24 → (k : ℕ) → get_or (pick b (chosen f g n ++ (g n ∷ [])) (chosen f g n)) k 0 < 24
    both true f' l = below (chosen f g n) [] f' (g n) l
    both false f' l = f'

pub vars_pins : (e : Elements) (rows : Bool) (o : ℕ) (l : List ℕ) → l ≡ variables_of e rows o → Pins l
vars_pins e rows o l q = record { small = λ k. subst (λ (x : List ℕ). get_or x k 0 < 24) (sym q) (chosen_small (names_variable e rows o) (variable_pin rows) 22 (λ i h. pin_small rows i h) k) }
