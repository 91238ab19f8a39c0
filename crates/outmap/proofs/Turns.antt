-- The turn of one element, and stage 6 as a loop over all of them. Assumes nothing.
use mathlib.Core.Path.{◌≡◌, refl, sym, ap, ap₂, ◌∙◌, subst}
use mathlib.Core.Bool.{Bool, true, false, not, ◌&&◌, ◌||◌}
use mathlib.Core.List.{List, []}
use Prim.Native.Nat.{ℕ, ◌+◌, ◌-◌, ◌≤◌, ◌<◌}
use native.Mathlib.Omega.{arith}
use lib.Dec.{eqb, leb, ltb}
use borrow.Author.Tests.{eq-eqb, ne_eqb, le-ltb, lt-ltb, ltb-true, leb-true}
use lib.ListN.{length, get_or, take, set, replicate, length-replicate}
use Rattle.std.specs.Prelude.{Some, Ok, Err}
use Rattle.basics.specs.Choice.{pick, bit}
use Rattle.basics.specs.Refusal.{number_of as reason_number}
use Rattle.basics.specs.declared.refusal.Reason.{Reason}
use Rattle.basics.specs.declared.refusal.Reason.TheVariants.{Length, Grammar, Arithmetic, Name, Index, Limit, Assignment, Register, Loop, Position, Pins, Products, Memory, Question, Form, Device, Fuse, FuseSum, ByteSum, Model, Map, Value}
use Rattle.cells.specs.Kind.{numbers}
use Rattle.cells.specs.declared.Kind.{Kind}
use Rattle.cells.specs.declared.Cells.{Cells}
use Rattle.fit.specs.declared.Fitted.{Fitted}
use Rattle.basics.specs.Below.{all_below, listed}
use Rattle.basics.proofs.Folds.{None, none_start, none_more, all_at}
use Rattle.trees.specs.Layout.{Elements}
use Rattle.circuit.specs.StageFive.{Verdict, stage_five}
use Rattle.circuit.specs.StageFive.Verdict.{fine, refused}
use Rattle.circuit.proofs.First.{hit, missed}
use Rattle.meaning.specs.Circuit.{out_at}
use Rattle.device.specs.Device.{products_of}
use Rattle.sums.specs.Product.{Digit}
use Rattle.fit.specs.Fit.{Programmed, seen as programmed, fitted, inverted, primes_of, opposite, fits, taken, refused as noProducts}
use Rattle.cells.specs.Counts.{picks}
use Rattle.cells.specs.Map.{map_of}
use Rattle.reach.specs.Uses.{registers}
use Rattle.behave.specs.Cells.{unused, combinational, registered, code}
use Rattle.outputs.specs.Outputs.{out_of, kind_of, too_many, fitted_out, misfits, stage_six, cell_of, masks_of, counts_of, kinds_of, s0s_of, map_for}
use Rattle.outputs.specs.Trial.{Tried, seen as seen_trial, tried_of}
use Rattle.outputs.proofs.Trying.{out_pin}
use Rattle.outmap.specs.Sixth.{fills, placed, number_of, Placed, Fitting, Few, fact_at, facts_of, after}
use Rattle.outmap.proofs.Filling.{out_is, Held, held_start, held_more, held_end, ten_is}

-- ---- at most sixteen products

products_small : (k : ℕ) → k < 10 → products_of k ≤ 16
unfolding all_below products_of
products_small k h = leb-true (products_of k) 16 (all_at (λ j. leb (products_of j) 16) 10 refl k h)

taken_few : (k : ℕ) (s0 : Bool) (ps : List (List Digit)) (x : Programmed) → k < 10 → x.n ≤ 16 → (pick (fits k ps) (taken s0 ps) x).n ≤ 16
taken_few k s0 ps x h w = go (fits k ps) refl
  where
    go : (b : Bool) → fits k ps ≡ b → (pick b (taken s0 ps) x).n ≤ 16
    go true q = let a = leb-true (length ps) (products_of k) q in let b = products_small k h in omega (arith, a, b)
    go false q = w

inverted_few : (k named : ℕ) (f : List Bool → Bool) → k < 10 → (inverted k named f).n ≤ 16
unfolding inverted
inverted_few k named f h = taken_few k false (primes_of named (opposite f)) noProducts h (omega arith)

fitted_few : (k : ℕ) (r s0 : Bool) (named : ℕ) (f : List Bool → Bool) → k < 10 → (fitted k r s0 named f).n ≤ 16
unfolding fitted
fitted_few k r s0 named f h = taken_few k (pick r s0 true) (primes_of named f) (pick r noProducts (inverted k named f)) h (go r)
  where
    go : (b : Bool) → (pick b noProducts (inverted k named f)).n ≤ 16
    go true = omega arith
    go false = inverted_few k named f h

pub out_few : (e : Elements) (i : ℕ) → stage_five e ≡ fine → i < 64 → e.class i ≡ 2 → (fitted_out e i).n ≤ 16
unfolding fitted_out
out_few e i ok h c = let p = out_pin e i ok h c in fitted_few (23 - e.pin i) _ _ _ _ (omega (arith, p.0, p.1))

-- ---- one element

pub no_out : (e : Elements) (i : ℕ) → eqb (e.class i) 2 ≡ false → (0 ≡ number_of e i) × (fills e i ≡ false)
unfolding number_of fills
no_out e i q =
    (sym (ap (λ (b : Bool). pick b (tried_of e i).number 0) q), ap (λ (b : Bool). b && (eqb (out_at e (e.pin i)) i && eqb (tried_of e i).number 0)) q)

-- no reason has number 0
pub reason_positive : (r : Reason) → reason_number r ≡ 0 → ⊥
reason_positive Length h = absurd (omega arith)
reason_positive Grammar h = absurd (omega arith)
reason_positive Arithmetic h = absurd (omega arith)
reason_positive Name h = absurd (omega arith)
reason_positive Index h = absurd (omega arith)
reason_positive Limit h = absurd (omega arith)
reason_positive Assignment h = absurd (omega arith)
reason_positive Register h = absurd (omega arith)
reason_positive Loop h = absurd (omega arith)
reason_positive Position h = absurd (omega arith)
reason_positive Pins h = absurd (omega arith)
reason_positive Products h = absurd (omega arith)
reason_positive Memory h = absurd (omega arith)
reason_positive Question h = absurd (omega arith)
reason_positive Form h = absurd (omega arith)
reason_positive Device h = absurd (omega arith)
reason_positive Fuse h = absurd (omega arith)
reason_positive FuseSum h = absurd (omega arith)
reason_positive ByteSum h = absurd (omega arith)
reason_positive Model h = absurd (omega arith)
reason_positive Map h = absurd (omega arith)
reason_positive Value h = absurd (omega arith)

number_is : (e : Elements) (i : ℕ) (t : Tried) → e.class i ≡ 2 → t ≡ tried_of e i → t.number ≡ number_of e i
unfolding number_of
number_is e i t c q = ap (λ (x : Tried). x.number) q ∙ sym (ap (λ (b : Bool). pick b (tried_of e i).number 0) (eq-eqb (e.class i) 2 c))

no_number : (e : Elements) (i : ℕ) (t : Tried) → t ≡ tried_of e i → (t.number ≡ 0 → ⊥) → fills e i ≡ false
unfolding fills
no_number e i t q n = go (eqb (e.class i) 2) (eqb (out_at e (e.pin i)) i) (ne_eqb (tried_of e i).number 0 (λ z. n (ap (λ (x : Tried). x.number) q ∙ z)))
  where
    go : (a b : Bool) → eqb (tried_of e i).number 0 ≡ false → (a && (b && eqb (tried_of e i).number 0)) ≡ false
    go true true w = w
    go true false w = refl
    go false b w = refl

-- an OUT that is refused
pub refused_out : (e : Elements) (i : ℕ) (r : Reason) → e.class i ≡ 2 → seen_trial (Err r) ≡ tried_of e i → (reason_number r ≡ number_of e i) × (fills e i ≡ false)
refused_out e i r c q = (number_is e i (seen_trial (Err r)) c q, no_number e i (seen_trial (Err r)) q (reason_positive r))

pub not_first : (e : Elements) (i : ℕ) (b : Bool) → b ≡ eqb (out_at e (e.pin i)) i → b ≡ false → fills e i ≡ false
unfolding fills
not_first e i b q w = ap (λ (y : Bool). eqb (e.class i) 2 && (y && eqb (tried_of e i).number 0)) (sym q ∙ w) ∙ go (eqb (e.class i) 2)
  where
    go : (a : Bool) → (a && false) ≡ false
    go true = refl
    go false = refl

pub first_fills : (e : Elements) (i : ℕ) (b : Bool) (t : Fitted) → e.class i ≡ 2 → seen_trial (Ok t) ≡ tried_of e i → b ≡ eqb (out_at e (e.pin i)) i → b ≡ true → fills e i ≡ true
unfolding fills
first_fills e i b t c q f w =
    ap₂ (λ (x y : Bool). x && (y && eqb (tried_of e i).number 0)) (eq-eqb (e.class i) 2 c) (sym f ∙ w) ∙ eq-eqb (tried_of e i).number 0 (sym (ap (λ (x : Tried). x.number) q))

left_out : {A : Type 0} (e : Elements) (i : ℕ) (l : List A) (v : A) → fills e i ≡ false → l ≡ placed e i l v
left_out e i l v q = sym (ap (λ (b : Bool). pick b (set l (23 - e.pin i) v) l) q)

-- an element that fills no cell
pub none_placed : (e : Elements) (i : ℕ) (c : Cells) → fills e i ≡ false → Placed e i c c
none_placed e i c q = record { masks_after = left_out e i c.masks _ q; counts_after = left_out e i c.counts _ q; kinds_after = refl; s0s_after = left_out e i c.s0s _ q }

put_in : {A : Type 0} (e : Elements) (i k : ℕ) (l : List A) (u v : A) → fills e i ≡ true → k ≡ 23 - e.pin i → u ≡ v → set l k u ≡ placed e i l v
put_in e i k l u v q z w = ap₂ (set l) z w ∙ sym (ap (λ (b : Bool). pick b (set l (23 - e.pin i) v) l) q)

-- one that is fitted into its cell
pub now_placed : (e : Elements) (i k s0 : ℕ) (c : Cells) (t : Fitted) → fills e i ≡ true → k ≡ 23 - e.pin i → programmed (Some t) ≡ fitted_out e i → s0 ≡ bit t.s0
    → Placed e i c (record { masks = set c.masks k t.masks; counts = set c.counts k t.n; kinds = c.kinds; s0s = set c.s0s k s0 })
now_placed e i k s0 c t q z w b =
    record {
      masks_after = put_in e i k c.masks _ _ q z (ap (λ (x : Programmed). x.masks) w);
      counts_after = put_in e i k c.counts _ _ q z (ap (λ (x : Programmed). x.n) w);
      kinds_after = refl;
      s0s_after = put_in e i k c.s0s _ _ q z (b ∙ ap (λ (x : Programmed). bit x.s0) w);
    }

tried_fit : (u : Programmed) (t : Fitted) (b c : Bool) → u.ok ≡ c
    → seen_trial (Ok t)
    ≡ pick b (record { number = 11; s0 = false; n = 0; masks = replicate 16 0 }) (record { number = pick c 0 12; s0 = u.s0; n = u.n; masks = u.masks })
    → programmed (Some t) ≡ u
tried_fit u t true c w q = absurd (let z : ◌≡◌ {A = ℕ} 0 11 = ap (λ (x : Tried). x.number) q in omega (arith, z))
tried_fit u t false false w q = absurd (let z : ◌≡◌ {A = ℕ} 0 12 = ap (λ (x : Tried). x.number) q in omega (arith, z))
tried_fit u t false true w q =
    let a = ap (λ (x : Tried). x.s0) q in
    let b = ap (λ (x : Tried). x.n) q in
    let c = ap (λ (x : Tried). x.masks) q in
    let o = sym w in
    λ y. record { ok = o y; s0 = a y; n = b y; masks = c y }

fit_is : (e : Elements) (i : ℕ) (t : Fitted) → seen_trial (Ok t) ≡ tried_of e i → programmed (Some t) ≡ fitted_out e i
unfolding tried_of
fit_is e i t q = tried_fit (fitted_out e i) t (too_many e i) (fitted_out e i).ok refl q

-- an OUT that is fitted
pub fitted_is : (e : Elements) (i : ℕ) (t : Fitted) → e.class i ≡ 2 → seen_trial (Ok t) ≡ tried_of e i → (0 ≡ number_of e i) × (programmed (Some t) ≡ fitted_out e i)
fitted_is e i t c q = (number_is e i (seen_trial (Ok t)) c q, fit_is e i t q)

-- ---- all of them

tried_number : (e : Elements) (i : ℕ) → (tried_of e i).number ≡ pick (too_many e i) 11 (pick (fitted_out e i).ok 0 12)
unfolding tried_of
tried_number e i = go (too_many e i)
  where
    go : (b : Bool)
        → (pick {X = Tried} b (record { number = 11; s0 = false; n = 0; masks = replicate 16 0 }) (record { number = pick (fitted_out e i).ok 0 12; s0 = (fitted_out e i).s0; n = (fitted_out e i).n; masks = (fitted_out e i).masks })).number
        ≡ pick b 11 (pick (fitted_out e i).ok 0 12)
    go true = refl
    go false = refl

number_whole : (e : Elements) (i : ℕ) → number_of e i ≡ pick (eqb (e.class i) 2) (pick (too_many e i) 11 (pick (fitted_out e i).ok 0 12)) 0
unfolding number_of
number_whole e i = ap (λ (x : ℕ). pick (eqb (e.class i) 2) x 0) (tried_number e i)

passes : (e : Elements) (i : ℕ) → number_of e i ≡ 0 → misfits e i ≡ false
unfolding misfits
passes e i q = go (eqb (e.class i) 2) (too_many e i) (fitted_out e i).ok (sym (number_whole e i) ∙ q)
  where
    go : (a b c : Bool) → pick {X = ℕ} a (pick b 11 (pick c 0 12)) 0 ≡ 0 → (a && (b || not c)) ≡ false
    go true true c q = absurd (omega (arith, q))
    go true false true q = refl
    go true false false q = absurd (omega (arith, q))
    go false b c q = refl

fails : (e : Elements) (i : ℕ) → (number_of e i ≡ 0 → ⊥) → (misfits e i ≡ true) × (number_of e i ≡ pick (too_many e i) 11 12)
unfolding misfits
fails e i n =
    let w = go (eqb (e.class i) 2) (too_many e i) (fitted_out e i).ok (λ z. n (number_whole e i ∙ z)) in
    (w.0, number_whole e i ∙ w.1)
  where
    go : (a b c : Bool) → (pick {X = ℕ} a (pick b 11 (pick c 0 12)) 0 ≡ 0 → ⊥) → ((a && (b || not c)) ≡ true) × (pick {X = ℕ} a (pick b 11 (pick c 0 12)) 0 ≡ pick b 11 12)
    go true true c n = (refl, refl)
    go true false true n = absurd (n refl)
    go true false false n = (refl, refl)
    go false b c n = absurd (n refl)

pub refuses : (e : Elements) (i number place : ℕ) → i < 64 → None (misfits e) 64 i → number ≡ number_of e i → (number ≡ 0 → ⊥) → place ≡ e.place i → refused number place ≡ stage_six e
unfolding stage_six
refuses e i number place h c q n p =
    let w = fails e i (λ z. n (q ∙ z)) in
    ap₂ refused (q ∙ w.1) p
    ∙ sym (ap (λ (b : Bool). pick b (refused (pick (too_many e i) 11 12) (e.place i)) fine) (lt-ltb i 64 h))
    ∙ ap (λ (o : ℕ). pick (ltb o 64) (refused (pick (too_many e o) 11 12) (e.place o)) fine) (hit (misfits e) 64 i h c w.0)

pub lets_pass : (e : Elements) (i : ℕ) → 64 ≤ i → None (misfits e) 64 i → fine ≡ stage_six e
unfolding stage_six
lets_pass e i h c =
    sym (ap (λ (b : Bool). pick b (refused (pick (too_many e 64) 11 12) (e.place 64)) fine) (le-ltb 64 64 (omega arith)))
    ∙ ap (λ (o : ℕ). pick (ltb o 64) (refused (pick (too_many e o) 11 12) (e.place o)) fine) (missed (misfits e) 64 i h c)

pub record Turned (e : Elements) (cells : Cells) (i : ℕ) : Type 0 where
  pub none : None (misfits e) 64 i
  pub masks : Held e (λ t. t.masks) [] cells.masks i
  pub counted : Held e (λ t. t.n) 0 cells.counts i
  pub kinds : numbers cells.kinds ≡ kinds_of e
  pub polar : Held e (λ t. bit t.s0) 0 cells.s0s i

pub turned_start : (e : Elements) (kinds : List Kind) → numbers kinds ≡ kinds_of e
    → Turned e (record { masks = replicate 10 (replicate 16 0); counts = replicate 10 0; kinds = kinds; s0s = replicate 10 0 }) 0
turned_start e kinds q =
    record { none = none_start (misfits e) 64; masks = held_start e (λ t. t.masks) [] _ refl; counted = held_start e (λ t. t.n) 0 _ refl; kinds = q; polar = held_start e (λ t. bit t.s0) 0 _ refl }

pub turned_more : (e : Elements) (c c' : Cells) (i : ℕ) → stage_five e ≡ fine → i < 64 → Turned e c i → 0 ≡ number_of e i → Placed e i c c' → Turned e c' (i + 1)
turned_more e c c' i ok h t q p =
    let w = sym q in
    record {
      none = none_more (misfits e) 64 i h t.none (passes e i w);
      masks = subst (λ (l : List (List ℕ)). Held e (λ t. t.masks) [] l (i + 1)) (sym p.masks_after) (held_more e (λ t. t.masks) [] c.masks i (fitted_out e i).masks ok h w t.masks refl);
      counted = subst (λ (l : List ℕ). Held e (λ t. t.n) 0 l (i + 1)) (sym p.counts_after) (held_more e (λ t. t.n) 0 c.counts i (fitted_out e i).n ok h w t.counted refl);
      kinds = ap numbers p.kinds_after ∙ t.kinds;
      polar = subst (λ (l : List ℕ). Held e (λ t. bit t.s0) 0 l (i + 1)) (sym p.s0s_after) (held_more e (λ t. bit t.s0) 0 c.s0s i (bit (fitted_out e i).s0) ok h w t.polar refl);
    }

pub turned_end : (e : Elements) (c : Cells) (i : ℕ) → 64 ≤ i → Turned e c i → Fitting e c
turned_end e c i h t =
    let u = t.none.under in
    record {
      masks_are = held_end e (λ t. t.masks) [] c.masks i h u t.masks;
      counts_are = held_end e (λ t. t.n) 0 c.counts i h u t.counted;
      kinds_are = t.kinds;
      s0s_are = held_end e (λ t. bit t.s0) 0 c.s0s i h u t.polar;
    }

-- ---- facts

pub facts_are : (e : Elements) (all : List (List ℕ)) (counts : List ℕ) → all ≡ masks_of e → counts ≡ counts_of e → listed (fact_at all counts) 20 ≡ facts_of e
unfolding listed fact_at
facts_are e all counts a b = ap₂ (λ (x : List (List ℕ)) (y : List ℕ). listed (fact_at x y) 20) a b

pub fact_low : (all : List (List ℕ)) (counts : List ℕ) (j : ℕ) → j < 10 → get_or counts j 0 ≡ fact_at all counts j
unfolding fact_at
fact_low all counts j h = sym (ap (λ (b : Bool). pick b (get_or counts j 0) (picks (take (get_or counts (j - 10) 0) (get_or all (j - 10) [])))) (lt-ltb j 10 h))

pub fact_high : (all : List (List ℕ)) (counts : List ℕ) (j x : ℕ) → 10 ≤ j → x ≡ picks (take (get_or counts (j - 10) 0) (get_or all (j - 10) [])) → x ≡ fact_at all counts j
unfolding fact_at
fact_high all counts j x h q = q ∙ sym (ap (λ (b : Bool). pick b (get_or counts j 0) (picks (take (get_or counts (j - 10) 0) (get_or all (j - 10) [])))) (le-ltb j 10 h))

-- ---- kinds

pub kind_is : (e : Elements) (k o : ℕ) (b r : Bool) → o ≡ out_at e (23 - k) → ltb o 64 ≡ b → registers (e.nodes o) ≡ r → code (pick b (pick r registered combinational) unused) ≡ code (kind_of e k)
unfolding kind_of
kind_is e k o b r q w z =
    ap₂ (λ (x y : Bool). code (pick x (pick y registered combinational) unused)) (sym w) (sym z)
    ∙ ap (λ (x : ℕ). code (pick (ltb x 64) (pick (registers (e.nodes x)) registered combinational) unused)) q

-- ---- the whole

out_fits : (e : Elements) (k : ℕ) → k < 10 → out_of e k < 64 → (fitted_out e (out_of e k)).n ≤ 16
unfolding fitted_out
out_fits e k h l = let p = (out_is e (23 - k) (out_of e k) refl l).1 in fitted_few (23 - e.pin (out_of e k)) _ _ _ _ (omega (arith, p, h))

cell_few : (e : Elements) (k : ℕ) → k < 10 → (cell_of e k).n ≤ 16
unfolding cell_of
cell_few e k h = go (ltb (out_of e k) 64) refl
  where
    go : (b : Bool) → ltb (out_of e k) 64 ≡ b → (pick b (fitted_out e (out_of e k)) noProducts).n ≤ 16
    go true q = out_fits e k h (ltb-true (out_of e k) 64 q)
    go false q = omega arith

pub few_counts : (e : Elements) (counts : List ℕ) → counts ≡ counts_of e → Few counts
few_counts e counts q = record { says = λ k h. subst (λ (n : ℕ). n ≤ 16) (sym (ap (λ (l : List ℕ). get_or l k 0) q ∙ ten_is (λ k. (cell_of e k).n) 0 k h)) (cell_few e k h) }

pub map_is : (e : Elements) (all : List (List ℕ)) (counts kinds s0s : List ℕ) → all ≡ masks_of e → counts ≡ counts_of e → kinds ≡ kinds_of e → s0s ≡ s0s_of e → map_of all counts kinds s0s ≡ map_for e
unfolding map_for
map_is e all counts kinds s0s a b c d = λ y. map_of (a y) (b y) (c y) (d y)

pub after_fine : (v : Verdict) (new old l : List ℕ) → fine ≡ v → l ≡ new → l ≡ after v new old
after_fine v new old l q w = w ∙ ap (λ (x : Verdict). after x new old) q

-- where stage 6 lets pass, the lent memory holds what is new
pub after_new : (v : Verdict) (new old l : List ℕ) → fine ≡ v → l ≡ after v new old → l ≡ new
after_new v new old l q w = w ∙ ap (λ (x : Verdict). after x new old) (sym q)

pub zeros_long : (l l₀ : List ℕ) → l ≡ replicate (length l₀) 0 → 59049 ≤ length l₀ → 59049 ≤ length l
zeros_long l l₀ q h = subst (λ (n : ℕ). 59049 ≤ n) (sym (ap length q ∙ length-replicate (length l₀) 0)) h

pub zeros_again : (l l₀ : List ℕ) → l ≡ replicate (length l₀) 0 → l ≡ replicate (length l) 0
zeros_again l l₀ q = q ∙ ap (λ (n : ℕ). replicate n 0) (sym (ap length q ∙ length-replicate (length l₀) 0))
