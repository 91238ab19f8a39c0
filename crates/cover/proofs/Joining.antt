-- The twos of a judged table, in order, are the primes over all columns, in order.
-- Assumes nothing.
use mathlib.Core.Path.{◌≡◌, refl, sym, ap, ap₂, ◌∙◌, fun_ext}
use mathlib.Core.Bool.{Bool, true, false, not, ◌&&◌}
use mathlib.Core.List.{List, [], ◌∷◌, ◌++◌, map, append_assoc}
use Prim.Native.Nat.{ℕ, zero, suc, ◌+◌, ◌*◌, ◌/◌, ◌%◌, ◌^◌, ◌<◌}
use native.Mathlib.Nat.{pow-suc}
use native.Mathlib.Omega.{arith}
use lib.Dec.{eqb, leb}
use lib.ListN.{length, get_or, replicate, length-map}
use Rattle.basics.specs.Choice.{pick}
use Rattle.sums.specs.Product.{Digit, imp, any, drops, prime, grade, verdict, filter, expand, products, primes, digit, digits}
use Rattle.sums.specs.Product.Digit.{absent}
use Rattle.sums.specs.Named.{keep, spread, count}
use Rattle.sums.proofs.Named.{primes_named, filter_map}
use Rattle.engine.specs.Table.{function, Judged}
use Rattle.engine.proofs.Judging.{digits_of}
use Rattle.cover.specs.Mask.{mask}
use Rattle.cover.specs.Sum.{Found, padded, bits_of, held, complete}
use Rattle.cover.specs.Collect.{spread_n, twos, masks, answer, collected}

upto : ℕ → List ℕ
upto zero = []
upto (suc n) = upto n ++ (n ∷ [])

expand_n : List ℕ → List ℕ
expand_n [] = []
expand_n (x ∷ l) = (0 + 3 * x) ∷ (1 + 3 * x) ∷ (2 + 3 * x) ∷ expand_n l

expand_n_append : (l : List ℕ) (x : ℕ) → expand_n (l ++ (x ∷ [])) ≡ expand_n l ++ ((0 + 3 * x) ∷ (1 + 3 * x) ∷ (2 + 3 * x) ∷ [])
unfolding expand_n
expand_n_append [] x = refl
expand_n_append (y ∷ l) x = ap (λ (z : List ℕ). (0 + 3 * y) ∷ (1 + 3 * y) ∷ (2 + 3 * y) ∷ z) (expand_n_append l x)

upto_three : (n : ℕ) → upto (n * 3) ≡ expand_n (upto n)
unfolding upto expand_n
upto_three zero = refl
upto_three (suc n) =
    let e : suc n * 3 ≡ suc (suc (suc (n * 3))) = omega arith in
    let a : n * 3 ≡ 0 + 3 * n = omega arith in
    let b : suc (n * 3) ≡ 1 + 3 * n = omega arith in
    let d : suc (suc (n * 3)) ≡ 2 + 3 * n = omega arith in
    ap upto e ∙ step (n * 3) (suc (n * 3)) (suc (suc (n * 3))) a b d ∙ ap (λ (l : List ℕ). l ++ ((0 + 3 * n) ∷ (1 + 3 * n) ∷ (2 + 3 * n) ∷ [])) (upto_three n) ∙ sym (expand_n_append (upto n) n)
  where
    step : (x y z : ℕ) → x ≡ 0 + 3 * n → y ≡ 1 + 3 * n → z ≡ 2 + 3 * n → ((upto (n * 3) ++ (x ∷ [])) ++ (y ∷ [])) ++ (z ∷ []) ≡ upto (n * 3) ++ ((0 + 3 * n) ∷ (1 + 3 * n) ∷ (2 + 3 * n) ∷ [])
    step x y z p q r = simp (append_assoc, p, q, r)

expand_map : (n : ℕ) (l : List ℕ) → map (digits (suc n)) (expand_n l) ≡ expand (map (digits n) l)
unfolding expand_n expand
expand_map n [] = refl
expand_map n (x ∷ l) =
    ap₂ ◌∷◌ (digits_of n 0 x (omega arith)) (ap₂ ◌∷◌ (digits_of n 1 x (omega arith)) (ap₂ ◌∷◌ (digits_of n 2 x (omega arith)) (expand_map n l)))

-- the products of n pins are those with the numbers below 3^n, in order
products_are : (n : ℕ) → products n ≡ map (digits n) (upto (3 ^ n))
unfolding products digits upto
products_are zero = refl
products_are (suc n) = ap expand (products_are n) ∙ sym (expand_map n (upto (3 ^ n))) ∙ ap (map (digits (suc n))) (sym (upto_three (3 ^ n)) ∙ ap upto (sym (pow-suc 3 n)))

filter_append : {A : Type 0} (g : A → Bool) (l : List A) (x : A) → filter g (l ++ (x ∷ [])) ≡ pick (g x) (filter g l ++ (x ∷ [])) (filter g l)
unfolding filter
filter_append {A} g [] x = step (g x)
  where
    step : (b : Bool) → pick b (x ∷ []) [] ≡ pick b ([] ++ (x ∷ [])) []
    step true = refl
    step false = refl
filter_append {A} g (y ∷ l) x = ap (λ (z : List A). pick (g y) (y ∷ z) z) (filter_append g l x) ∙ step (g y) (g x)
  where
    step : (a b : Bool) → pick a (y ∷ pick b (filter g l ++ (x ∷ [])) (filter g l)) (pick b (filter g l ++ (x ∷ [])) (filter g l))
        ≡ pick b (pick a (y ∷ filter g l) (filter g l) ++ (x ∷ [])) (pick a (y ∷ filter g l) (filter g l))
    step true true = refl
    step true false = refl
    step false true = refl
    step false false = refl

-- the twos below p are the numbers below p that pass a test which agrees there
twos_are : (t : List ℕ) (p : ℕ) (g : ℕ → Bool) → ((j : ℕ) → j < p → eqb (get_or t j 0) 2 ≡ g j) → twos t p ≡ filter g (upto p)
unfolding twos upto filter
twos_are t zero g h = refl
twos_are t (suc p) g h =
    ap₂ (λ (b : Bool) (l : List ℕ). pick b (l ++ (p ∷ [])) l) (h p (omega arith)) (twos_are t p g (λ j i. h j (omega arith))) ∙ sym (filter_append g (upto p) p)

grade_two : (i b : Bool) → eqb (grade i (i && b)) 2 ≡ (i && b)
grade_two false b = refl
grade_two true false = refl
grade_two true true = refl

two_prime : (f t : List ℕ) (n : ℕ) → Judged f t n → (j : ℕ) → j < 3 ^ n → eqb (get_or t j 0) 2 ≡ prime (digits n j) (function f)
unfolding verdict prime
two_prime f t n h j l =
    ap (λ (x : ℕ). eqb x 2) (h.says j l) ∙ grade_two (imp (digits n j) (function f)) (not (any (λ q. imp q (function f)) (drops (digits n j))))

-- the twos of a judged table are the primes of its function
pub twos_primes : (f t : List ℕ) (n : ℕ) → Judged f t n → map (digits n) (twos t (length t)) ≡ primes n (function f)
unfolding primes
twos_primes f t n h =
    ap (λ (k : ℕ). map (digits n) (twos t k)) h.entries
    ∙ ap (map (digits n)) (twos_are t (3 ^ n) (λ j. prime (digits n j) (function f)) (two_prime f t n h))
    ∙ sym (filter_map (λ p. prime p (function f)) (digits n) (upto (3 ^ n)))
    ∙ ap (filter (λ p. prime p (function f))) (sym (products_are n))

-- a product of the named columns, over all of them
spread_bit : (b : Bool) (k m q : ℕ) (bs : List Bool) → ((x : ℕ) → spread_n k m x ≡ spread bs (digits (count bs) x))
    → pick b (digit (q % 3)) absent ∷ spread_n k m (pick b (q / 3) q) ≡ spread (b ∷ bs) (digits (count (b ∷ bs)) q)
unfolding spread digits count
spread_bit true k m q bs h = ap (λ (l : List Digit). digit (q % 3) ∷ l) (h (q / 3))
spread_bit false k m q bs h = ap (λ (l : List Digit). absent ∷ l) (h q)

pub spread_is : (k m q : ℕ) → spread_n k m q ≡ spread (bits_of k m) (digits (count (bits_of k m)) q)
unfolding spread_n bits_of spread digits count
spread_is zero m q = refl
spread_is (suc k) m q = spread_bit (eqb (m % 2) 1) k (m / 2) q (bits_of k (m / 2)) (λ x. spread_is k (m / 2) x)

map_map : {A B C : Type 0} (g : B → C) (h : A → B) (l : List A) → map g (map h l) ≡ map (λ x. g (h x)) l
map_map g h [] = refl
map_map g h (x ∷ l) = ap (λ z. g (h x) ∷ z) (map_map g h l)

-- the masks of the products with these numbers, by way of the products
masks_are : (named n : ℕ) (l : List ℕ) → count (bits_of 22 named) ≡ n → masks named l ≡ map mask (map (spread (bits_of 22 named)) (map (digits n) l))
masks_are named n l e =
    ap (λ (g : ℕ → ℕ). map g l)
    (fun_ext (λ (q : ℕ). ap mask (spread_is 22 named q ∙ ap (λ (k : ℕ). spread (bits_of 22 named) (digits k q)) e)))
    ∙ sym (map_map (λ p. mask (spread (bits_of 22 named) p)) (digits n) l)
    ∙ sym (map_map mask (spread (bits_of 22 named)) (map (digits n) l))

pub bits_length : (k m : ℕ) → length (bits_of k m) ≡ k
unfolding bits_of
bits_length zero m = refl
bits_length (suc k) m = ap suc (bits_length k (m / 2))

-- the primes over all columns are the twos of a judged table
all_primes : (f t : List ℕ) (n named : ℕ) → Judged f t n → count (bits_of 22 named) ≡ n
    → map (spread (bits_of 22 named)) (map (digits n) (twos t (length t))) ≡ primes 22 (λ s. function f (keep (bits_of 22 named) s))
all_primes f t n named h e =
    ap (map (spread (bits_of 22 named))) (twos_primes f t n h ∙ ap (λ (k : ℕ). primes k (function f)) (sym e))
    ∙ sym (primes_named (bits_of 22 named) (function f))
    ∙ ap (λ (k : ℕ). primes k (λ s. function f (keep (bits_of 22 named) s))) (bits_length 22 named)

answer_held : (named : ℕ) (l : List ℕ) (ps : List (List Digit)) → length l ≡ length ps → masks named l ≡ map mask ps → answer named l ≡ held ps
answer_held named l ps e h =
    ap₂ (λ (n : ℕ) (ms : List ℕ). pick {X = Found} (leb n 16) (record { ok = true; n = n; masks = padded ms }) (record { ok = false; n = 0; masks = replicate 16 0 })) e h

pub joined : (f t : List ℕ) (n named : ℕ) → Judged f t n → count (bits_of 22 named) ≡ n → collected t named ≡ complete named (function f)
unfolding collected complete
joined f t n named h e =
    let l = twos t (length t) in
    let a = all_primes f t n named h e in
    answer_held named l (primes 22 (λ s. function f (keep (bits_of 22 named) s)))
    (sym (length-map (map (digits n) l) (spread (bits_of 22 named)) ∙ length-map l (digits n)) ∙ ap length a)
    (masks_are named n l e ∙ ap (map mask) a)
