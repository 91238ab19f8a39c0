-- The primes of a function do not depend on pins that it does not depend on: the primes over all pins are those over the named pins, spread
-- out, in the same order. Two functions have the same primes exactly where they are the same function.
-- Assumes nothing.
use mathlib.Core.Path.{◌≡◌, refl, sym, ap, ap₂, ◌∙◌, fun_ext}
use mathlib.Core.Bool.{Bool, true, false, not, ◌&&◌, ◌||◌, and_self}
use mathlib.Core.List.{List, [], ◌∷◌, map}
use Prim.Native.Nat.{ℕ, zero, suc}
use native.Mathlib.Omega.{arith}
use lib.ListN.{length}
use Rattle.sums.specs.Product.{Digit, covers, imp, drops, any, filter, prime, expand, products, primes}
use Rattle.sums.specs.Product.Digit.{off, on, absent}
use Rattle.sums.specs.Named.{keep, spread, count}
use Rattle.basics.specs.Choice.{pick}
use Rattle.sums.proofs.Listing.{any_map}
use Rattle.sums.proofs.Complete.{complete}

-- no factor outside the named pins
unfoldable pub clean : List Bool → List Digit → Bool
clean [] p = true
clean (b ∷ m) [] = true
clean (true ∷ m) (d ∷ p) = clean m p
clean (false ∷ m) (off ∷ p) = false
clean (false ∷ m) (on ∷ p) = false
clean (false ∷ m) (absent ∷ p) = clean m p

imp_const : (p : List Digit) (b : Bool) → imp p (λ s. b) ≡ b
unfolding imp
imp_const [] b = refl
imp_const (off ∷ p) b = imp_const p b
imp_const (on ∷ p) b = imp_const p b
imp_const (absent ∷ p) b = ap₂ ◌&&◌ (imp_const p b) (imp_const p b) ∙ and_self b

keep_imp : (m : List Bool) (p : List Digit) (g : List Bool → Bool) → imp p (λ s. g (keep m s)) ≡ imp (keep m p) g
unfolding imp keep
keep_imp [] p g = imp_const p (g [])
keep_imp (b ∷ m) [] g = refl
keep_imp (true ∷ m) (off ∷ p) g = keep_imp m p (λ s. g (false ∷ s))
keep_imp (true ∷ m) (on ∷ p) g = keep_imp m p (λ s. g (true ∷ s))
keep_imp (true ∷ m) (absent ∷ p) g = ap₂ ◌&&◌ (keep_imp m p (λ s. g (false ∷ s))) (keep_imp m p (λ s. g (true ∷ s)))
keep_imp (false ∷ m) (off ∷ p) g = keep_imp m p g
keep_imp (false ∷ m) (on ∷ p) g = keep_imp m p g
keep_imp (false ∷ m) (absent ∷ p) g = ap₂ ◌&&◌ (keep_imp m p g) (keep_imp m p g) ∙ and_self (imp (keep m p) g)

swap : (a b c : Bool) → (a || (b || c)) ≡ (b || (a || c))
swap true true c = refl
swap true false c = refl
swap false true c = refl
swap false false c = refl

absorb : (a b c : Bool) → (a || (b && a || c)) ≡ (a || c)
absorb true b c = refl
absorb false true c = refl
absorb false false c = refl

-- a factor dropped outside the named pins leaves what is kept; one dropped at a named pin is dropped from what is kept
keep_drops : (m : List Bool) (p : List Digit) (h : List Digit → Bool) → length p ≡ length m
    → any (λ q. h (keep m q)) (drops p) ≡ (not (clean m p) && h (keep m p) || any h (drops (keep m p)))
unfolding any drops keep clean
keep_drops [] [] h e = refl
keep_drops [] (d ∷ p) h e = absurd (omega arith)
keep_drops (b ∷ m) [] h e = absurd (omega arith)
keep_drops (true ∷ m) (off ∷ p) h e =
    rw (any_map (λ q. h (keep (true ∷ m) q)) (λ q. off ∷ q) (drops p), any_map h (λ q. off ∷ q) (drops (keep m p)), keep_drops m p (λ q. h (off ∷ q)) (omega arith))
    (swap (h (absent ∷ keep m p)) (not (clean m p) && h (off ∷ keep m p)) (any (λ q. h (off ∷ q)) (drops (keep m p))))
keep_drops (true ∷ m) (on ∷ p) h e =
    rw (any_map (λ q. h (keep (true ∷ m) q)) (λ q. on ∷ q) (drops p), any_map h (λ q. on ∷ q) (drops (keep m p)), keep_drops m p (λ q. h (on ∷ q)) (omega arith))
    (swap (h (absent ∷ keep m p)) (not (clean m p) && h (on ∷ keep m p)) (any (λ q. h (on ∷ q)) (drops (keep m p))))
keep_drops (true ∷ m) (absent ∷ p) h e = rw (any_map (λ q. h (keep (true ∷ m) q)) (λ q. absent ∷ q) (drops p), any_map h (λ q. absent ∷ q) (drops (keep m p)), keep_drops m p (λ q. h (absent ∷ q)) (omega arith))
keep_drops (false ∷ m) (off ∷ p) h e =
    rw (any_map (λ q. h (keep (false ∷ m) q)) (λ q. off ∷ q) (drops p), keep_drops m p h (omega arith)) (absorb (h (keep m p)) (not (clean m p)) (any h (drops (keep m p))))
keep_drops (false ∷ m) (on ∷ p) h e =
    rw (any_map (λ q. h (keep (false ∷ m) q)) (λ q. on ∷ q) (drops p), keep_drops m p h (omega arith)) (absorb (h (keep m p)) (not (clean m p)) (any h (drops (keep m p))))
keep_drops (false ∷ m) (absent ∷ p) h e = rw (any_map (λ q. h (keep (false ∷ m) q)) (λ q. absent ∷ q) (drops p), keep_drops m p h (omega arith))

regroup : (c i a : Bool) → (i && not (not c && i || a)) ≡ (c && (i && not a))
regroup true true a = refl
regroup true false a = refl
regroup false true a = refl
regroup false false a = refl

-- a prime has no factor outside the named pins, and is a prime of the named pins
pub keep_prime : (m : List Bool) (p : List Digit) (g : List Bool → Bool) → length p ≡ length m
    → prime p (λ s. g (keep m s)) ≡ (clean m p && prime (keep m p) g)
unfolding prime
keep_prime m p g e =
    ap₂ (λ (i a : Bool). i && not a) (keep_imp m p g)
    (ap (λ (h : List Digit → Bool). any h (drops p)) (fun_ext (λ (q : List Digit). keep_imp m q g)) ∙ keep_drops m p (λ q. imp q g) e)
    ∙ regroup (clean m p) (imp (keep m p) g) (any (λ q. imp q g) (drops (keep m p)))

-- ---- lists

unfoldable pub Each : {A : Type 0} → (A → Type 0) → List A → Type 0
Each P [] = Unit {0}
Each P (x ∷ xs) = P x × Each P xs

filter_each : {A : Type 0} (P Q : A → Bool) (l : List A) → Each (λ x. P x ≡ Q x) l → filter P l ≡ filter Q l
unfolding filter Each
filter_each P Q [] h = refl
filter_each P Q (x ∷ xs) h = ap₂ (λ b l. pick b (x ∷ l) l) h.0 (filter_each P Q xs h.1)

each_expand : (n : ℕ) (ps : List (List Digit)) → Each (λ p. length p ≡ n) ps → Each (λ p. length p ≡ suc n) (expand ps)
unfolding Each expand
each_expand n [] h = tt
each_expand n (p ∷ ps) h = (ap suc h.0, (ap suc h.0, (ap suc h.0, each_expand n ps h.1)))

pub lengths : (n : ℕ) → Each (λ p. length p ≡ n) (products n)
unfolding Each products
lengths zero = (refl, tt)
lengths (suc n) = each_expand n (products n) (lengths n)

pub each_filter : {A : Type 0} (P : A → Type 0) (g : A → Bool) (l : List A) → Each P l → Each P (filter g l)
unfolding Each filter
each_filter P g [] h = tt
each_filter {A} P g (x ∷ xs) h = step (g x) (each_filter P g xs h.1)
  where
    step : (b : Bool) → Each P (filter g xs) → Each P (pick b (x ∷ filter g xs) (filter g xs))
    step true t = (h.0, t)
    step false t = t

-- every prime has a digit for each variable
pub primes_long : (n : ℕ) (f : List Bool → Bool) → Each (λ p. length p ≡ n) (primes n f)
unfolding primes
primes_long n f = each_filter (λ p. length p ≡ n) (λ p. prime p f) (products n) (lengths n)

pub each_map : {A : Type 0} (P Q : A → Type 0) (l : List A) → ((x : A) → P x → Q x) → Each P l → Each Q l
unfolding Each
each_map P Q [] f h = tt
each_map P Q (x ∷ xs) f h = (f x h.0, each_map P Q xs f h.1)

-- two tests that agree on products of n pins filter them alike
pub filter_products : (n : ℕ) (P Q : List Digit → Bool) → ((p : List Digit) → length p ≡ n → P p ≡ Q p) → filter P (products n) ≡ filter Q (products n)
filter_products n P Q h = filter_each P Q (products n) (each_map (λ p. length p ≡ n) (λ p. P p ≡ Q p) (products n) h (lengths n))

pub filter_and : {A : Type 0} (a b : A → Bool) (l : List A) → filter (λ x. a x && b x) l ≡ filter b (filter a l)
unfolding filter
filter_and a b [] = refl
filter_and {A} a b (x ∷ xs) = step (a x) (filter_and a b xs)
  where
    step : (c : Bool) → filter (λ x. a x && b x) xs ≡ filter b (filter a xs)
        → pick (c && b x) (x ∷ filter (λ x. a x && b x) xs) (filter (λ x. a x && b x) xs) ≡ filter b (pick c (x ∷ filter a xs) (filter a xs))
    step true e = ap (λ (l : List A). pick (b x) (x ∷ l) l) e
    step false e = e

pub filter_map : {A B : Type 0} (b : B → Bool) (h : A → B) (l : List A) → filter b (map h l) ≡ map h (filter (λ x. b (h x)) l)
unfolding filter
filter_map b h [] = refl
filter_map {A} {B} b h (x ∷ xs) = step (b (h x)) (filter_map b h xs)
  where
    step : (c : Bool) → filter b (map h xs) ≡ map h (filter (λ x. b (h x)) xs)
        → pick c (h x ∷ filter b (map h xs)) (filter b (map h xs)) ≡ map h (pick c (x ∷ filter (λ x. b (h x)) xs) (filter (λ x. b (h x)) xs))
    step true e = ap (λ (l : List B). h x ∷ l) e
    step false e = e

-- the products with no factor outside the named pins are those of the named pins, in order
clean_in : (m : List Bool) (ps : List (List Digit)) → filter (clean (true ∷ m)) (expand ps) ≡ expand (filter (clean m) ps)
unfolding filter expand clean
clean_in m [] = refl
clean_in m (p ∷ ps) = step (clean m p) (clean_in m ps)
  where
    step : (c : Bool) → filter (clean (true ∷ m)) (expand ps) ≡ expand (filter (clean m) ps)
        → pick c ((off ∷ p) ∷ pick c ((on ∷ p) ∷ pick c ((absent ∷ p) ∷ filter (clean (true ∷ m)) (expand ps)) (filter (clean (true ∷ m)) (expand ps))) (pick c ((absent ∷ p) ∷ filter (clean (true ∷ m)) (expand ps)) (filter (clean (true ∷ m)) (expand ps)))) (pick c ((on ∷ p) ∷ pick c ((absent ∷ p) ∷ filter (clean (true ∷ m)) (expand ps)) (filter (clean (true ∷ m)) (expand ps))) (pick c ((absent ∷ p) ∷ filter (clean (true ∷ m)) (expand ps)) (filter (clean (true ∷ m)) (expand ps)))) ≡ expand (pick c (p ∷ filter (clean m) ps) (filter (clean m) ps))
    step true e = ap (λ (l : List (List Digit)). (off ∷ p) ∷ (on ∷ p) ∷ (absent ∷ p) ∷ l) e
    step false e = e

clean_out : (m : List Bool) (ps : List (List Digit)) → filter (clean (false ∷ m)) (expand ps) ≡ map (λ p. absent ∷ p) (filter (clean m) ps)
unfolding filter expand clean
clean_out m [] = refl
clean_out m (p ∷ ps) = step (clean m p) (clean_out m ps)
  where
    step : (c : Bool) → filter (clean (false ∷ m)) (expand ps) ≡ map (λ p. absent ∷ p) (filter (clean m) ps)
        → pick c ((absent ∷ p) ∷ filter (clean (false ∷ m)) (expand ps)) (filter (clean (false ∷ m)) (expand ps)) ≡ map (λ p. absent ∷ p) (pick c (p ∷ filter (clean m) ps) (filter (clean m) ps))
    step true e = ap (λ (l : List (List Digit)). (absent ∷ p) ∷ l) e
    step false e = e

expand_spread : (m : List Bool) (ps : List (List Digit)) → expand (map (spread m) ps) ≡ map (spread (true ∷ m)) (expand ps)
unfolding expand spread
expand_spread m [] = refl
expand_spread m (p ∷ ps) = ap (λ (l : List (List Digit)). (off ∷ spread m p) ∷ (on ∷ spread m p) ∷ (absent ∷ spread m p) ∷ l) (expand_spread m ps)

map_absent : (m : List Bool) (ps : List (List Digit)) → map (λ p. absent ∷ p) (map (spread m) ps) ≡ map (spread (false ∷ m)) ps
unfolding spread
map_absent m [] = refl
map_absent m (p ∷ ps) = ap (λ (l : List (List Digit)). (absent ∷ spread m p) ∷ l) (map_absent m ps)

clean_products : (m : List Bool) → filter (clean m) (products (length m)) ≡ map (spread m) (products (count m))
unfolding filter clean products spread count
clean_products [] = refl
clean_products (true ∷ m) = clean_in m (products (length m)) ∙ ap expand (clean_products m) ∙ expand_spread m (products (count m))
clean_products (false ∷ m) = clean_out m (products (length m)) ∙ ap (map (λ p. absent ∷ p)) (clean_products m) ∙ map_absent m (products (count m))

keep_spread : (m : List Bool) (p : List Digit) → length p ≡ count m → keep m (spread m p) ≡ p
unfolding keep spread count
keep_spread [] [] e = refl
keep_spread [] (d ∷ p) e = absurd (omega arith)
keep_spread (false ∷ m) p e = keep_spread m p e
keep_spread (true ∷ m) [] e = absurd (omega arith)
keep_spread (true ∷ m) (d ∷ p) e = ap (λ (l : List Digit). d ∷ l) (keep_spread m p (omega arith))

-- THE THEOREM: the primes over all pins are the primes over the named pins, spread out, in the same order
pub primes_named : (m : List Bool) (g : List Bool → Bool) → primes (length m) (λ s. g (keep m s)) ≡ map (spread m) (primes (count m) g)
unfolding primes
primes_named m g =
    filter_products (length m) (λ p. prime p (λ s. g (keep m s))) (λ p. clean m p && prime (keep m p) g) (λ p e. keep_prime m p g e)
    ∙ filter_and (clean m) (λ p. prime (keep m p) g) (products (length m))
    ∙ ap (filter (λ p. prime (keep m p) g)) (clean_products m)
    ∙ filter_map (λ p. prime (keep m p) g) (spread m) (products (count m))
    ∙ ap (map (spread m))
    (filter_products (count m) (λ p. prime (keep m (spread m p)) g) (λ p. prime p g) (λ p e. ap (λ (q : List Digit). prime q g) (keep_spread m p e)))

-- ---- the same function, the same rows

-- what holds of f at all settings of n pins decides its implicants and primes of n pins
imp_ext : (p : List Digit) (f g : List Bool → Bool) → ((s : List Bool) → length s ≡ length p → f s ≡ g s) → imp p f ≡ imp p g
unfolding imp
imp_ext [] f g h = h [] refl
imp_ext (off ∷ p) f g h = imp_ext p (λ s. f (false ∷ s)) (λ s. g (false ∷ s)) (λ s e. h (false ∷ s) (ap suc e))
imp_ext (on ∷ p) f g h = imp_ext p (λ s. f (true ∷ s)) (λ s. g (true ∷ s)) (λ s e. h (true ∷ s) (ap suc e))
imp_ext (absent ∷ p) f g h =
    ap₂ ◌&&◌ (imp_ext p (λ s. f (false ∷ s)) (λ s. g (false ∷ s)) (λ s e. h (false ∷ s) (ap suc e)))
    (imp_ext p (λ s. f (true ∷ s)) (λ s. g (true ∷ s)) (λ s e. h (true ∷ s) (ap suc e)))

any_drops : (p : List Digit) (a b : List Digit → Bool) → ((q : List Digit) → length q ≡ length p → a q ≡ b q) → any a (drops p) ≡ any b (drops p)
unfolding any drops
any_drops [] a b h = refl
any_drops (off ∷ p) a b h =
    ap₂ ◌||◌ (h (absent ∷ p) refl)
    (any_map a (λ q. off ∷ q) (drops p) ∙ any_drops p (λ q. a (off ∷ q)) (λ q. b (off ∷ q)) (λ q e. h (off ∷ q) (ap suc e)) ∙ sym (any_map b (λ q. off ∷ q) (drops p)))
any_drops (on ∷ p) a b h =
    ap₂ ◌||◌ (h (absent ∷ p) refl)
    (any_map a (λ q. on ∷ q) (drops p) ∙ any_drops p (λ q. a (on ∷ q)) (λ q. b (on ∷ q)) (λ q e. h (on ∷ q) (ap suc e)) ∙ sym (any_map b (λ q. on ∷ q) (drops p)))
any_drops (absent ∷ p) a b h =
    any_map a (λ q. absent ∷ q) (drops p) ∙ any_drops p (λ q. a (absent ∷ q)) (λ q. b (absent ∷ q)) (λ q e. h (absent ∷ q) (ap suc e)) ∙ sym (any_map b (λ q. absent ∷ q) (drops p))

prime_ext : (p : List Digit) (f g : List Bool → Bool) → ((s : List Bool) → length s ≡ length p → f s ≡ g s) → prime p f ≡ prime p g
unfolding prime
prime_ext p f g h =
    ap₂ (λ (i a : Bool). i && not a) (imp_ext p f g h)
    (any_drops p (λ q. imp q f) (λ q. imp q g) (λ q e. imp_ext q f g (λ s k. h s (k ∙ e))))

pub primes_ext : (n : ℕ) (f g : List Bool → Bool) → ((s : List Bool) → length s ≡ n → f s ≡ g s) → primes n f ≡ primes n g
unfolding primes
primes_ext n f g h = filter_products n (λ p. prime p f) (λ p. prime p g) (λ p e. prime_ext p f g (λ s k. h s (k ∙ e)))

-- THE THEOREM: two functions of some of n pins have the same list of primes over all n pins exactly where they agree at every setting of the n pins
module _ (n : ℕ) (m₁ m₂ : List Bool) (l₁ : length m₁ ≡ n) (l₂ : length m₂ ≡ n) (g₁ g₂ : List Bool → Bool) where
  pub same_rows : ((s : List Bool) → length s ≡ n → g₁ (keep m₁ s) ≡ g₂ (keep m₂ s)) → map (spread m₁) (primes (count m₁) g₁) ≡ map (spread m₂) (primes (count m₂) g₂)
  same_rows h =
      sym (primes_named m₁ g₁)
      ∙ ap (λ (k : ℕ). primes k (λ s. g₁ (keep m₁ s))) l₁
      ∙ primes_ext n (λ s. g₁ (keep m₁ s)) (λ s. g₂ (keep m₂ s)) h
      ∙ ap (λ (k : ℕ). primes k (λ s. g₂ (keep m₂ s))) (sym l₂)
      ∙ primes_named m₂ g₂

  pub same_function : map (spread m₁) (primes (count m₁) g₁) ≡ map (spread m₂) (primes (count m₂) g₂) → (s : List Bool) → length s ≡ n → g₁ (keep m₁ s) ≡ g₂ (keep m₂ s)
  same_function h s e =
      complete (length m₁) (λ s. g₁ (keep m₁ s)) s (e ∙ sym l₁)
      ∙ ap (any (λ p. covers p s)) (primes_named m₁ g₁ ∙ h ∙ sym (primes_named m₂ g₂))
      ∙ sym (complete (length m₂) (λ s. g₂ (keep m₂ s)) s (e ∙ sym l₂))

-- THE THEOREM, of functions of the same n variables: the same list of primes exactly where the same function
pub same_primes : (n : ℕ) (f g : List Bool → Bool) → primes n f ≡ primes n g → (s : List Bool) → length s ≡ n → f s ≡ g s
same_primes n f g h s e = complete n f s e ∙ ap (any (λ p. covers p s)) h ∙ sym (complete n g s e)
