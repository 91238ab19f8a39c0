-- Reserved words: a search of the table gives what the definitions by length give. Assumes nothing.
use Rattle.std.proofs.Common.{◌≡◌, ℕ, zero, suc, ◌+◌, ◌-◌, ◌<◌, ◌≤◌, refl, sym, ap, ◌∙◌, Bool, true, false, ◌&&◌, List, [], ◌∷◌, ◌++◌, length, get_or, take, drop, eqb, Bor, add-one, arith, drop-cons}
use lib.Dec.{eqb-zero-suc, eqb-suc-zero, eqb-suc-suc}
use lib.ListN.{drop_of_length-le, length-drop}
use lib.Seq.{take-nil, length-take-le}
use lib.Pointwise.{pointwise}
use borrow.Author.Tests.{ne_eqb, eqb-true}
use Rattle.basics.specs.Choice.{pick}
use Rattle.basics.specs.Text.{text}
use Rattle.words.specs.declared.Kind.{Kind}
use Rattle.words.specs.declared.Kind.TheVariants.{Do, In, Ts, Oc, Sr, If, For, End, Div, Mod, Mux, Reg, Out, Var, Bit, «Type», Then, Else, Const, Begin, Inout, Latch, Clock, Elsif, Module, Import}
use Rattle.words.specs.Kinds.{code, listed, looked}
use Rattle.words.specs.Words.{prefixed, of_two, of_three, of_four, of_five, of_six, keyword_of}

equal_prefixed : (s w : List ℕ) → pointwise eqb s w ≡ (eqb (length s) (length w) && prefixed w s)
unfolding prefixed
equal_prefixed [] [] = refl
equal_prefixed [] (b ∷ w) = rw eqb-zero-suc refl
equal_prefixed (a ∷ s) [] = rw eqb-suc-zero refl
equal_prefixed (a ∷ s) (b ∷ w) = rw (eqb-suc-suc, equal_prefixed s w) (swap (eqb a b) (eqb (length s) (length w)) (prefixed w s))
  where
    swap : (x y z : Bool) → (x && (y && z)) ≡ (y && (x && z))
    swap true y z = refl
    swap false true z = refl
    swap false false z = refl

-- the same by the length of the name and the bytes in front
unfoldable nested : ℕ → List ℕ → List (List ℕ × Kind) → ℕ
nested n s [] = 1
nested n s (e ∷ t) =
    let r : ℕ = nested n s t in
    pick (eqb n (length e.0) && prefixed e.0 s) (code e.1) r

listed_nested : (s : List ℕ) (t : List (List ℕ × Kind)) → listed s t ≡ nested (length s) s t
unfolding listed nested
listed_nested s [] = refl
listed_nested s (e ∷ t) = rw (equal_prefixed s e.0, listed_nested s t) refl

abbrev two : List (List ℕ × Kind)
two = (text "DO", Do) ∷ (text "IN", In) ∷ (text "TS", Ts) ∷ (text "OC", Oc) ∷ (text "SR", Sr) ∷ (text "IF", If) ∷ []

abbrev three : List (List ℕ × Kind)
three = (text "FOR", For) ∷ (text "END", End) ∷ (text "DIV", Div) ∷ (text "MOD", Mod) ∷ (text "MUX", Mux) ∷ (text "REG", Reg) ∷ (text "OUT", Out) ∷ (text "VAR", Var) ∷ (text "BIT", Bit) ∷ []

abbrev four : List (List ℕ × Kind)
four = (text "TYPE", «Type») ∷ (text "THEN", Then) ∷ (text "ELSE", Else) ∷ []

abbrev five : List (List ℕ × Kind)
five = (text "CONST", Const) ∷ (text "BEGIN", Begin) ∷ (text "INOUT", Inout) ∷ (text "LATCH", Latch) ∷ (text "CLOCK", Clock) ∷ (text "ELSIF", Elsif) ∷ []

abbrev six : List (List ℕ × Kind)
six = (text "MODULE", Module) ∷ (text "IMPORT", Import) ∷ []

-- the words of all lengths
abbrev table : List (List ℕ × Kind)
table = two ++ (three ++ (four ++ (five ++ six)))

by_length : (n : ℕ) (s : List ℕ) → nested n s table ≡ keyword_of s n
unfolding nested keyword_of of_two of_three of_four of_five of_six
by_length zero s = refl
by_length (suc zero) s = refl
by_length (suc (suc zero)) s = refl
by_length (suc (suc (suc zero))) s = refl
by_length (suc (suc (suc (suc zero)))) s = refl
by_length (suc (suc (suc (suc (suc zero))))) s = refl
by_length (suc (suc (suc (suc (suc (suc zero)))))) s = refl
by_length (suc (suc (suc (suc (suc (suc (suc n))))))) s =
    let m : ℕ = suc (suc (suc (suc (suc (suc (suc n)))))) in
    let e2 : eqb m 2 ≡ false = ne_eqb _ _ (λ e. omega arith) in
    let e3 : eqb m 3 ≡ false = ne_eqb _ _ (λ e. omega arith) in
    let e4 : eqb m 4 ≡ false = ne_eqb _ _ (λ e. omega arith) in
    let e5 : eqb m 5 ≡ false = ne_eqb _ _ (λ e. omega arith) in
    let e6 : eqb m 6 ≡ false = ne_eqb _ _ (λ e. omega arith) in
    simp (e2, e3, e4, e5, e6)

-- the words of its length alone say what a name is
module _ (s : List ℕ) where
  pub two_says : length s ≡ 2 → listed s two ≡ keyword_of s (length s)
  unfolding nested keyword_of of_two
  two_says e = listed_nested s two ∙ rw e refl

  pub three_says : length s ≡ 3 → listed s three ≡ keyword_of s (length s)
  unfolding nested keyword_of of_three
  three_says e = listed_nested s three ∙ rw e refl

  pub four_says : length s ≡ 4 → listed s four ≡ keyword_of s (length s)
  unfolding nested keyword_of of_four
  four_says e = listed_nested s four ∙ rw e refl

  pub five_says : length s ≡ 5 → listed s five ≡ keyword_of s (length s)
  unfolding nested keyword_of of_five
  five_says e = listed_nested s five ∙ rw e refl

  pub six_says : length s ≡ 6 → listed s six ≡ keyword_of s (length s)
  unfolding nested keyword_of of_six
  six_says e = listed_nested s six ∙ rw e refl

  pub other_says : (length s ≡ 2 → ⊥) → (length s ≡ 3 → ⊥) → (length s ≡ 4 → ⊥) → (length s ≡ 5 → ⊥) → (length s ≡ 6 → ⊥) → 1 ≡ keyword_of s (length s)
  unfolding keyword_of
  other_says a b c d e = simp (ne_eqb _ _ a, ne_eqb _ _ b, ne_eqb _ _ c, ne_eqb _ _ d, ne_eqb _ _ e)

-- a name alone, and with what stands behind it
prefixed_take : (w s : List ℕ) (n : ℕ) → length w ≤ n → prefixed w (take n s) ≡ prefixed w s
unfolding prefixed
prefixed_take [] s n h = refl
prefixed_take (b ∷ w) [] n h = rw take-nil refl
prefixed_take (b ∷ w) (a ∷ s) zero h = absurd (omega arith)
prefixed_take (b ∷ w) (a ∷ s) (suc n) h = ap (λ (r : Bool). eqb a b && r) (prefixed_take w s n (omega arith))

same_length : (n : ℕ) (w s : List ℕ) (b : Bool) → eqb n (length w) ≡ b → (eqb n (length w) && prefixed w (take n s)) ≡ (eqb n (length w) && prefixed w s)
same_length n w s true q =
    let l : n ≡ length w = eqb-true _ _ q in
    ap (λ (r : Bool). eqb n (length w) && r) (prefixed_take w s n (omega arith))
same_length n w s false q = rw q refl

nested_take : (n : ℕ) (s : List ℕ) (t : List (List ℕ × Kind)) → nested n (take n s) t ≡ nested n s t
unfolding nested
nested_take n s [] = refl
nested_take n s (e ∷ t) =
    rw (nested_take n s t) (ap (λ (b : Bool). pick b (code e.1) (nested n s t)) (same_length n e.0 s (eqb n (length e.0)) refl))

keyword_take : (n : ℕ) (s : List ℕ) → keyword_of (take n s) n ≡ keyword_of s n
keyword_take n s = sym (by_length n (take n s)) ∙ nested_take n s table ∙ by_length n s

pub name_length : (s : List ℕ) (st e : ℕ) → st ≤ e → e ≤ length s → length (take (e - st) (drop st s)) ≡ e - st
name_length s st e h k = length-take-le (e - st) (drop st s) (simp length-drop (omega arith))

-- the kind of the name from st to e
pub keyword_taken : (s : List ℕ) (st e : ℕ) → st ≤ e → e ≤ length s → keyword_of (take (e - st) (drop st s)) (length (take (e - st) (drop st s))) ≡ keyword_of (drop st s) (e - st)
keyword_taken s st e h k = rw (name_length s st e h k) (keyword_take (e - st) (drop st s))

-- at a place of the table
module _ (s : List ℕ) (t : List (Bor (List ℕ) × Kind)) (i : ℕ) (d : Bor (List ℕ) × Kind) (h : i < length t) where
  pub looked_here : pointwise eqb s (get_or t i d).0.now ≡ true → looked s (drop i t) ≡ code (get_or t i d).1
  unfolding listed
  looked_here e = rw (drop-cons t i d) (simp e)

  pub looked_past : pointwise eqb s (get_or t i d).0.now ≡ false → looked s (drop i t) ≡ looked s (drop (i + 1) t)
  unfolding listed
  looked_past e = rw (drop-cons t i d) (simp (e, add-one))

pub looked_none : (s : List ℕ) (t : List (Bor (List ℕ) × Kind)) (i : ℕ) → length t ≤ i → looked s (drop i t) ≡ 1
unfolding listed
looked_none s t i h = rw (drop_of_length-le t h) refl
