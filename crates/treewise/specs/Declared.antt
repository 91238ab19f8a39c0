-- Stage 3 on the tree of a module: its declarations in the order of the text. Document 01, 'The language we take' and 'Refusal numbers', order (3): in
-- one list the names, then the length, then the count of signals; decisions 17, 18. The text is at hand for the spelling of names, and for the place of
-- a length's first word. Assumes nothing.
use Rattle.std.specs.Prelude.{ℕ, ◌+◌, ◌-◌, Bool, ◌||◌, List, [], get_or, set, leb, ℤ, pos}
use Rattle.basics.specs.Choice.{pick}
use Rattle.words.specs.Taken.{Taken}
use Rattle.words.specs.Taken.{Word, Refused}
use Rattle.words.specs.Words.{next_word}
use Rattle.names.specs.Names.{looked_up, extended, spelling, same}
use Rattle.grammar.specs.Outcome.{Built, built, bad, and_built}
use Rattle.grammar.specs.Trees.{Tree, eval}
use Rattle.grammar.specs.Forms.{Names, first_name, and_name, Shape, bit, array, Declarations, undeclared, constant, signals}
use Rattle.judging.specs.Reading.{State, reads}
use Rattle.parts.specs.Parts.{elements_at, constants_at, allows, one_more, declared_from}
use Rattle.simple.specs.Statements.{upward}
use Rattle.lists.specs.Lists.{is_known, is_length}
use Rattle.declare.specs.Declarations.{with_constant, width_of}

-- whether the names of a list are new: the first that is not, by its place
pub data Fresh : Type 0 where
  new : Fresh
  old : ℕ → Fresh

abbrev pub also_new : Fresh → Fresh → Fresh
also_new new f = f
also_new (old p) f = old p

abbrev pub unless_old : {A : Type 0} → Fresh → State → Built State A → Built State A
unless_old new x b = b
unless_old (old p) x b = bad 4 p x

-- where a word starts
abbrev pub start_of : Taken → ℕ
start_of (Word k st v c) = st
start_of (Refused n p) = p

-- the elements of the name from st to e, of class c and length n, behind those that there are: at most 64
unfoldable pub element_in : ℕ → ℕ → List ℕ → ℕ → ℕ → State → Built State (List ℕ)
element_in c n t st e x =
    let m : ℕ = get_or x.0 elements_at 0 in
    pick (leb (m + width_of n) 64)
    (built (extended t st (e - st) 2 m n) (set (declared_from x.0 c st m (width_of n)) elements_at (m + width_of n), x.1))
    (bad 6 st x)

-- those of each name of a list
unfoldable pub elements_in : ℕ → ℕ → List ℕ → Names → State → Built State (List ℕ)
elements_in c n t (first_name st e) x = element_in c n t st e x
elements_in c n t (and_name l st e) x = and_built (elements_in c n t l x) (λ u y. element_in c n u st e y)

module _ (s : List ℕ) where
  -- whether the name from st to e is among those of a list
  unfoldable pub stands_in : Names → ℕ → ℕ → Bool
  stands_in (first_name st' e') st e = same (spelling s st' (e' - st')) (spelling s st (e - st))
  stands_in (and_name l st' e') st e = stands_in l st e || same (spelling s st' (e' - st')) (spelling s st (e - st))

  -- a name is new where it is none of the names t and none before it in its list
  unfoldable pub fresh_in : List ℕ → Names → Fresh
  fresh_in t (first_name st e) = pick (is_known (looked_up s t st (e - st))) (old st) new
  fresh_in t (and_name l st e) = also_new (fresh_in t l) (pick (is_known (looked_up s t st (e - st)) || stands_in l st e) (old st) new)

  -- the length of a type, 0 for BIT: 1 to 32, else 5 at its first word
  unfoldable pub length_in : List ℕ → Shape → State → Built State ℤ
  length_in t bit x = built (pos 0) x
  length_in t (array at v) x =
      and_built (eval (reads s t) 1 v x) (λ z y. pick (is_length z) (built z y) (bad 5 (start_of (next_word s at)) y))

  -- a list of signals of class c: the names, then the length, then the count
  unfoldable pub signals_in : List ℕ → ℕ → Names → Shape → State → Built State (List ℕ)
  signals_in t c l y x = unless_old (fresh_in t l) x (and_built (length_in t y x) (λ z x. elements_in c (upward z) t l x))

  -- a constant: its name is new, then there are at most 32, then its value
  unfoldable pub constant_in : List ℕ → ℕ → ℕ → Tree → State → Built State (List ℕ)
  constant_in t st e w x =
      pick (is_known (looked_up s t st (e - st))) (bad 4 st x)
      (pick (allows x.0 constants_at 32)
      (and_built (eval (reads s t) 1 w (one_more x.0 constants_at 32, x.1)) (λ z y. built (with_constant t st e z) y))
      (bad 6 st x))

  -- declarations, each among the names of those before it; class 1 is IN, 2 OUT, 3 VAR, the words 209 to 211
  unfoldable pub declared_in : Declarations → State → Built State (List ℕ)
  declared_in undeclared x = built [] x
  declared_in (constant v st e w) x = and_built (declared_in v x) (λ t y. constant_in t st e w y)
  declared_in (signals v k l y) x = and_built (declared_in v x) (λ t x. signals_in t (k - 208) l y x)
