-- A name looked for among those of its list before, a word at a time: a name, a comma, the name itself.
-- Assumes nothing.
use mathlib.Core.Path.{◌≡◌, refl, ap}
use mathlib.Core.Bool.{Bool, true, false, ◌||◌}
use mathlib.Core.List.{List}
use Prim.Native.Nat.{ℕ, ◌-◌, ◌<◌, ◌≤◌}
use native.Mathlib.Omega.{arith}
use lib.Dec.{leb}
use borrow.Author.Tests.{le-leb, lt-leb}
use Rattle.words.specs.declared.Cursor.{Cursor}
use Rattle.words.specs.Taken.{Word}
use Rattle.words.specs.Words.{next_word}
use Rattle.names.specs.Names.{spelling, same}
use Rattle.grammar.specs.Outcome.{ok, more, last}
use Rattle.lists.specs.Lists.{back_turn, is_back}
use Rattle.lists.proofs.Laws.{back, back_more, back_last}
use Rattle.lists.proofs.Spelt.{Lies, name_lies, comma_lies, comma_unlike}

pub nearer : (s : List ℕ) (i at st e : ℕ) (b : Bool) → i ≤ at → Lies s at st e b → Lies s i st e b
nearer s i at st e b l h = let o : at ≤ st = h.behind in record { behind = omega arith; some = h.some; within = h.within; first = h.first }

module _ (s : List ℕ) where
  module _ (at st v : ℕ) (c : Cursor) where
    -- a name that was before: it is the one that is looked for, or the walk goes on behind it
    pub back_name : next_word s at ≡ Word 1 st v c → (st' e' : ℕ) → Lies s c.at st' e' true
        → is_back (back s st' e' at) ≡ (same (spelling s st (c.at - st)) (spelling s st' (e' - st')) || is_back (back s st' e' c.at))
    back_name q st' e' h = go (same (spelling s st (c.at - st)) (spelling s st' (e' - st'))) refl
      where
        ahead : leb st' st ≡ false
        ahead =
            let o₁ : st < c.at = (name_lies s at 1 st v c q refl).some in
            let o₂ : c.at ≤ st' = h.behind in
            lt-leb st' st (omega arith)

        turned-last : same (spelling s st (c.at - st)) (spelling s st' (e' - st')) ≡ true → back_turn s st' e' 0 at tt ≡ last (ok 1 c.at tt)
        turned-last b = unfold back_turn in rw (q, ahead, b) refl

        turned_more : same (spelling s st (c.at - st)) (spelling s st' (e' - st')) ≡ false → back_turn s st' e' 0 at tt ≡ more 0 c.at tt
        turned_more b = unfold back_turn in rw (q, ahead, b) refl

        go : (b : Bool) → same (spelling s st (c.at - st)) (spelling s st' (e' - st')) ≡ b → is_back (back s st' e' at) ≡ (b || is_back (back s st' e' c.at))
        go true b = ap is_back (back_last s st' e' at (ok 1 c.at tt) (turned-last b))
        go false b = ap is_back (back_more s st' e' at c.at (turned_more b))

    -- a comma is passed over
    pub back_comma : next_word s at ≡ Word 44 st v c → (st' e' : ℕ) → Lies s c.at st' e' true → back s st' e' at ≡ back s st' e' c.at
    back_comma q st' e' h = back_more s st' e' at c.at turned_on
      where
        comma : Lies s at st c.at false
        comma = comma_lies s at 44 st v c q refl

        ahead : leb st' st ≡ false
        ahead =
            let o₁ : st < c.at = comma.some in
            let o₂ : c.at ≤ st' = h.behind in
            lt-leb st' st (omega arith)

        turned_on : back_turn s st' e' 0 at tt ≡ more 0 c.at tt
        turned_on = unfold back_turn in rw (q, ahead, comma_unlike s at st c.at c.at st' e' comma h) refl

    -- at the name itself the walk ends
    pub back_self : next_word s at ≡ Word 1 st v c → (e : ℕ) → is_back (back s st e at) ≡ false
    back_self q e = ap is_back (back_last s st e at (ok 0 c.at tt) turned-last)
      where
        here : leb st st ≡ true
        here = le-leb st st (omega arith)

        turned-last : back_turn s st e 0 at tt ≡ last (ok 0 c.at tt)
        turned-last = unfold back_turn in rw (q, here) refl
