-- Where REG may stand: at the top of an OUT's equation, or under one ~ there (document 01, "The language we take", refusal 8). On trees, and on
-- their nodes; the two agree (laws `plain_flat`, `placed_flat`). Brackets leave no node. Assumes nothing.
use Rattle.std.specs.Prelude.{Bool, true, false, not, ◌&&◌, ◌||◌, List, [], ◌∷◌, ℕ, eqb}
use Rattle.trees.specs.Tree.{Tree}
use Rattle.trees.specs.Tree.Tree.{name, low, high, neg, conj, disj, differ, mux, reg, held}
use Rattle.reach.specs.Uses.{is_reg}

-- no REG at all: what a VAR's equation has to be
unfoldable pub plain : Tree → Bool
plain (name k) = true
plain low = true
plain high = true
plain (neg t) = plain t
plain (conj t u) = plain t && plain u
plain (disj t u) = plain t && plain u
plain (differ t u) = plain t && plain u
plain (mux s a b) = plain s && (plain a && plain b)
plain (reg d) = false
plain (held e d) = false

-- REG at the top only
unfoldable pub topped : Tree → Bool
topped (name k) = true
topped low = true
topped high = true
topped (neg t) = plain t
topped (conj t u) = plain t && plain u
topped (disj t u) = plain t && plain u
topped (differ t u) = plain t && plain u
topped (mux s a b) = plain s && (plain a && plain b)
topped (reg d) = plain d
topped (held e d) = plain e && plain d

-- or under one ~ there
unfoldable pub placed : Tree → Bool
placed (name k) = true
placed low = true
placed high = true
placed (neg t) = topped t
placed (conj t u) = plain t && plain u
placed (disj t u) = plain t && plain u
placed (differ t u) = plain t && plain u
placed (mux s a b) = plain s && (plain a && plain b)
placed (reg d) = plain d
placed (held e d) = plain e && plain d

-- the same over nodes: no REG among them, or only as the last one, or as the last one before a ~ at the end
unfoldable pub plain_n : List ℕ → Bool
plain_n [] = true
plain_n (c ∷ ns) = not (is_reg c) && plain_n ns

unfoldable pub placed_n : List ℕ → Bool
placed_n [] = true
placed_n (c ∷ []) = true
placed_n (c ∷ d ∷ []) = not (is_reg c) || eqb d 2
placed_n (c ∷ d ∷ e ∷ ns) = not (is_reg c) && placed_n (d ∷ e ∷ ns)
