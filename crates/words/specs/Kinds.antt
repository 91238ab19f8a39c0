-- Words by kind, and their kinds by number: 0 the end, 1 a name, 2 a number, 3 a logic value, 4 a literal above 65,535, a symbol of one byte by that
-- byte, 174 `..`, 186 `::`, 189 `:=`, reserved words from 200 on. Assumes nothing.
use lib.Pointwise.{pointwise}
use Rattle.std.specs.Borrow.{Bor}
use Rattle.std.specs.Prelude.{ℕ, ◌+◌, ◌||◌, drop, get_or, eqb, ltb, List, [], ◌∷◌, Result, Ok, Err, Option, Some, None}
use Rattle.basics.specs.Choice.{pick}
use Rattle.basics.specs.Refusal.{number_of}
use Rattle.basics.specs.declared.refusal.Refusal.{Refusal}
use Rattle.basics.specs.declared.refusal.Reason.TheVariants.{Grammar}
use Rattle.words.specs.declared.Kind.{Kind}
use Rattle.words.specs.declared.Kind.TheVariants.{TextEnd, Name, Number, Logic, Large, Open, Close, Star, Plus, Comma, Minus, Dot, Colon, Semicolon, OpenSquare, CloseSquare, Caret, Tilde, Range, Place, Becomes, For, Do, End, Div, Mod, Mux, Reg, Module, Const, In, Out, Var, Begin, Bit, «Type», Import, Inout, Ts, Oc, Latch, Sr, Clock, If, Then, Elsif, Else}
use Rattle.words.specs.declared.Word.{Word as Held}
use Rattle.words.specs.Taken.{Taken, Word, Refused, Gap, Here, Cut}
use Rattle.words.specs.Bytes.{is_single, is_pair}
use Rattle.words.specs.Words.{gap, word, value_of, pair_at, logic_at}

-- the number of each kind
abbrev pub code : Kind → ℕ
code TextEnd = 0
code Name = 1
code Number = 2
code Logic = 3
code Large = 4
code Open = 40
code Close = 41
code Star = 42
code Plus = 43
code Comma = 44
code Minus = 45
code Dot = 46
code Colon = 58
code Semicolon = 59
code OpenSquare = 91
code CloseSquare = 93
code Caret = 94
code Tilde = 126
code Range = 174
code Place = 186
code Becomes = 189
code For = 200
code Do = 201
code End = 202
code Div = 203
code Mod = 204
code Mux = 205
code Reg = 206
code Module = 207
code Const = 208
code In = 209
code Out = 210
code Var = 211
code Begin = 212
code Bit = 213
code «Type» = 220
code Import = 221
code Inout = 222
code Ts = 223
code Oc = 224
code Latch = 225
code Sr = 226
code Clock = 227
code If = 228
code Then = 229
code Elsif = 230
code Else = 231

-- what the code answers
abbrev pub taken : Result Held Refusal → Taken
taken (Ok w) = Word (code w.kind) w.start w.value w.next
taken (Err r) = Refused (number_of r.reason) r.place

-- what the code answers of the gap before a word: where the word starts, or refusal 2 where the text ends
abbrev pub gapped : Gap → Result ℕ Refusal
gapped (Here p) = Ok p
gapped (Cut p) = Err (record { reason = Grammar; place = p })

-- and past a comment: the gap goes on there
abbrev pub past_comment : List ℕ → Result ℕ Refusal → Result ℕ Refusal
past_comment s (Ok p) = gapped (gap 0 (drop p s) p)
past_comment s (Err r) = Err r

-- the number of a kind that was found
abbrev pub coded : Option Kind → Option ℕ
coded (Some k) = Some (code k)
coded None = None

-- a number that is 0 where there is none
abbrev pub kinded : ℕ → Option ℕ
kinded n = pick (eqb n 0) None (Some n)

-- the kind of a byte that may be a symbol by itself, 0 where it is none
unfoldable pub single_of : ℕ → ℕ
single_of b = pick (is_single b || is_pair b) b 0

-- the symbol or the logic value at p
unfoldable pub symbol_at : List ℕ → ℕ → Taken
symbol_at s p =
    pick (is_single (get_or s p 0)) (word (get_or s p 0) p 0 (p + 1))
    (pick (is_pair (get_or s p 0)) (pair_at s p) (pick (eqb (get_or s p 0) 39) (logic_at s p) (Refused 2 p)))

-- the value of the literal in front, where it is not above 65,535
unfoldable pub literal_of : List ℕ → Option ℕ
literal_of s = let v : ℕ = value_of 0 s in pick (ltb 65535 v) None (Some v)

-- the kind of a name by a table of words
unfoldable pub listed : List ℕ → List (List ℕ × Kind) → ℕ
listed s [] = 1
listed s (e ∷ t) =
    let r : ℕ = listed s t in
    pick (pointwise eqb s e.0) (code e.1) r

-- and by the words behind references
abbrev pub stripped : List (Bor (List ℕ) × Kind) → List (List ℕ × Kind)
stripped [] = []
stripped (e ∷ t) = (e.0.now, e.1) ∷ stripped t

abbrev pub looked : List ℕ → List (Bor (List ℕ) × Kind) → ℕ
looked s t = listed s (stripped t)
