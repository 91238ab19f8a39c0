-- Kinds by number: each has one of its own. Assumes nothing.
use Rattle.std.proofs.Common.{◌≡◌, ℕ, refl, sym, ap, ◌∙◌, true, false, not, eqb}
use borrow.Author.Tests.{ne_eqb}
use denote.Enum.Bare.{sameb, differs_true, differs_false}
use Rattle.words.specs.contracts.Kind.{the_type}
use Rattle.basics.specs.Choice.{pick}
use Rattle.words.specs.declared.Kind.{Kind}
use Rattle.words.specs.declared.Kind.TheVariants.{TextEnd, Name, Number, Logic, Large, Open, Close, Star, Plus, Comma, Minus, Dot, Colon, Semicolon, OpenSquare, CloseSquare, Caret, Tilde, Range, Place, Becomes, For, Do, End, Div, Mod, Mux, Reg, Module, Const, In, Out, Var, Begin, Bit, «Type», Import, Inout, Ts, Oc, Latch, Sr, Clock, If, Then, Elsif, Else}
use Rattle.words.specs.Kinds.{code}

-- the kind of a number
abbrev kind_of : ℕ → Kind
kind_of n =
    pick (eqb n 0) TextEnd
    (pick (eqb n 1) Name
    (pick (eqb n 2) Number
    (pick (eqb n 3) Logic
    (pick (eqb n 4) Large
    (pick (eqb n 40) Open
    (pick (eqb n 41) Close
    (pick (eqb n 42) Star
    (pick (eqb n 43) Plus
    (pick (eqb n 44) Comma
    (pick (eqb n 45) Minus
    (pick (eqb n 46) Dot
    (pick (eqb n 58) Colon
    (pick (eqb n 59) Semicolon
    (pick (eqb n 91) OpenSquare
    (pick (eqb n 93) CloseSquare
    (pick (eqb n 94) Caret
    (pick (eqb n 126) Tilde
    (pick (eqb n 174) Range
    (pick (eqb n 186) Place
    (pick (eqb n 189) Becomes
    (pick (eqb n 200) For
    (pick (eqb n 201) Do
    (pick (eqb n 202) End
    (pick (eqb n 203) Div
    (pick (eqb n 204) Mod
    (pick (eqb n 205) Mux
    (pick (eqb n 206) Reg
    (pick (eqb n 207) Module
    (pick (eqb n 208) Const
    (pick (eqb n 209) In
    (pick (eqb n 210) Out
    (pick (eqb n 211) Var
    (pick (eqb n 212) Begin
    (pick (eqb n 213) Bit
    (pick (eqb n 220) «Type»
    (pick (eqb n 221) Import
    (pick (eqb n 222) Inout
    (pick (eqb n 223) Ts
    (pick (eqb n 224) Oc
    (pick (eqb n 225) Latch
    (pick (eqb n 226) Sr
    (pick (eqb n 227) Clock
    (pick (eqb n 228) If
    (pick (eqb n 229) Then
    (pick (eqb n 230) Elsif
    (pick (eqb n 231) Else
    TextEnd))))))))))))))))))))))))))))))))))))))))))))))

kind_of_code : (k : Kind) → kind_of (code k) ≡ k
kind_of_code TextEnd = refl
kind_of_code Name = refl
kind_of_code Number = refl
kind_of_code Logic = refl
kind_of_code Large = refl
kind_of_code Open = refl
kind_of_code Close = refl
kind_of_code Star = refl
kind_of_code Plus = refl
kind_of_code Comma = refl
kind_of_code Minus = refl
kind_of_code Dot = refl
kind_of_code Colon = refl
kind_of_code Semicolon = refl
kind_of_code OpenSquare = refl
kind_of_code CloseSquare = refl
kind_of_code Caret = refl
kind_of_code Tilde = refl
kind_of_code Range = refl
kind_of_code Place = refl
kind_of_code Becomes = refl
kind_of_code For = refl
kind_of_code Do = refl
kind_of_code End = refl
kind_of_code Div = refl
kind_of_code Mod = refl
kind_of_code Mux = refl
kind_of_code Reg = refl
kind_of_code Module = refl
kind_of_code Const = refl
kind_of_code In = refl
kind_of_code Out = refl
kind_of_code Var = refl
kind_of_code Begin = refl
kind_of_code Bit = refl
kind_of_code «Type» = refl
kind_of_code Import = refl
kind_of_code Inout = refl
kind_of_code Ts = refl
kind_of_code Oc = refl
kind_of_code Latch = refl
kind_of_code Sr = refl
kind_of_code Clock = refl
kind_of_code If = refl
kind_of_code Then = refl
kind_of_code Elsif = refl
kind_of_code Else = refl

pub code_one : (k m : Kind) → code k ≡ code m → k ≡ m
code_one k m e = sym (kind_of_code k) ∙ ap kind_of e ∙ kind_of_code m

-- what a test on kinds tells of the test on their numbers
pub code_other : (k m : Kind) → (k ≡ m → ⊥) → eqb (code k) (code m) ≡ false
code_other k m n = ne_eqb _ _ (λ e. n (code_one k m e))

-- what `!=` on kinds tells
pub same_kind : (k m : Kind) → not (sameb the_type k m) ≡ false → k ≡ m
same_kind k m e = differs_false the_type tt k m e

pub other_kind : (k m : Kind) → not (sameb the_type k m) ≡ true → k ≡ m → ⊥
other_kind k m e = differs_true the_type k m e
