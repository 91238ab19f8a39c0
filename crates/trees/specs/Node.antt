-- A node's number in memory: 0 '0, 1 '1, 2 ~, 3 *, 4 +, 5 -, 6 MUX, 7 REG(d), 8 REG(en, d), and 9 + k the element k. Assumes nothing.
use Rattle.std.specs.Prelude.{ℕ, ◌+◌}
use Rattle.trees.specs.declared.Node.{Node}
use Rattle.trees.specs.declared.Node.TheVariants.{Low, High, Not, And, Or, Xor, Mux, Reg, Held, Name}

abbrev pub code_of : Node → ℕ
code_of Low = 0
code_of High = 1
code_of Not = 2
code_of And = 3
code_of Or = 4
code_of Xor = 5
code_of Mux = 6
code_of Reg = 7
code_of Held = 8
code_of (Name k) = 9 + k
