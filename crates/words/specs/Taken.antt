-- What taking a word answers, and what stands before a word. Assumes nothing.
use Rattle.std.specs.Prelude.{ℕ}
use Rattle.words.specs.declared.Cursor.{Cursor}

-- a word's kind by number, where it starts, its value and the cursor past it; or a refusal's number and place
pub data Taken : Type 0 where
  Word : ℕ → ℕ → ℕ → Cursor → Taken
  Refused : ℕ → ℕ → Taken

-- the place where the next word starts, or the text's end within a comment
pub data Gap : Type 0 where
  Here : ℕ → Gap
  Cut : ℕ → Gap
