-- How long an output can be.
use Rattle.std.specs.Prelude.{ℕ, suc, ◌+◌, ◌*◌, ◌≤◌, ℤ, pos, negsuc, List, length}
use Rattle.std.specs.Str.{IsUtf8}
use Rattle.cedar_grammar.specs.Texts.{greatest_depth}
use Rattle.cedar_written.specs.Output.{IsOutputOf}

-- the columns that an indentation adds: none if it is negative
abbrev pub columns_of : ℤ → ℕ
columns_of (pos n) = n
columns_of (negsuc n) = 0

-- no break of a layout is indented by more columns (a string with line feeds keeps its lines)
abbrev pub greatest_indentation : ℤ → ℕ
greatest_indentation i = columns_of i + suc greatest_depth * suc (3 * columns_of i)

-- a byte of a text gives at most so many bytes of its output: itself, a space, and a line feed with its indentation
abbrev pub growth : ℤ → ℕ
growth i = 3 + greatest_indentation i

-- an output has no more bytes than that for each byte of its text, and one line feed
abbrev pub OutputsAreBounded : Type 0
OutputsAreBounded = (w : ℕ) (i : ℤ) (x y : List ℕ) → IsUtf8 x → IsOutputOf w i x y → length y ≤ length x * growth i + 1
