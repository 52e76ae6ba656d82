-- The byte before a place.
use Rattle.std.specs.Prelude.{ℕ, zero, suc, List, slice_index}

-- the byte before a place; 0 at the start
abbrev pub byte_before : List ℕ → ℕ → ℕ
byte_before bytes zero = 0
byte_before bytes (suc n) = slice_index bytes n
