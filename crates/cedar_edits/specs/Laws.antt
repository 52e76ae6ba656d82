-- Laws of positions.
use Rattle.std.specs.Prelude.{◌≡◌, ℕ, ◌-◌, ◌<◌, List, slice_index}
use Rattle.std.specs.Str.{IsCharBoundary}
use Rattle.cedar_edits.specs.declared.positions.Encoding.{Encoding}
use Rattle.cedar_edits.specs.declared.positions.Position.{Position}
use Rattle.cedar_edits.specs.Positions.{IsOffsetOf, IsPositionAt}

-- the place is inside the end of a line: between a carriage return and its line feed
abbrev pub IsInLineEnd : List ℕ → ℕ → Type 0
IsInLineEnd text at = (0 < at) × (slice_index text (at - 1) ≡ 13) × (slice_index text at ≡ 10)

-- a client can name the place: a character begins or the text ends there, and it is not inside a line's end
pub record CanBeNamed (text : List ℕ) (at : ℕ) : Type 0 where
  pub boundary : IsCharBoundary text at
  pub outside : ¬ (IsInLineEnd text at)

-- the byte of the position of a byte is that byte, if a character begins or the text ends there, and it is not inside a line's end
abbrev pub PositionsAreFound : Type 0
PositionsAreFound = (e : Encoding) (text : List ℕ) (at : ℕ) (p : Position) → IsCharBoundary text at → ¬ (IsInLineEnd text at) → IsPositionAt e text at p → IsOffsetOf e text p at

-- a position has one byte
abbrev pub OffsetsAreDetermined : Type 0
OffsetsAreDetermined = (e : Encoding) (text : List ℕ) (p : Position) (a b : ℕ) → IsOffsetOf e text p a → IsOffsetOf e text p b → a ≡ b
