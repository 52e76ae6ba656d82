-- The pieces of a text that a range touches.
use Rattle.std.specs.Prelude.{◌≡◌, ◌≤◌, ◌<◌, ◌+◌, ◌⊎◌, ℕ, List, [], ◌∷◌, ◌++◌, length, take, drop, ⊤}
use Rattle.std.specs.List.{sum_by}
use Rattle.cedar_tokens.specs.declared.token.Span.{Span}
use Rattle.cedar_reading.specs.Pieces.{IsFirstPiece, HasNoPiece}

-- the text is these pieces, each the first one of the text from there on, and then the rest
abbrev pub ArePieces : List (List ℕ) → List ℕ → List ℕ → Type 0
ArePieces [] text rest = text ≡ rest
ArePieces (p ∷ ps) text rest = IsFirstPiece text (length p) × (p ≡ take (length p) text) × ArePieces ps (drop (length p) text) rest

-- this holds of the start and the end of each of the pieces, the first of which starts at this byte
abbrev pub EachPiece : (ℕ → ℕ → Type 0) → ℕ → List (List ℕ) → Type 0
EachPiece P at [] = ⊤
EachPiece P at (p ∷ ps) = P at (at + length p) × EachPiece P (at + length p) ps

-- the range touches the bytes from `start` to before `end`: it contains one of them, or it is empty and at one
abbrev pub Touches : Span → ℕ → ℕ → Type 0
Touches range start end = (range.start < end) × ((start < range.end) ⊎ (start ≤ range.start))

-- it starts after that; it ends before that
abbrev pub StartsAfter : Span → ℕ → ℕ → Type 0
StartsAfter range start end = end ≤ range.start

abbrev pub EndsBefore : Span → ℕ → ℕ → Type 0
EndsBefore range start end = (range.end ≤ start) × (range.start < start)

-- the span is that of the pieces that the range touches; if it touches none, none comes after it, and the span is empty there
pub record IsTouchedSpan (text : List ℕ) (range span : Span) : Type 0 where
  pub before : List (List ℕ)
  pub touched : List (List ℕ)
  pub after : List (List ℕ)
  pub rest : List ℕ
  pub pieces : ArePieces (before ++ (touched ++ after)) text rest
  pub no_more : HasNoPiece rest
  pub start : span.start ≡ sum_by length before
  pub end : span.end ≡ span.start + sum_by length touched
  pub passed : EachPiece (StartsAfter range) 0 before
  pub met : EachPiece (Touches range) span.start touched
  pub left : EachPiece (EndsBefore range) span.end after
