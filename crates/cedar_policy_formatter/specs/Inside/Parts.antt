-- Spans of whole pieces.
use Rattle.std.specs.Prelude.{◌≡◌, ◌-◌, ◌⊎◌, ℕ, List, drop}
use Rattle.cedar_tokens.specs.declared.token.Span.{Span}
use Rattle.cedar_reading.specs.Pieces.{IsPiece}
use Rattle.cedar_cst.specs.PolicyReaders.{EndsPiece}

-- the bytes before the span are none or a piece, and so are those in it
pub record HoldsPieces (text : List ℕ) (span : Span) : Type 0 where
  pub first : EndsPiece text span.start
  pub pieces : (span.start ≡ span.end) ⊎ IsPiece (drop span.start text) (span.end - span.start)
