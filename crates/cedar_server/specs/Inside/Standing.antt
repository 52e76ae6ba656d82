-- Policies that are accepted in front of any text.
use Rattle.std.specs.Prelude.{◌≡◌, ℕ, List, [], ◌∷◌, ◌++◌, length, slice_range}
use Rattle.cedar_tokens.specs.Bytes.{line_feed}
use Rattle.cedar_tokens.specs.declared.token.Span.{Span}
use Rattle.cedar_grammar.specs.Texts.{Accepted}
use Rattle.cedar_reading.specs.Pieces.{IsPiece}

-- an accepted policy that ends with the line feed after its `;`
pub record Stands (policy : List ℕ) : Type 0 where
  pub front : List ℕ
  pub feed : policy ≡ front ++ (line_feed ∷ [])
  pub piece : IsPiece policy (length policy)
  pub accepted : Accepted policy

-- these bytes of the text are such a policy
abbrev pub StandsAt : List ℕ → Span → Type 0
StandsAt text span = Stands (slice_range text span.start span.end)
