-- Where the tokens of a text are, in bytes.
use Rattle.std.specs.Prelude.{◌≡◌, ◌<◌, ◌≤◌, ◌+◌, if◌then◌else◌, [], ◌∷◌, length, map, List, ℕ, ⊤}
use Rattle.cedar_tokens.specs.Units.{is_token}
use Rattle.cedar_tokens.specs.Split.{SplitsInto}
use Rattle.cedar_tokens.specs.declared.token.Span.{Span}
use Rattle.cedar_tokens.specs.declared.token.WrappedToken.{WrappedToken}

-- the places of the tokens among units that begin at this byte: a token of n bytes at the byte p is at p to p + n
unfoldable pub token_spans : ℕ → List (List ℕ) → List Span
token_spans at [] = []
token_spans at (u ∷ us) = if is_token u
    then record { start = at; end = at + length u } ∷ token_spans (at + length u) us
    else token_spans (at + length u) us

-- the places of the text's tokens, in order
pub record AreTokenSpans (text : List ℕ) (spans : List Span) : Type 0 where
  pub units : List (List ℕ)
  pub split : SplitsInto text units
  pub value : spans ≡ token_spans 0 units

-- places one after the other from this byte on: none is empty, and no two overlap
abbrev pub InOrderFrom : ℕ → List Span → Type 0
InOrderFrom at [] = ⊤
InOrderFrom at (s ∷ ss) = (at ≤ s.start) × (s.start < s.end) × InOrderFrom s.end ss

-- the tokens' places are nonempty, in order and disjoint
abbrev pub AreInOrder : List WrappedToken → Type 0
AreInOrder ts = InOrderFrom 0 (map (λ t. t.span) ts)
