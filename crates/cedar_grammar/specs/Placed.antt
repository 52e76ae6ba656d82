-- The tokens of a text with their places.
use Rattle.std.specs.Prelude.{ℕ, List, [], ◌∷◌}
use Rattle.cedar_tokens.specs.Places.{token_spans}
use Rattle.cedar_tokens.specs.declared.token.Span.{Span}
use Rattle.cedar_tokens.specs.declared.kind.Kind.{Kind}
use Rattle.cedar_tokens.specs.TokenKinds.{kind_of}
use Rattle.cedar_grammar.specs.Texts.{only_tokens}

-- a token's text and its place
pub record Placed : Type 0 where
  pub text : List ℕ
  pub span : Span

abbrev pub with_places : List (List ℕ) → List Span → List Placed
with_places (t ∷ ts) (s ∷ ss) = record { text = t; span = s } ∷ with_places ts ss
with_places ts ss = []

-- the tokens of a text that has these units, with their places
abbrev pub placed : List (List ℕ) → List Placed
placed units = with_places (only_tokens units) (token_spans 0 units)

abbrev pub kind_of_placed : Placed → Kind
kind_of_placed t = kind_of t.text
