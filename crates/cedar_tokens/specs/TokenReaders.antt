-- What a reader of tokens has still to return.
use Rattle.std.specs.Prelude.{◌≡◌, ◌-◌, [], ◌∷◌, List, ℕ, length, drop}
use Rattle.cedar_tokens.specs.Split.{SplitsInto}
use Rattle.cedar_tokens.specs.Listing.{Listing, gaps, decorate}
use Rattle.cedar_tokens.specs.Places.{token_spans}
use Rattle.cedar_tokens.specs.Tokens.{decorated, StandsIn}
use Rattle.cedar_tokens.specs.declared.token.Span.{Span}
use Rattle.cedar_tokens.specs.declared.token.WrappedToken.{WrappedToken}
use Rattle.cedar_tokens.specs.declared.readers.TokenReader.{TokenReader}

-- the text ahead begins with a token or is empty: l is its decorated list, where `leading` precedes the first token, and
-- spans are the places of its tokens, where the text ahead begins at this byte
pub record IsAhead (at : ℕ) (leading ahead : List ℕ) (l : Listing) (spans : List Span) : Type 0 where
  pub units : List (List ℕ)
  pub split : SplitsInto ahead units
  pub begins : (gaps units).first ≡ []
  pub list : l ≡ decorate leading (gaps units).tokens
  pub places : spans ≡ token_spans at units

-- how many bytes of its text remain from the reader's next token on
abbrev pub bytes_left : TokenReader → ℕ
bytes_left r = length r.ahead.text.now

-- the reader reads this text, still has to return the tokens and closing comments of l, and spans are their places
pub record HasLeft (text : List ℕ) (r : TokenReader) (l : Listing) (spans : List Span) : Type 0 where
  pub source : r.text.now ≡ text
  pub ahead : r.ahead.text.now ≡ drop (length text - bytes_left r) text
  pub left : IsAhead (length text - bytes_left r) r.leading.now r.ahead.text.now l spans

-- the token w is the first of what is left, and all the others are left to the reader afterwards
pub record GivesFirst (text : List ℕ) (w : WrappedToken) (after : TokenReader) (l : Listing) (spans : List Span) : Type 0 where
  pub others : Listing
  pub places : List Span
  pub first : l ≡ record { tokens = decorated w ∷ others.tokens; closing = others.closing }
  pub place : spans ≡ w.span ∷ places
  pub stands : StandsIn text w
  pub left : HasLeft text after others places
