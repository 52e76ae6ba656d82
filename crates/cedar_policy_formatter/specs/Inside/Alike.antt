-- Comparing two texts, policy by policy.
use Rattle.std.specs.Prelude.{◌≡◌, ◌⊎◌, ℕ, List, map}
use Rattle.cedar_tokens.specs.Listing.{Decorated, Listing, IsListing}
use Rattle.cedar_tokens.specs.PlainList.{plain_list}
use Rattle.cedar_grammar.specs.Texts.{Accepted}
use Rattle.cedar_grammar.specs.Refusals.{Refuses}
use Rattle.cedar_grammar.specs.declared.error.FormatError.{FormatError}
use Rattle.cedar_laws.specs.Output.{with_value}
use Rattle.cedar_cst.specs.PolicyReaders.{Position, HasEnded, GoesOn}

-- tokens without trailing commas, by value
abbrev pub plain_value : List Decorated → List Decorated
plain_value ts = map with_value (plain_list ts)

-- the texts' tokens without trailing commas are equal by value
abbrev pub HaveEqualTokens : List ℕ → List ℕ → Type 0
HaveEqualTokens a b = (l m : Listing) × IsListing a l × IsListing b m × (plain_value l.tokens ≡ plain_value m.tokens)

-- the reader continues past a piece that has the tokens of this text
pub record GoesOnAlike (text : List ℕ) (old new : Position) : Type 0 where
  pub piece : List ℕ
  pub goes_on : GoesOn old new piece
  pub accepted : Accepted piece
  pub equal : HaveEqualTokens text piece

-- the reader's next piece does not have the tokens of this text: it has no next one, its text is refused, or they differ
abbrev pub HasOtherNext : List ℕ → Position → Type 0
HasOtherNext text reader = HasEnded reader ⊎ (((e : FormatError) × Refuses reader.text e)
    ⊎ ((piece : List ℕ) × (new : Position) × GoesOn reader new piece × ¬ (HaveEqualTokens text piece)))

-- a piece is left of the reader's text
abbrev pub HasNext : Position → Type 0
HasNext reader = (piece : List ℕ) × (new : Position) × GoesOn reader new piece
