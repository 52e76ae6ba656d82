-- The decorated list of a text without its trailing commas.
use Rattle.std.specs.Prelude.{◌≡◌, ℕ, Bool, false, ◌||◌, List, [], ◌∷◌}
use Rattle.cedar_tokens.specs.Listing.{Decorated, Listing, IsListing}
use Rattle.cedar_tokens.specs.PlainList.{is_trailing_comma, plain_list}

-- l is the decorated list of the text, without its trailing commas
pub record IsPlainListing (text : List ℕ) (l : Listing) : Type 0 where
  pub all : List Decorated
  pub list : IsListing text (record { tokens = all; closing = l.closing })
  pub plain : l.tokens ≡ plain_list all

-- one of the tokens is a trailing comma
abbrev pub has_trailing_comma : List Decorated → Bool
has_trailing_comma [] = false
has_trailing_comma (c ∷ []) = false
has_trailing_comma (c ∷ (b ∷ ts)) = is_trailing_comma c b || has_trailing_comma (b ∷ ts)
