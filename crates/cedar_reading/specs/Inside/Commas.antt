-- Where the trailing text of a comma goes. Only contracts of private functions cite these.
use Rattle.std.specs.Prelude.{◌≡◌, ℕ, true, false, List, [], ◌∷◌, ◌++◌, codes}
use Rattle.cedar_tokens.specs.Listing.{Decorated}
use Rattle.cedar_tokens.specs.PlainList.{touches, with_trailing_of}

-- a comma between these comments
abbrev pub comma : List (List ℕ) → List ℕ → Decorated
comma leading trailing = record { text = codes ","; leading = leading; trailing = trailing }

-- the comma touches the last token, which takes over its trailing text
pub record TakesOver (old new : List Decorated) (c : Decorated) : Type 0 where
  pub front : List Decorated
  pub last : Decorated
  pub was : old ≡ front ++ last ∷ []
  pub touching : touches last c ≡ true
  pub becomes : new ≡ front ++ with_trailing_of last c ∷ []

-- nothing changes, since there is no last token that the comma touches
pub record StaysApart (old new : List Decorated) (c : Decorated) : Type 0 where
  pub same : new ≡ old
  pub apart : (front : List Decorated) (last : Decorated) → old ≡ front ++ last ∷ [] → touches last c ≡ false
