-- Every real text has good decorations.
use Rattle.std.specs.Prelude.{ℕ, List}
use Rattle.std.specs.List.{AllByRecursion}
use Rattle.std.specs.Str.{IsUtf8}
use Rattle.cedar_tokens.specs.Listing.{Decorated, Listing, IsListing}
use Rattle.cedar_tokens.specs.PlainList.{plain_list}
use Rattle.cedar_laws.specs.Good.{IsGood, IsLine}

-- the decorated list of a UTF-8 text has good decorations
abbrev pub EveryListIsGood : Type 0
EveryListIsGood = (x : List ℕ) (l : Listing) → IsUtf8 x → IsListing x l → AllByRecursion IsGood l.tokens × AllByRecursion IsLine l.closing

-- decorations stay good where trailing commas are removed
abbrev pub PlainListStaysGood : Type 0
PlainListStaysGood = (l : List Decorated) → AllByRecursion IsGood l → AllByRecursion IsGood (plain_list l)
