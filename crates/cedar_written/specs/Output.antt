-- The output of an accepted text.
use Rattle.std.specs.Prelude.{◌≡◌, ℕ, ℤ, List, ◌∷◌, ◌++◌}
use Rattle.std.specs.List.{AllZip}
use Rattle.cedar_tokens.specs.Bytes.{line_feed}
use Rattle.cedar_tokens.specs.Listing.{Listing, IsListing}
use Rattle.cedar_tokens.specs.PlainList.{plain_list}
use Rattle.cedar_layout.specs.Layout.{Doc}
use Rattle.cedar_grammar.specs.Texts.{greatest_depth}
use Rattle.cedar_laws.specs.Output.{paragraphs, closing_text}
use Rattle.cedar_written.specs.Cleaning.{IsCleaned}
use Rattle.cedar_written.specs.Layout.{layout}
use Rattle.cedar_written.specs.Texts.{Accepted}
use Rattle.cedar_written.specs.Written.{PolicySet}

-- y is the output of the accepted text x: the documents of its list without trailing commas, laid out at the width w
-- and cleaned, and its closing comments
pub record IsOutputOf (w : ℕ) (i : ℤ) (x y : List ℕ) : Type 0 where
  pub accepted : Accepted x
  pub list : Listing
  pub is_list : IsListing x list
  pub documents : List Doc
  pub written : PolicySet i greatest_depth (plain_list list.tokens) documents
  pub texts : List (List ℕ)
  pub cleaned : AllZip (λ d t. IsCleaned (layout w d) t) documents texts
  pub output : y ≡ paragraphs texts ++ (line_feed ∷ closing_text list.closing)
