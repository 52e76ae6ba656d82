-- What becomes of a text with one policy.
use Rattle.std.specs.Prelude.{◌≡◌, ℕ, ℤ, List, [], ◌∷◌, ◌++◌, ⊤}
use Rattle.cedar_tokens.specs.Bytes.{line_feed}
use Rattle.cedar_tokens.specs.Listing.{Decorated, Listing, IsListing}
use Rattle.cedar_tokens.specs.PlainList.{plain_list}
use Rattle.cedar_grammar.specs.Texts.{greatest_depth}
use Rattle.cedar_layout.specs.Layout.{Doc}
use Rattle.cedar_print.specs.Clean.{IsTheCleanLayoutAt}
use Rattle.cedar_print.specs.WrittenMarks.{Mark, AreMarks}
use Rattle.cedar_written.specs.Written as written
use Rattle.cedar_written.specs.Texts.{Accepted}
use Rattle.cedar_writer.specs.declared.printer.NotPrinted.{NotPrinted}
use Rattle.cedar_writer.specs.declared.printer.NotPrinted.TheVariants.{NotAccepted, Unsound, OutOfMemory}

-- why the policy of a text is not printed: the text is not accepted, or memory was refused, which may happen at any time
abbrev pub IsNotPrinted : List ℕ → NotPrinted → Type 0
IsNotPrinted text NotAccepted = ¬ (Accepted text)
IsNotPrinted text Unsound = ⊥
IsNotPrinted text OutOfMemory = ⊤

-- the tokens are a policy, and its document has these marks
abbrev pub HasMarks : ℤ → List Decorated → List Mark → Type 0
HasMarks i ts ms = (d : Doc) × written.Policy i greatest_depth ts d × AreMarks ms d

-- why the marks of tokens are not written: they are no policy, or memory was refused
abbrev pub IsNotPolicy : ℤ → List Decorated → NotPrinted → Type 0
IsNotPolicy i ts NotAccepted = (d : Doc) → ¬ (written.Policy i greatest_depth ts d)
IsNotPolicy i ts Unsound = ⊥
IsNotPolicy i ts OutOfMemory = ⊤

-- the text is the layout of the marks' document at the width, without blank lines, and a line feed
abbrev pub IsLaidOut : ℕ → List Mark → List ℕ → Type 0
IsLaidOut w ms out = (d : Doc) → AreMarks ms d → (y : List ℕ) × IsTheCleanLayoutAt w d y × (out ≡ y ++ (line_feed ∷ []))

-- the text is accepted, and these are its tokens without trailing commas and the marks of their document
pub record IsPolicyRead (i : ℤ) (text : List ℕ) (ts : List Decorated) (ms : List Mark) : Type 0 where
  pub accepted : Accepted text
  pub list : Listing
  pub is_list : IsListing text list
  pub plain : ts ≡ plain_list list.tokens
  pub marks : HasMarks i ts ms
