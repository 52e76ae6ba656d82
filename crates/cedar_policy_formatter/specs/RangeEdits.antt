-- A text with some of its policies laid out.
use Rattle.std.specs.Prelude.{◌≡◌, ◌<◌, ◌⊎◌, ◌==◌, ℕ, ℤ, List, [], ◌∷◌, ◌++◌, if◌then◌else◌}
use Rattle.cedar_tokens.specs.Bytes.{line_feed}
use Rattle.cedar_tokens.specs.declared.token.Span.{Span}
use Rattle.cedar_layout.specs.Cleaning.{last_byte_or}
use Rattle.cedar_laws.specs.Canonical.{IsOutputOf}
use Rattle.cedar_grammar.specs.declared.error.FormatError.{FormatError}
use Rattle.cedar_grammar.specs.Refusals.{Refuses}
use Rattle.cedar_edits.specs.Edits.{before, edited, within}
use Rattle.cedar_edits.specs.Returns.{with_returns}
use Rattle.cedar_policy_formatter.specs.Keeping.{InLineEnds}
use Rattle.cedar_policy_formatter.specs.Pieces.{IsTouchedSpan}

-- the line feeds that make an empty line after a text: none at its start, one at the start of a line, and otherwise two
abbrev pub feeds_after : List ℕ → List ℕ
feeds_after [] = []
feeds_after (b ∷ bs) = if last_byte_or b bs == line_feed then line_feed ∷ [] else line_feed ∷ (line_feed ∷ [])

-- the bytes are part of the output of the text
abbrev pub StandsInOutput : ℕ → ℤ → List ℕ → List ℕ → Type 0
StandsInOutput width indent text bytes = (whole : List ℕ) → IsOutputOf width indent text whole → (front back : List ℕ) × (whole ≡ front ++ (bytes ++ back))

-- the bytes are the output of the text in the span, as it appears in that of the text, after an empty line
pub record LaysOut (width : ℕ) (indent : ℤ) (text : List ℕ) (span : Span) (bytes : List ℕ) : Type 0 where
  pub out : List ℕ
  pub output : IsOutputOf width indent (within text span) out
  pub stands : StandsInOutput width indent text out
  pub after_feeds : bytes ≡ feeds_after (before text span) ++ out

-- the policies in the span, if any, are laid out; otherwise the result is empty
abbrev pub LaysOutPolicies : ℕ → ℤ → List ℕ → Span → List ℕ → Type 0
LaysOutPolicies width indent text span bytes = ((span.start ≡ span.end) × (bytes ≡ [])) ⊎ ((span.start < span.end) × LaysOut width indent text span bytes)

-- the result is the output of the text, in the text's line ends
pub record IsFormattedOf (width : ℕ) (indent : ℤ) (text result : List ℕ) : Type 0 where
  pub out : List ℕ
  pub output : IsOutputOf width indent text out
  pub ends : InLineEnds text out (with_returns out) result

-- the result is the text with the policies laid out that the range touches, in the text's line ends, and all other
-- bytes unchanged
pub record IsFormattedAt (width : ℕ) (indent : ℤ) (text : List ℕ) (range : Span) (result : List ℕ) : Type 0 where
  pub span : Span
  pub touched : IsTouchedSpan text range span
  pub bytes : List ℕ
  pub layout : LaysOutPolicies width indent text span bytes
  pub ends : InLineEnds text (edited text span bytes) (edited text span (with_returns bytes)) result

-- the range touches policies of the text, which are refused by themselves, and why: the place is counted from their start
pub record IsRefusedAt (text : List ℕ) (range : Span) (why : FormatError) : Type 0 where
  pub span : Span
  pub touched : IsTouchedSpan text range span
  pub some : span.start < span.end
  pub refused : Refuses (within text span) why
