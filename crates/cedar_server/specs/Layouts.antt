-- The answers to requests for a layout.
use Rattle.std.specs.Prelude.{◌≡◌, ℕ, ℤ, List, []}
use Rattle.cedar_tokens.specs.declared.token.Span.{Span}
use Rattle.cedar_policy_formatter.specs.RangeEdits.{IsFormattedAt, IsFormattedOf, IsRefusedAt}
use Rattle.cedar_policy_formatter.specs.Keeping.{Keeps}
use Rattle.cedar_grammar.specs.Refusals.{Refuses}
use Rattle.cedar_grammar.specs.declared.error.FormatError.{FormatError}
use Rattle.cedar_edits.specs.declared.positions.Encoding.{Encoding}
use Rattle.cedar_edits.specs.declared.changes.PlacedEdit.{PlacedEdit}
use Rattle.cedar_edits.specs.declared.changes.Range.{Range}
use Rattle.cedar_edits.specs.Changes.{PutsAll}
use Rattle.cedar_edits.specs.Positions.{IsOffsetOf}
use Rattle.cedar_server.specs.declared.messages.Answer.{Answer}
use Rattle.cedar_server.specs.declared.messages.Answer.TheVariants as answer

-- by these edits at positions, each in the old text and in order, the client makes the new text; there are none if
-- nothing changes
pub record EditsTo (e : Encoding) (edits : List PlacedEdit) (old new : List ℕ) : Type 0 where
  pub puts : PutsAll e edits old new
  pub none : new ≡ old → edits ≡ []

-- the answer for a text, at a width and an indentation: the edits that make its output of it, in its line ends, so that
-- an accepted text keeps its list; and nothing if it is refused
abbrev pub LaysOut : Encoding → ℕ → ℤ → List ℕ → Answer → Type 0
LaysOut e w i text (answer.Edits edits) = (new : List ℕ) × EditsTo e edits.items text new × IsFormattedOf w i text new × Keeps text new
LaysOut e w i text answer.Nothing = (why : FormatError) × Refuses text why
LaysOut e w i text a = ⊥

-- the range touches the policies of the text that lie at the bytes of its positions
pub record IsRangeOf (e : Encoding) (text : List ℕ) (range : Range) (touched : Span) : Type 0 where
  pub first : IsOffsetOf e text range.start touched.start
  pub last : IsOffsetOf e text range.end touched.end

-- the answer for a range of a text: the edits that lay out the policies that it touches, so that an accepted text keeps
-- its list; and nothing if they are refused by themselves
abbrev pub LaysOutPart : Encoding → ℕ → ℤ → Range → List ℕ → Answer → Type 0
LaysOutPart e w i range text (answer.Edits edits) = (touched : Span) × IsRangeOf e text range touched × (new : List ℕ) × EditsTo e edits.items text new × IsFormattedAt w i text touched new × Keeps text new
LaysOutPart e w i range text answer.Nothing = (touched : Span) × IsRangeOf e text range touched × (why : FormatError) × IsRefusedAt text touched why
LaysOutPart e w i range text a = ⊥
