-- Lines that two texts have in common. A line ends with a line feed; the last one of a text may have none.
use Rattle.std.specs.Prelude.{◌≡◌, ◌≢◌, ◌<◌, ◌≤◌, ◌⊎◌, ℕ, List, [], ◌∷◌, ◌++◌, length, slice_range, string_bytes}
use Rattle.std.specs.List.{AllByRecursion}
use Rattle.cedar_tokens.specs.Bytes.{line_feed}
use Rattle.cedar_tokens.specs.declared.token.Span.{Span}
use Rattle.cedar_edits.specs.declared.edits.Edit.{Edit}
use Rattle.cedar_edits.specs.Edits.{AreInOrder, IsNamedPart, edited_by, within}

-- these bytes are whole lines, or none
abbrev pub AreLines : List ℕ → Type 0
AreLines bytes = (bytes ≡ []) ⊎ ((front : List ℕ) × (bytes ≡ front ++ (line_feed ∷ [])))

-- the texts don't begin with a common line
abbrev pub BeginApart : List ℕ → List ℕ → Type 0
BeginApart x y = (line xs ys : List ℕ) → x ≡ line ++ (line_feed ∷ xs) → y ≡ line ++ (line_feed ∷ ys) → ⊥

-- the texts don't end with common lines
abbrev pub EndApart : List ℕ → List ℕ → Type 0
EndApart x y = (lines xs ys : List ℕ) → 0 < length lines → AreLines xs → AreLines ys → x ≡ xs ++ lines → y ≡ ys ++ lines → ⊥

-- the edit leaves out each line that what it removes and what it puts both begin or both end with, and it changes something
pub record IsLeast (text : List ℕ) (edit : Edit) : Type 0 where
  pub first : BeginApart (within text edit.span) (string_bytes edit.text)
  pub last : EndApart (within text edit.span) (string_bytes edit.text)
  pub differs : within text edit.span ≢ string_bytes edit.text

-- the edit lies in the span, and turns what the span holds into the new bytes
pub record Replaces (text : List ℕ) (span : Span) (new : List ℕ) (edit : Edit) : Type 0 where
  pub start : span.start ≤ edit.span.start
  pub end : edit.span.end ≤ span.end
  pub part : IsNamedPart text edit.span
  pub bytes : slice_range text span.start edit.span.start ++ (string_bytes edit.text ++ slice_range text edit.span.end span.end) ≡ new

-- the edits are in order and as small as they can be, and there are none if they change nothing
pub record AreLeastEdits (text : List ℕ) (edits : List Edit) : Type 0 where
  pub order : AreInOrder text 0 edits
  pub least : AllByRecursion (IsLeast text) edits
  pub none : edited_by text edits ≡ text → edits ≡ []
