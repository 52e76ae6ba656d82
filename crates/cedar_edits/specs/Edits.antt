-- Texts with parts replaced.
use Rattle.std.specs.Prelude.{◌≤◌, ◌-◌, ℕ, List, [], ◌∷◌, ◌++◌, length, take, drop, slice_range, string_bytes, ⊤}
use Rattle.std.specs.Str.{IsCharBoundary}
use Rattle.cedar_tokens.specs.declared.token.Span.{Span}
use Rattle.cedar_edits.specs.Laws.{CanBeNamed}
use Rattle.cedar_edits.specs.declared.edits.Edit.{Edit}

-- the span lies in the text, on character boundaries
pub record IsPartOf (text : List ℕ) (span : Span) : Type 0 where
  pub order : span.start ≤ span.end
  pub inside : span.end ≤ length text
  pub first : IsCharBoundary text span.start
  pub last : IsCharBoundary text span.end

-- what a text has before a span, in it and after it
abbrev pub before : List ℕ → Span → List ℕ
before text span = take span.start text

abbrev pub within : List ℕ → Span → List ℕ
within text span = take (span.end - span.start) (drop span.start text)

abbrev pub after : List ℕ → Span → List ℕ
after text span = drop span.end text

-- the text with these bytes in place of the span, and all others unchanged
abbrev pub edited : List ℕ → Span → List ℕ → List ℕ
edited text span bytes = before text span ++ (bytes ++ after text span)

-- the text from a byte on with each edit's text in place of its span, and all other bytes unchanged
abbrev pub edited_from : List ℕ → ℕ → List Edit → List ℕ
edited_from text at [] = drop at text
edited_from text at (e ∷ es) = slice_range text at e.span.start ++ (string_bytes e.text ++ edited_from text e.span.end es)

-- the whole text with each edit's text in place of its span
abbrev pub edited_by : List ℕ → List Edit → List ℕ
edited_by text edits = edited_from text 0 edits

-- a client can name both ends of the span, and it lies in the text
pub record IsNamedPart (text : List ℕ) (span : Span) : Type 0 where
  pub order : span.start ≤ span.end
  pub inside : span.end ≤ length text
  pub first : CanBeNamed text span.start
  pub last : CanBeNamed text span.end

-- the spans of the edits begin at a byte or after it, each where the one before it ends or after that, and a client can
-- name them
abbrev pub AreInOrder : List ℕ → ℕ → List Edit → Type 0
AreInOrder text at [] = ⊤
AreInOrder text at (e ∷ es) = (at ≤ e.span.start) × IsNamedPart text e.span × AreInOrder text e.span.end es
