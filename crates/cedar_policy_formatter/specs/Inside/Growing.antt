-- How the span of the pieces touched so far grows, and the list of edits.
use Rattle.std.specs.Prelude.{◌≡◌, ◌⊎◌, ℕ, List, [], ◌∷◌, ◌++◌}
use Rattle.cedar_tokens.specs.declared.token.Span.{Span}
use Rattle.cedar_edits.specs.declared.edits.Edit.{Edit}
use Rattle.cedar_edits.specs.Edits.{within}
use Rattle.cedar_edits.specs.Lines.{IsLeast, Replaces}
use Rattle.cedar_policy_formatter.specs.Pieces.{Touches, StartsAfter, EndsBefore}

-- by one more piece: the range starts after it, touches it, or ends before it
abbrev pub Grows : Span → Span → Span → Span → Type 0
Grows range span piece new = (StartsAfter range piece.start piece.end × (new ≡ record { start = piece.end; end = piece.end }))
    ⊎ ((Touches range piece.start piece.end × (new ≡ record { start = span.start; end = piece.end }))
    ⊎ (EndsBefore range piece.start piece.end × (new ≡ span)))

-- by the edit that turns the part into the new bytes, or by none if they are equal
abbrev pub Adds : List ℕ → Span → List ℕ → List Edit → List Edit → Type 0
Adds text span new edits now = ((now ≡ edits) × (new ≡ within text span)) ⊎ ((edit : Edit) × (now ≡ edits ++ (edit ∷ [])) × Replaces text span new edit × IsLeast text edit)
