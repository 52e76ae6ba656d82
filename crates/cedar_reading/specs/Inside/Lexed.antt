-- Lexemes, and the text after them. Only contracts of private functions cite these.
use Rattle.std.specs.Prelude.{ℕ, Bool, false, ◌&&◌, List, [], ◌∷◌}
use Rattle.cedar_tokens.specs.declared.kind.Kind.{Kind}
use Rattle.cedar_tokens.specs.declared.token.Span.{Span}
use Rattle.cedar_tokens.specs.Kinds.{is, is_closing}
use Rattle.cedar_tokens.specs.Inside.Between.{text_before}

-- the text between the first of these places and the next, or to the text's end
abbrev pub gap_after : List ℕ → List Span → List ℕ
gap_after text [] = []
gap_after text (s ∷ ss) = text_before text s.end ss

-- a comma is first, and a closing bracket next
abbrev pub begins_trailing : List Kind → Bool
begins_trailing [] = false
begins_trailing (c ∷ []) = false
begins_trailing (c ∷ (b ∷ ks)) = is Kind.Comma c && is_closing b
