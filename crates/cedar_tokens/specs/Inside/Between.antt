-- The texts at places, and between them.
use Rattle.std.specs.Prelude.{ℕ, List, [], ◌∷◌, length, slice_range}
use Rattle.cedar_tokens.specs.declared.token.Span.{Span}

-- where the first of these places begins, or the end if there is none
abbrev pub first_start : ℕ → List Span → ℕ
first_start end [] = end
first_start end (s ∷ ss) = s.start

-- the text at a place
abbrev pub text_at : List ℕ → Span → List ℕ
text_at text s = slice_range text s.start s.end

-- the text from the byte at to the first of these places, or to the text's end
abbrev pub text_before : List ℕ → ℕ → List Span → List ℕ
text_before text at spans = slice_range text at (first_start (length text) spans)

-- the texts at these places, each with the text between it and the next, or up to the text's end
abbrev pub texts_between : List ℕ → List Span → List (List ℕ × List ℕ)
texts_between text [] = []
texts_between text (s ∷ ss) = (text_at text s, text_before text s.end ss) ∷ texts_between text ss
