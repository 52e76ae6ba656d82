-- The text of a kind that has one. Only contracts of private functions cite these.
use Rattle.std.specs.Prelude.{ℕ, Bool, ◌||◌, List, [], ◌∷◌, if◌then◌else◌}
use Rattle.cedar_tokens.specs.declared.kind.Kind.{Kind}
use Rattle.cedar_tokens.specs.Kinds.{is}
use Rattle.cedar_tokens.specs.TokenKinds.{fixed_tokens}

-- an identifier, a number or a string: the kinds whose tokens have various texts
abbrev pub is_open : Kind → Bool
is_open k = is Kind.Identifier k || is Kind.Number k || is Kind.Str k

-- the first text of the list that stands beside this kind
abbrev pub text_among : List (List ℕ × Kind) → Kind → List ℕ
text_among [] k = []
text_among (f ∷ fs) k = if is f.1 k then f.0 else text_among fs k

-- the one text of a kind that is not open
abbrev pub fixed_text : Kind → List ℕ
fixed_text k = text_among fixed_tokens k
