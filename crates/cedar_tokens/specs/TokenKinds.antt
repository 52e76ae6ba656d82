-- The kind of a token follows from its text.
use Rattle.std.specs.Prelude.{ℕ, ◌==◌, List, [], ◌∷◌, if◌then◌else◌, codes}
use Rattle.std.specs.Str.{bytes_eq}
use Rattle.std.specs.Char.{is_ascii_digit}
use Rattle.cedar_tokens.specs.declared.kind.Kind.{Kind}
use Rattle.cedar_tokens.specs.Bytes.{quote}

-- the keywords, slots and punctuators, each with its kind
abbrev pub fixed_tokens : List (List ℕ × Kind)
fixed_tokens =
    (codes "true", Kind.True) ∷ (codes "false", Kind.False) ∷ (codes "if", Kind.If) ∷ (codes "then", Kind.Then) ∷ (codes "else", Kind.Else)
    ∷ (codes "in", Kind.In) ∷ (codes "is", Kind.Is) ∷ (codes "like", Kind.Like) ∷ (codes "has", Kind.Has)
    ∷ (codes "permit", Kind.Permit) ∷ (codes "forbid", Kind.Forbid) ∷ (codes "when", Kind.When) ∷ (codes "unless", Kind.Unless)
    ∷ (codes "principal", Kind.Principal) ∷ (codes "action", Kind.Action) ∷ (codes "resource", Kind.Resource) ∷ (codes "context", Kind.Context)
    ∷ (codes "?principal", Kind.PrincipalSlot) ∷ (codes "?resource", Kind.ResourceSlot)
    ∷ (codes "@", Kind.At) ∷ (codes ".", Kind.Dot) ∷ (codes ",", Kind.Comma) ∷ (codes ";", Kind.SemiColon) ∷ (codes ":", Kind.Colon)
    ∷ (codes "::", Kind.DoubleColon)
    ∷ (codes "(", Kind.LParen) ∷ (codes ")", Kind.RParen) ∷ (codes "{", Kind.LBrace) ∷ (codes "}", Kind.RBrace) ∷ (codes "[", Kind.LBracket)
    ∷ (codes "]", Kind.RBracket)
    ∷ (codes "==", Kind.Equal) ∷ (codes "!=", Kind.NotEqual) ∷ (codes "<", Kind.Lt) ∷ (codes "<=", Kind.Le) ∷ (codes ">", Kind.Gt)
    ∷ (codes ">=", Kind.Ge)
    ∷ (codes "||", Kind.Or) ∷ (codes "&&", Kind.And)
    ∷ (codes "+", Kind.Add) ∷ (codes "-", Kind.Dash) ∷ (codes "*", Kind.Mul) ∷ (codes "/", Kind.Div) ∷ (codes "%", Kind.Modulo)
    ∷ (codes "!", Kind.Neg) ∷ []

-- of the other tokens a string begins with a quote, a number with a digit, and an identifier with neither
abbrev pub other_kind : List ℕ → Kind
other_kind [] = Kind.Identifier
other_kind (b ∷ bs) = if b == quote then Kind.Str else (if is_ascii_digit b then Kind.Number else Kind.Identifier)

-- the kind of the first token of the list that has this text
abbrev pub kind_among : List (List ℕ × Kind) → List ℕ → Kind
kind_among [] text = other_kind text
kind_among (f ∷ fs) text = if bytes_eq f.0 text then f.1 else kind_among fs text

abbrev pub kind_of : List ℕ → Kind
kind_of text = kind_among fixed_tokens text
