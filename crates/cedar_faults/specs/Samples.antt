-- All kinds of tokens, and a token of each.
use Rattle.std.specs.Prelude.{ℕ, List, [], ◌∷◌, codes}
use Rattle.cedar_tokens.specs.declared.kind.Kind.{Kind}
use Rattle.cedar_tokens.specs.declared.kind.Kind.TheVariants as K

-- in the order of `Kind`
abbrev pub all_kinds : List Kind
all_kinds = K.True ∷ K.False ∷ K.If ∷ K.Then ∷ K.Else ∷ K.In ∷ K.Is ∷ K.Like ∷ K.Has ∷ K.Permit ∷ K.Forbid ∷ K.When ∷ K.Unless ∷ K.Principal ∷ K.Action ∷ K.Resource ∷ K.Context ∷ K.Identifier ∷ K.PrincipalSlot ∷ K.ResourceSlot ∷ K.Number ∷ K.Str ∷ K.At ∷ K.Dot ∷ K.Comma ∷ K.SemiColon ∷ K.Colon ∷ K.DoubleColon ∷ K.LParen ∷ K.RParen ∷ K.LBrace ∷ K.RBrace ∷ K.LBracket ∷ K.RBracket ∷ K.Equal ∷ K.NotEqual ∷ K.Lt ∷ K.Le ∷ K.Gt ∷ K.Ge ∷ K.Or ∷ K.And ∷ K.Add ∷ K.Dash ∷ K.Mul ∷ K.Div ∷ K.Modulo ∷ K.Neg ∷ []

-- a token of each kind
abbrev pub sample : Kind → List ℕ
sample K.True = codes "true"
sample K.False = codes "false"
sample K.If = codes "if"
sample K.Then = codes "then"
sample K.Else = codes "else"
sample K.In = codes "in"
sample K.Is = codes "is"
sample K.Like = codes "like"
sample K.Has = codes "has"
sample K.Permit = codes "permit"
sample K.Forbid = codes "forbid"
sample K.When = codes "when"
sample K.Unless = codes "unless"
sample K.Principal = codes "principal"
sample K.Action = codes "action"
sample K.Resource = codes "resource"
sample K.Context = codes "context"
sample K.Identifier = codes "a"
sample K.PrincipalSlot = codes "?principal"
sample K.ResourceSlot = codes "?resource"
sample K.Number = codes "0"
sample K.Str = codes "\"\""
sample K.At = codes "@"
sample K.Dot = codes "."
sample K.Comma = codes ","
sample K.SemiColon = codes ";"
sample K.Colon = codes ":"
sample K.DoubleColon = codes "::"
sample K.LParen = codes "("
sample K.RParen = codes ")"
sample K.LBrace = codes "{"
sample K.RBrace = codes "}"
sample K.LBracket = codes "["
sample K.RBracket = codes "]"
sample K.Equal = codes "=="
sample K.NotEqual = codes "!="
sample K.Lt = codes "<"
sample K.Le = codes "<="
sample K.Gt = codes ">"
sample K.Ge = codes ">="
sample K.Or = codes "||"
sample K.And = codes "&&"
sample K.Add = codes "+"
sample K.Dash = codes "-"
sample K.Mul = codes "*"
sample K.Div = codes "/"
sample K.Modulo = codes "%"
sample K.Neg = codes "!"
