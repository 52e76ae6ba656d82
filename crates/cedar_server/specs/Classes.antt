-- The class of a token: from its kind, the kind of the token before it, and the kinds of the two after it.
use Rattle.std.specs.Prelude.{Bool, false, ◌&&◌, ◌||◌, if◌then◌else◌, Option, Some, None}
use Rattle.cedar_tokens.specs.Kinds.{is, is_ident, is_any_word}
use Rattle.cedar_tokens.specs.declared.kind.Kind.{Kind}
use Rattle.cedar_server.specs.declared.classes.Class.{Class}
use Rattle.cedar_server.specs.declared.classes.Neighbours.{Neighbours}

-- a token is there, of this kind
abbrev pub is_there : Option Kind → Kind → Bool
is_there None k = false
is_there (Some x) k = is k x

-- what a kind says alone
abbrev pub own_class : Kind → Class
own_class Kind.Str = Class.String
own_class Kind.Number = Class.Number
own_class Kind.PrincipalSlot = Class.Slot
own_class Kind.ResourceSlot = Class.Slot
own_class Kind.Principal = Class.Variable
own_class Kind.Action = Class.Variable
own_class Kind.Resource = Class.Variable
own_class Kind.Context = Class.Variable
own_class Kind.Identifier = Class.Name
own_class Kind.Equal = Class.Operator
own_class Kind.NotEqual = Class.Operator
own_class Kind.Lt = Class.Operator
own_class Kind.Le = Class.Operator
own_class Kind.Gt = Class.Operator
own_class Kind.Ge = Class.Operator
own_class Kind.Or = Class.Operator
own_class Kind.And = Class.Operator
own_class Kind.Add = Class.Operator
own_class Kind.Dash = Class.Operator
own_class Kind.Mul = Class.Operator
own_class Kind.Div = Class.Operator
own_class Kind.Modulo = Class.Operator
own_class Kind.Neg = Class.Operator
own_class Kind.Dot = Class.Punctuation
own_class Kind.Comma = Class.Punctuation
own_class Kind.SemiColon = Class.Punctuation
own_class Kind.Colon = Class.Punctuation
own_class Kind.DoubleColon = Class.Punctuation
own_class Kind.LParen = Class.Punctuation
own_class Kind.RParen = Class.Punctuation
own_class Kind.LBrace = Class.Punctuation
own_class Kind.RBrace = Class.Punctuation
own_class Kind.LBracket = Class.Punctuation
own_class Kind.RBracket = Class.Punctuation
own_class Kind.At = Class.Annotation
own_class k = Class.Keyword

-- A name: after `.` a method if it is called, else an attribute; after `has` and before `:` an attribute; before `::` the type of
-- an entity if a string follows, else a namespace; after `::` and `is` a function if it is called, else a type.
-- Any other identifier that is called is a function.
abbrev pub name_class : Neighbours → Kind → Class
name_class n k =
    if is_there n.before Kind.Dot then (if is_there n.next Kind.LParen then Class.Method else Class.Attribute)
    else (if is_there n.before Kind.Has || is_there n.next Kind.Colon then Class.Attribute
    else (if is_there n.next Kind.DoubleColon then (if is_there n.second Kind.Str then Class.EntityType else Class.Namespace)
    else (if is_there n.before Kind.DoubleColon || is_there n.before Kind.Is then (if is_there n.next Kind.LParen then Class.Function else Class.EntityType)
    else (if is Kind.Identifier k && is_there n.next Kind.LParen then Class.Function else own_class k))))

-- the word after `@` is an annotation's name, and any other word that isn't reserved is a name
abbrev pub class_of : Neighbours → Kind → Class
class_of n k =
    if is_any_word k && is_there n.before Kind.At then Class.Annotation
    else (if is_ident k then name_class n k else own_class k)
