-- The table by which parts of the grammar are read on.
use Rattle.std.specs.Prelude.{Bool, true, false, ◌||◌, ◌&&◌, not, List, [], ◌∷◌, if◌then◌else◌, Option, Some, None}
use Rattle.cedar_tokens.specs.declared.kind.Kind.{Kind}
use Rattle.cedar_tokens.specs.declared.kind.Kind.TheVariants as K
use Rattle.cedar_tokens.specs.Kinds.{is, is_any_word, is_ident, is_variable, is_boolean, is_comparison, is_effect, is_cond_word}
use Rattle.cedar_grammar.specs.Reader.Rules.{expr_first}
use Rattle.cedar_faults.specs.declared.part.Part.{Part}
use Rattle.cedar_faults.specs.declared.part.Part.TheVariants as P
use Rattle.cedar_faults.specs.declared.part.Turn.{Turn}
use Rattle.cedar_faults.specs.declared.part.Turn.TheVariants as T

-- what is done with a token that a part can begin with: it is read, and these parts are left of the part; the same, if brackets
-- and ifs may nest there; or it is still to be read, as the first token of these parts
pub data Way : Type 0 where
  takes nests opens : List Part → Way

-- by which tokens a part begins, and the way to read on with each
abbrev pub table : Part → List ((Kind → Bool) × Way)
table (P.Token own) = (is own, takes []) ∷ []
table P.Word = (is_any_word, takes []) ∷ []
table P.Identifier = (is_ident, takes []) ∷ []
table P.Policies = (is K.At, takes (P.Word ∷ P.AnnotationText ∷ P.Policy ∷ P.Policies ∷ [])) ∷ (is_effect, takes (P.Signature ∷ P.Policies ∷ [])) ∷ []
table P.Policy = (is K.At, takes (P.Word ∷ P.AnnotationText ∷ P.Policy ∷ [])) ∷ []
table P.Effect = (is_effect, takes []) ∷ []
table P.AnnotationText = (is K.LParen, takes (P.Token K.Str ∷ P.Token K.RParen ∷ [])) ∷ []
table P.PrincipalTest = (is K.Equal, takes (P.PrincipalEntity ∷ [])) ∷ (is K.Is, takes (P.Identifier ∷ P.PathMarks ∷ P.PrincipalIn ∷ [])) ∷ (is K.In, takes (P.PrincipalEntity ∷ [])) ∷ []
table P.PrincipalEntity = (is K.PrincipalSlot, takes []) ∷ (is_ident, takes (P.EntityMarks ∷ [])) ∷ []
table P.PrincipalIn = (is K.In, takes (P.PrincipalEntity ∷ [])) ∷ []
table P.ActionTest = (is K.Equal, takes (P.Entity ∷ [])) ∷ (is K.In, takes (P.ActionSet ∷ [])) ∷ []
table P.ActionSet = (is K.LBracket, takes (P.Entities ∷ P.Token K.RBracket ∷ [])) ∷ (is_ident, takes (P.EntityMarks ∷ [])) ∷ []
table P.ResourceTest = (is K.Equal, takes (P.ResourceEntity ∷ [])) ∷ (is K.Is, takes (P.Identifier ∷ P.PathMarks ∷ P.ResourceIn ∷ [])) ∷ (is K.In, takes (P.ResourceEntity ∷ [])) ∷ []
table P.ResourceEntity = (is K.ResourceSlot, takes []) ∷ (is_ident, takes (P.EntityMarks ∷ [])) ∷ []
table P.ResourceIn = (is K.In, takes (P.ResourceEntity ∷ [])) ∷ []
table P.Entity = (is_ident, takes (P.EntityMarks ∷ [])) ∷ []
table P.EntityMarks = (is K.DoubleColon, takes (P.EntityNext ∷ [])) ∷ []
table P.EntityNext = (is_ident, takes (P.EntityMarks ∷ [])) ∷ (is K.Str, takes []) ∷ []
table P.Entities = (is_ident, takes (P.EntityMarks ∷ P.MoreEntities ∷ [])) ∷ []
table P.MoreEntities = (is K.Comma, takes (P.Entities ∷ [])) ∷ []
table P.PathMarks = (is K.DoubleColon, takes (P.Identifier ∷ P.PathMarks ∷ [])) ∷ []
table P.Comma = (is K.Comma, takes []) ∷ []
table P.Conditions = (is_cond_word, takes (P.Token K.LBrace ∷ P.Inner ∷ P.Token K.RBrace ∷ P.Conditions ∷ [])) ∷ []
table P.Expr = (is K.If, nests (P.Inner ∷ P.Token K.Then ∷ P.Inner ∷ P.Token K.Else ∷ P.Inner ∷ [])) ∷ []
table P.MoreOr = (is K.Or, takes (P.And ∷ P.MoreOr ∷ [])) ∷ []
table P.MoreAnd = (is K.And, takes (P.Relation ∷ P.MoreAnd ∷ [])) ∷ []
table P.Comparison = (is_comparison, takes (P.Add ∷ [])) ∷ (is K.Has, takes (P.HasOperand ∷ [])) ∷ (is K.Like, takes (P.Token K.Str ∷ [])) ∷ (is K.Is, takes (P.Identifier ∷ P.PathMarks ∷ P.InAdd ∷ [])) ∷ []
table P.HasOperand = (is K.Str, takes []) ∷ (is_ident, takes (P.Fields ∷ [])) ∷ []
table P.Fields = (is K.Dot, takes (P.Identifier ∷ P.Fields ∷ [])) ∷ []
table P.InAdd = (is K.In, takes (P.Add ∷ [])) ∷ []
table P.MoreAdd = ((λ x. is K.Add x || is K.Dash x), takes (P.Mult ∷ P.MoreAdd ∷ [])) ∷ []
table P.MoreMult = (is K.Mul, takes (P.Unary ∷ P.MoreMult ∷ [])) ∷ []
table P.Unary = (is K.Neg, takes (P.ThreeNegs ∷ P.Member ∷ [])) ∷ (is K.Dash, takes (P.ThreeDashes ∷ P.Member ∷ [])) ∷ []
table P.ThreeNegs = (is K.Neg, takes (P.TwoNegs ∷ [])) ∷ []
table P.TwoNegs = (is K.Neg, takes (P.OneNeg ∷ [])) ∷ []
table P.OneNeg = (is K.Neg, takes []) ∷ []
table P.ThreeDashes = (is K.Dash, takes (P.TwoDashes ∷ [])) ∷ []
table P.TwoDashes = (is K.Dash, takes (P.OneDash ∷ [])) ∷ []
table P.OneDash = (is K.Dash, takes []) ∷ []
table P.Item = (is_boolean, takes []) ∷ (is K.Number, takes []) ∷ (is K.Str, takes [])
    ∷ (is K.LParen, nests (P.Inner ∷ P.Token K.RParen ∷ [])) ∷ (is K.LBracket, nests (P.Exprs ∷ P.Token K.RBracket ∷ [])) ∷ (is K.LBrace, nests (P.Inits ∷ P.Token K.RBrace ∷ []))
    ∷ (is_variable, takes (P.VariableMarks ∷ [])) ∷ ((λ k. is_ident k && not (is_variable k)), takes (P.NameMarks ∷ [])) ∷ []
table P.VariableMarks = (is K.DoubleColon, takes (P.NameNext ∷ [])) ∷ (is K.LParen, nests (P.Exprs ∷ P.Token K.RParen ∷ [])) ∷ []
table P.NameMarks = (is K.DoubleColon, takes (P.NameNext ∷ [])) ∷ (is K.LParen, nests (P.Exprs ∷ P.Token K.RParen ∷ [])) ∷ []
table P.NameNext = (is_ident, takes (P.NameMarks ∷ [])) ∷ (is K.Str, takes []) ∷ []
table P.Accesses = (is K.Dot, takes (P.Identifier ∷ P.Call ∷ P.Accesses ∷ [])) ∷ (is K.LBracket, takes (P.Token K.Str ∷ P.Token K.RBracket ∷ P.Accesses ∷ [])) ∷ []
table P.Call = (is K.LParen, nests (P.Exprs ∷ P.Token K.RParen ∷ [])) ∷ []
table P.Exprs = (expr_first, opens (P.Inner ∷ P.MoreExprs ∷ [])) ∷ []
table P.MoreExprs = (is K.Comma, takes (P.Exprs ∷ [])) ∷ []
table P.Inits = (is_ident, takes (P.Token K.Colon ∷ P.Inner ∷ P.MoreInits ∷ [])) ∷ (is K.Str, takes (P.Token K.Colon ∷ P.Inner ∷ P.MoreInits ∷ [])) ∷ []
table P.MoreInits = (is K.Comma, takes (P.Inits ∷ [])) ∷ []
table p = []

-- the parts that are read in place of a part with any other token, if there are any; an optional part is passed over
abbrev pub otherwise : Part → Option (List Part)
otherwise P.Policy = Some (P.Effect ∷ P.Signature ∷ [])
otherwise P.Signature = Some (P.Token K.LParen ∷ P.Token K.Principal ∷ P.PrincipalTest ∷ P.Token K.Comma ∷ P.Token K.Action ∷ P.ActionTest ∷ P.Token K.Comma ∷ P.Token K.Resource ∷ P.ResourceTest ∷ P.Comma ∷ P.Token K.RParen ∷ P.Conditions ∷ P.Token K.SemiColon ∷ [])
otherwise P.Expr = Some (P.Or ∷ [])
otherwise P.Or = Some (P.And ∷ P.MoreOr ∷ [])
otherwise P.And = Some (P.Relation ∷ P.MoreAnd ∷ [])
otherwise P.Relation = Some (P.Add ∷ P.Comparison ∷ [])
otherwise P.Add = Some (P.Mult ∷ P.MoreAdd ∷ [])
otherwise P.Mult = Some (P.Unary ∷ P.MoreMult ∷ [])
otherwise P.Unary = Some (P.Member ∷ [])
otherwise P.Member = Some (P.Item ∷ P.Accesses ∷ [])
otherwise (P.Token own) = None
otherwise P.Word = None
otherwise P.Identifier = None
otherwise P.Effect = None
otherwise P.PrincipalEntity = None
otherwise P.ActionSet = None
otherwise P.ResourceEntity = None
otherwise P.Entity = None
otherwise P.EntityMarks = None
otherwise P.EntityNext = None
otherwise P.Inner = None
otherwise P.HasOperand = None
otherwise P.Item = None
otherwise P.NameMarks = None
otherwise P.NameNext = None
otherwise p = Some []

abbrev pub passes : Option (List Part) → Bool
passes None = false
passes (Some []) = true
passes (Some (p ∷ ps)) = false

-- a turn, with its parts as a list
pub data Step : Type 0 where
  taken opened : List Part → Step
  stopped : Step

abbrev pub step_of : Turn → Step
step_of (T.Takes parts) = taken parts.now
step_of (T.Opens parts) = opened parts.now
step_of T.Stops = stopped

abbrev pub last : Option (List Part) → Step
last None = stopped
last (Some parts) = opened parts

abbrev pub along : Way → Bool → Step
along (takes parts) room = taken parts
along (nests parts) room = if room then taken parts else stopped
along (opens parts) room = opened parts

abbrev pub first_of : List ((Kind → Bool) × Way) → Step → Kind → Bool → Step
first_of [] other k room = other
first_of ((test, way) ∷ more) other k room = if test k then along way room else first_of more other k room

-- how a part is read on with a token
abbrev pub turn : Part → Kind → Bool → Step
turn P.Inner k room = if room then opened (P.Expr ∷ []) else stopped
turn p k room = first_of (table p) (last (otherwise p)) k room

-- the part can be empty: without a token for it, it is passed over
abbrev pub is_optional : Part → Bool
is_optional p = passes (otherwise p)
