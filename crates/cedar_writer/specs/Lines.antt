-- The lines of the written grammar as rules, in its order, each with its row of the table: what one function reads and writes.
-- A rule decides by the next token, so what two alternatives of a line begin with is before both, and a group that only one of
-- them has begins before that; `late` and `ungrouped` say how it ends.
use Rattle.std.specs.Prelude.{ℤ, pos, Bool, ◌||◌, ◌&&◌, not, List, [], ◌∷◌}
use Rattle.cedar_tokens.specs.declared.kind.Kind.{Kind}
use Rattle.cedar_tokens.specs.declared.kind.Kind.TheVariants as K
use Rattle.cedar_tokens.specs.Kinds.{is, is_any_word, is_ident, is_variable, is_boolean, is_comparison, is_effect, is_cond_word}
use Rattle.cedar_print.specs.WrittenMarks as M
use Rattle.cedar_writer.specs.Rules.{Rule, never, inner, put, token, star, tail, deeper, lifted, fork, peek, ◌▸◌, ◌∥◌, nothing, space, line, line_or_nil, hard, begin, end_group, end_nothing, end_nest, group, nest, late, tok_then, tok, one_of, maybe, signs}

-- ---- tokens, and what has no indentation

-- STR, NUMBER and IDENT
abbrev pub str : Rule
str = tok K.Str

abbrev pub number : Rule
number = tok K.Number

abbrev pub ident : Rule
ident = one_of is_ident

-- X {',' X} [',']
abbrev pub items : Rule → Rule
items x = x ▸ tail K.Comma (line ▸ x) nothing nothing

-- Path = IDENT {'::' IDENT}
abbrev pub path : Rule
path = ident ▸ star (tok K.DoubleColon ▸ ident)

-- Entity = Path '::' STR
abbrev pub entity : Rule
entity = ident ▸ tail K.DoubleColon ident str never

-- Annotation = '@' anyword ['(' STR ')']
abbrev pub annotation : Rule
annotation = tok K.At ▸ one_of is_any_word ▸ (tok K.LParen ▸ str ▸ tok_then K.RParen M.hard ∥ hard)

-- '.' IDENT
abbrev pub field : Rule
field = tok K.Dot ▸ ident

-- relop = '<' | '<=' | '>' | '>=' | '!=' | '==' | 'in'
abbrev pub relop : Rule
relop = one_of is_comparison

-- the ends of two groups that began before a variable without operator
abbrev pub ungrouped : Rule
ungrouped = end_nothing ▸ end_nothing

-- how three bare variables begin
abbrev pub bare : List (Kind → Bool)
bare = is K.Principal ∷ is K.Comma ∷ is K.Action ∷ is K.Comma ∷ is K.Resource ∷ (λ k. is K.Comma k || is K.RParen k) ∷ []

-- a word that is no variable
abbrev pub is_name : Kind → Bool
is_name k = is_ident k && not (is_variable k)

module _ (i : ℤ) where
  -- {X}, with a possible break before each X but the first
  abbrev pub accesses : Rule → Rule
  accesses x = nest i (maybe (x ▸ star (line_or_nil ▸ x)))

  -- First {X}
  abbrev pub accessed : Rule → Rule → Rule
  accessed first x = group (first ▸ accesses x)

  -- an operand that is X alone, without operators, signs and accesses
  abbrev pub operand : Rule → Rule
  operand x = group (group (group (x ▸ nest i nothing)))

  -- ---- the scope

  -- the type part of a variable: 'is' Path
  abbrev pub type_part : Rule
  type_part = group (nest i (group (line ▸ tok K.Is) ▸ line ▸ path))

  -- op Y after a variable, with the ends of two groups that began before it
  abbrev pub compared : Kind → Rule → Rule
  compared op y = (line ▸ tok op) ▸ end_group ▸ nest i (line ▸ y) ▸ end_group

  -- variable [ '==' VE | 'is' Path ['in' VE] | 'in' VE ]      VE = Entity | slot
  abbrev pub scoped : Kind → Kind → Rule
  scoped variable slot = lifted (begin ▸ begin ▸ tok variable ▸ (compared K.Equal (operand (tok slot ∥ entity))
      ∥ maybe type_part ▸ (compared K.In (operand (tok slot ∥ entity)) ∥ ungrouped)))

  -- Principal = 'principal' [ '==' PE | 'is' Path ['in' PE] | 'in' PE ]      PE = Entity | '?principal'
  abbrev pub principal : Rule
  principal = scoped K.Principal K.PrincipalSlot

  -- Resource = 'resource' [ '==' RE | 'is' Path ['in' RE] | 'in' RE ]      RE = Entity | '?resource'
  abbrev pub resource : Rule
  resource = scoped K.Resource K.ResourceSlot

  -- Action = 'action' [ '==' Entity | 'in' (Entity | '[' [Entity {',' Entity} [',']] ']') ]
  abbrev pub action : Rule
  action = lifted (begin ▸ begin ▸ tok K.Action ▸ (compared K.Equal (operand entity)
      ∥ compared K.In (operand (entity ∥ tok K.LBracket ▸ nest (pos 1) (maybe (items (operand entity))) ▸ tok K.RBracket))
      ∥ ungrouped))

  -- Principal ',' Action ',' Resource, with `next` in place of a missing trailing text after a comma
  abbrev pub variables : M.Mark → Rule
  variables next = principal ▸ tok_then K.Comma next ▸ action ▸ tok_then K.Comma next ▸ resource

  -- The same between its brackets. Three bare variables are on one line if they fit, others are on a line each. Both read
  -- the same, whichever of them the first tokens tell.
  abbrev pub bare_scope : Rule
  bare_scope = put (M.begin ∷ M.nest i ∷ []) ▸ variables M.space ▸ put (M.end_nest ∷ M.end_group ∷ [])

  abbrev pub broken_scope : Rule
  broken_scope = put (M.nest i ∷ M.hard ∷ []) ▸ variables M.hard ▸ put (M.end_nest ∷ M.hard ∷ [])

  -- ---- expressions

  -- '(' [Exprs] ')' after a path or a field      Exprs = Expr {',' Expr} [',']
  abbrev pub call : Rule
  call = deeper K.LParen [] (maybe (nest i (line_or_nil ▸ items inner) ▸ line_or_nil) ▸ tok K.RParen)

  -- Init = (IDENT | STR) ':' Expr
  abbrev pub init : Rule
  init = (ident ∥ str) ▸ tok K.Colon ▸ space ▸ inner

  -- '(' Expr ')'
  abbrev pub parens : Rule
  parens = deeper K.LParen (M.begin ∷ []) ((nest (pos 1) inner ▸ tok K.RParen) ▸ end_group)

  -- '[' [Exprs] ']'
  abbrev pub list : Rule
  list = deeper K.LBracket [] (nest (pos 1) (maybe (items inner)) ▸ tok K.RBracket)

  -- '{' [Init {',' Init} [',']] '}'
  abbrev pub fields : Rule
  fields = deeper K.LBrace [] (maybe (nest i (group (line ▸ items init ▸ line))) ▸ tok K.RBrace)

  -- Primary but for what begins with a word
  abbrev pub literal : Rule
  literal = one_of is_boolean ∥ number ∥ str ∥ parens ∥ list ∥ fields

  -- Access = '.' IDENT ['(' [Exprs] ')'] | '[' STR ']'
  abbrev pub access : Rule
  access = field ▸ maybe call ∥ tok K.LBracket ▸ str ▸ tok K.RBracket

  -- the rest of an Entity or of a called path, after its first word, with accesses
  abbrev pub reference : Rule
  reference = tail K.DoubleColon ident (str ▸ accesses access) (nest i (call ▸ star (line_or_nil ▸ access)))

  -- Member = Primary {Access} | Path '(' [Exprs] ')' {Access}
  abbrev pub member : Rule
  member = group (literal ▸ accesses access ∥ one_of is_variable ▸ (reference ∥ accesses access) ∥ one_of is_name ▸ reference)

  -- Unary = [one to four '!', or one to four '-'] Member
  abbrev pub unary : Rule
  unary = maybe (signs K.Neg ∥ signs K.Dash) ▸ member

  -- Mult = Unary {'*' Unary}
  abbrev pub mult : Rule
  mult = group (unary ▸ star (space ▸ tok K.Mul ▸ line ▸ unary))

  -- Add = Mult {('+'|'-') Mult}
  abbrev pub add : Rule
  add = group (mult ▸ star (space ▸ one_of (λ k. is K.Add k || is K.Dash k) ▸ line ▸ mult))

  -- Relation = Add [relop Add] | Add 'has' (STR | IDENT {'.' IDENT}) | Add 'like' STR | Add 'is' Path ['in' Add]
  abbrev pub relation : Rule
  relation = late add
      (line ▸ tok K.Has ▸ line ▸ nest i (operand str ∥ group (group (accessed ident field)))
      ∥ line ▸ tok K.Like ▸ line ▸ nest i (operand str)
      ∥ space ▸ tok K.Is ▸ space ▸ nest i path ▸ maybe (line ▸ tok K.In ▸ space ▸ nest i add))
      (maybe (space ▸ relop ▸ space ▸ add))

  -- And = Relation {'&&' Relation}
  abbrev pub and : Rule
  and = relation ▸ star (space ▸ tok_then K.And M.line ▸ relation)

  -- Or = And {'||' And}
  abbrev pub or : Rule
  or = and ▸ star (space ▸ tok_then K.Or M.line ▸ and)

  -- an expression after `if`, `then` or `else`
  abbrev pub below : Rule
  below = nest i (line ▸ inner)

  -- Expr = 'if' Expr 'then' Expr 'else' Expr | Or
  abbrev pub expr : Rule
  expr = deeper K.If (M.begin ∷ []) ((below ▸ line ▸ tok K.Then ▸ below ▸ line ▸ tok K.Else ▸ below) ▸ end_group) ∥ or

  -- ---- policies

  -- '{' Expr '}', with a group that begins after the text of the first bracket
  abbrev pub block : Rule
  block = token (is K.LBrace) (M.begin ∷ M.nest i ∷ []) (M.line ∷ []) ▸ lifted (group inner) ▸ end_nest ▸ line ▸ tok K.RBrace ▸ end_group

  -- Cond = ('when'|'unless') '{' Expr '}'
  abbrev pub cond : Rule
  cond = lifted (group (token is_cond_word [] (M.line ∷ []) ▸ block))

  -- [','] ')' {Cond} ';'
  abbrev pub policy_end : Rule
  policy_end = maybe (tok K.Comma) ▸ fork (is K.RParen) (M.hard ∷ []) []
      (cond ▸ star (hard ▸ cond) ▸ tok K.SemiColon) (tok K.SemiColon)

  -- Policy = {Annotation} ('permit'|'forbid') '(' Principal ',' Action ',' Resource [','] ')' {Cond} ';'
  abbrev pub policy : Rule
  policy = star annotation ▸ lifted (group (one_of is_effect ▸ line ▸ tok K.LParen))
      ▸ peek bare (bare_scope ▸ policy_end) (broken_scope ▸ policy_end)
