-- Lines of the grammar by the names of the lines below them, and parts of them: what one function reads and writes. Of a line
-- that is `unfoldable` those above see the name alone.
use Rattle.std.specs.Prelude.{ℤ, pos, ◌||◌, [], ◌∷◌}
use Rattle.cedar_tokens.specs.declared.kind.Kind.{Kind}
use Rattle.cedar_tokens.specs.declared.kind.Kind.TheVariants as K
use Rattle.cedar_tokens.specs.Kinds.{is, is_boolean, is_variable, is_effect}
use Rattle.cedar_print.specs.WrittenMarks as M
use Rattle.cedar_writer.specs.Rules.{Rule, inner, put, star, tail, deeper, lifted, fork, peek, ◌▸◌, ◌∥◌, nothing, space, line, line_or_nil, hard, begin, end_group, end_nothing, end_nest, group, nest, tok, tok_then, one_of, maybe, signs}
use Rattle.cedar_writer.specs.Lines as lines
use Rattle.cedar_writer.specs.Lines.{ident, number, str, items, field, relop, path, entity, ungrouped, is_name, annotation, operand, compared, bare}

-- ---- what has no indentation

-- '::' IDENT
abbrev pub next_word : Rule
next_word = tok K.DoubleColon ▸ ident

-- [one to four '!', or one to four '-']
abbrev pub some_signs : Rule
some_signs = maybe (signs K.Neg ∥ signs K.Dash)

-- ['(' STR ')'] after an annotation's name, and a break
abbrev pub annotation_end : Rule
annotation_end = tok K.LParen ▸ str ▸ tok_then K.RParen M.hard ∥ hard

-- ['.' IDENT] after a possible break
abbrev pub next_field : Rule
next_field = line_or_nil ▸ field

-- IDENT | STR
abbrev pub key : Rule
key = ident ∥ str

-- [',']
abbrev pub last_comma : Rule
last_comma = maybe (tok K.Comma)

-- three groups begin, one in the other
abbrev pub begin_operand : Rule
begin_operand = begin ▸ begin ▸ begin

-- they end
abbrev pub end_groups : Rule
end_groups = end_group ▸ end_group ▸ end_group

-- '[' STR ']'
abbrev pub index : Rule
index = tok K.LBracket ▸ str ▸ tok K.RBracket

-- how `compared` ends
abbrev pub end_compared : Rule
end_compared = end_nest ▸ end_group

-- ('permit'|'forbid') '('
abbrev pub head : Rule
head = lifted (group (one_of is_effect ▸ line ▸ tok K.LParen))

-- slot | Entity
abbrev pub slot_or_entity : Kind → Rule
slot_or_entity slot = tok slot ∥ entity

module _ (i : ℤ) where
  -- an empty nest, and the three groups end
  abbrev pub end_operand : Rule
  end_operand = nest i nothing ▸ end_groups

  -- ---- the scope

  -- how `compared` begins
  abbrev pub begin_compared : Kind → Rule
  begin_compared op = (line ▸ tok op) ▸ end_group ▸ put (M.nest i ∷ []) ▸ line

  -- slot | Entity, as an operand
  unfoldable pub slot_operand : Kind → Rule
  slot_operand slot = operand i (slot_or_entity slot)

  -- Entity, as an operand
  abbrev pub entity_operand : Rule
  entity_operand = operand i entity

  -- [Entity {',' Entity} [',']]
  unfoldable pub some_entities : Rule
  some_entities = maybe (items entity_operand)

  -- the same between brackets
  abbrev pub entities : Rule
  entities = tok K.LBracket ▸ nest (pos 1) some_entities ▸ tok K.RBracket

  -- Entity | '[' [Entity {',' Entity} [',']] ']', as an operand
  unfoldable pub entities_operand : Rule
  entities_operand = operand i (entity ∥ entities)

  -- after a variable and its type part: ['in' VE]
  abbrev pub scoped_in : Kind → Rule
  scoped_in slot = compared i K.In (slot_operand slot) ∥ ungrouped

  -- after a variable: [ '==' VE | 'is' Path ['in' VE] | 'in' VE ]
  abbrev pub scoped_end : Kind → Rule
  scoped_end slot = compared i K.Equal (slot_operand slot) ∥ maybe (lines.type_part i) ▸ scoped_in slot

  unfoldable pub scoped : Kind → Kind → Rule
  scoped variable slot = lifted (begin ▸ begin ▸ tok variable ▸ scoped_end slot)

  -- after `action`: [ '==' Entity | 'in' (Entity | '[' [Entity {',' Entity} [',']] ']') ]
  abbrev pub action_end : Rule
  action_end = compared i K.Equal entity_operand ∥ compared i K.In entities_operand ∥ ungrouped

  unfoldable pub action : Rule
  action = lifted (begin ▸ begin ▸ tok K.Action ▸ action_end)

  unfoldable pub variables : M.Mark → Rule
  variables next = scoped K.Principal K.PrincipalSlot ▸ tok_then K.Comma next ▸ action ▸ tok_then K.Comma next
      ▸ scoped K.Resource K.ResourceSlot

  unfoldable pub bare_scope : Rule
  bare_scope = put (M.begin ∷ M.nest i ∷ []) ▸ variables M.space ▸ put (M.end_nest ∷ M.end_group ∷ [])

  unfoldable pub broken_scope : Rule
  broken_scope = put (M.nest i ∷ M.hard ∷ []) ▸ variables M.hard ▸ put (M.end_nest ∷ M.hard ∷ [])

  -- ---- expressions

  -- [Exprs] of a call
  unfoldable pub some_arguments : Rule
  some_arguments = maybe (nest i (line_or_nil ▸ items inner) ▸ line_or_nil)

  abbrev pub call : Rule
  call = deeper K.LParen [] (some_arguments ▸ tok K.RParen)

  -- [Exprs]
  unfoldable pub some_exprs : Rule
  some_exprs = maybe (items inner)

  abbrev pub list : Rule
  list = deeper K.LBracket [] (nest (pos 1) some_exprs ▸ tok K.RBracket)

  -- [Init {',' Init} [',']]
  unfoldable pub some_inits : Rule
  some_inits = maybe (nest i (group (line ▸ items (lines.init i) ▸ line)))

  abbrev pub fields : Rule
  fields = deeper K.LBrace [] (some_inits ▸ tok K.RBrace)

  abbrev pub literal : Rule
  literal = one_of is_boolean ∥ number ∥ str ∥ lines.parens i ∥ list ∥ fields

  abbrev pub access : Rule
  access = field ▸ maybe call ∥ index

  -- Access after a possible break
  abbrev pub next_access : Rule
  next_access = line_or_nil ▸ access

  -- {Access}
  unfoldable pub accesses : Rule
  accesses = nest i (maybe (access ▸ star next_access))

  -- '(' [Exprs] ')' {Access}
  abbrev pub called : Rule
  called = nest i (call ▸ star next_access)

  abbrev pub reference : Rule
  reference = tail K.DoubleColon ident (str ▸ accesses) called

  -- what comes after a variable in a member
  abbrev pub after_variable : Rule
  after_variable = reference ∥ accesses

  -- what a member is, but for its group
  abbrev pub grouped_member : Rule
  grouped_member = literal ▸ accesses ∥ one_of is_variable ▸ after_variable ∥ one_of is_name ▸ reference

  unfoldable pub member : Rule
  member = group grouped_member

  unfoldable pub unary : Rule
  unary = some_signs ▸ member

  -- '*' Unary
  abbrev pub next_factor : Rule
  next_factor = space ▸ tok K.Mul ▸ line ▸ unary

  unfoldable pub mult : Rule
  mult = group (unary ▸ star next_factor)

  -- ('+'|'-') Mult
  abbrev pub next_summand : Rule
  next_summand = space ▸ one_of (λ k. is K.Add k || is K.Dash k) ▸ line ▸ mult

  unfoldable pub add : Rule
  add = group (mult ▸ star next_summand)

  -- 'has' (STR | IDENT {'.' IDENT})
  abbrev pub has : Rule
  has = line ▸ tok K.Has ▸ line ▸ nest i (operand i str ∥ group (group (lines.accessed i ident field)))

  -- 'like' STR
  abbrev pub like : Rule
  like = line ▸ tok K.Like ▸ line ▸ nest i (operand i str)

  -- ['in' Add] after `is` and a path
  abbrev pub is_in : Rule
  is_in = maybe (line ▸ tok K.In ▸ space ▸ nest i add)

  -- 'is' Path ['in' Add]
  abbrev pub is_type : Rule
  is_type = space ▸ tok K.Is ▸ space ▸ nest i path ▸ is_in

  -- has, like or is
  abbrev pub test : Rule
  test = has ∥ like ∥ is_type

  -- [relop Add]
  abbrev pub some_comparison : Rule
  some_comparison = maybe (space ▸ relop ▸ space ▸ add)

  -- after the first Add of a relation
  abbrev pub relation_end : Rule
  relation_end = test ▸ end_group ∥ some_comparison ▸ end_nothing

  unfoldable pub relation : Rule
  relation = begin ▸ add ▸ relation_end

  -- '&&' Relation
  abbrev pub next_relation : Rule
  next_relation = space ▸ tok_then K.And M.line ▸ relation

  unfoldable pub and : Rule
  and = relation ▸ star next_relation

  -- '||' And
  abbrev pub next_and : Rule
  next_and = space ▸ tok_then K.Or M.line ▸ and

  unfoldable pub or : Rule
  or = and ▸ star next_and

  -- 'if' Expr 'then' Expr 'else' Expr
  abbrev pub if_expr : Rule
  if_expr = deeper K.If (M.begin ∷ []) ((lines.below i ▸ line ▸ tok K.Then ▸ lines.below i ▸ line ▸ tok K.Else ▸ lines.below i) ▸ end_group)

  abbrev pub expr : Rule
  expr = if_expr ∥ or

  -- ---- policies

  -- a condition after a break
  abbrev pub next_cond : Rule
  next_cond = hard ▸ lines.cond i

  -- {Cond} ';', at least one
  abbrev pub conds : Rule
  conds = lines.cond i ▸ star next_cond ▸ tok K.SemiColon

  -- ')' {Cond} ';'
  abbrev pub scope_end : Rule
  scope_end = fork (is K.RParen) (M.hard ∷ []) [] conds (tok K.SemiColon)

  unfoldable pub policy_end : Rule
  policy_end = last_comma ▸ scope_end

  -- the scope and what comes after it
  abbrev pub body : Rule
  body = peek bare (bare_scope ▸ policy_end) (broken_scope ▸ policy_end)

  abbrev pub policy : Rule
  policy = star annotation ▸ head ▸ body
