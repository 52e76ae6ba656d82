-- The parts as rules.
use Rattle.std.specs.Prelude.{Bool, ◌||◌, ◌&&◌, not}
use Rattle.cedar_tokens.specs.declared.kind.Kind.{Kind}
use Rattle.cedar_tokens.specs.declared.kind.Kind.TheVariants as K
use Rattle.cedar_tokens.specs.Kinds.{is, is_any_word, is_ident, is_variable, is_comparison, is_effect}
use Rattle.cedar_grammar.specs.Trees.{access, primary, name}
use Rattle.cedar_grammar.specs.Trees as L
use Rattle.cedar_grammar.specs.Reader.Rules.{Rule, empty, never, inner, leaf_of, nested, then, either, star, tail, node, items, entity, word_of, text_rule, core}
use Rattle.cedar_grammar.specs.Reader.Lines.{◌▸◌, ◌∥◌, one_of, maybe, ident_rule, path, operand, entity_or, scoped, entity_item, action, policy_rule, annotation_rule, cond_rule, call_parts, call, init, item, field, access_rule, member_rule, unary_rule, mult_rule, add_rule, relation_rule, and_rule, or_rule, expr_rule, text_operand, has_field}
use Rattle.cedar_faults.specs.declared.part.Part.{Part}
use Rattle.cedar_faults.specs.declared.part.Part.TheVariants as P

-- the items after the first, each after a comma, and a comma after the last
abbrev pub more : Rule → Rule
more a = tail K.Comma (core a) empty empty

-- after a name: more of it, or a call
abbrev pub name_marks : Rule
name_marks = tail K.DoubleColon (word_of is_ident) text_rule (node access (core call_parts))

abbrev pub entity_marks : Rule
entity_marks = tail K.DoubleColon (word_of is_ident) text_rule never

abbrev pub test : Kind → Rule
test s = core (maybe (one_of K.Equal ▸ entity_or s ∥ one_of K.Is ▸ path ▸ maybe (one_of K.In ▸ entity_or s) ∥ one_of K.In ▸ entity_or s))

abbrev pub up_to_one : Kind → Rule
up_to_one k = maybe (one_of k)

abbrev pub up_to_two : Kind → Rule
up_to_two k = maybe (one_of k ▸ up_to_one k)

abbrev pub up_to_three : Kind → Rule
up_to_three k = maybe (one_of k ▸ up_to_two k)

-- what a part is, in the lines of the grammar
abbrev pub rule_of : Part → Rule
rule_of (P.Token k) = leaf_of (is k)
rule_of P.Word = word_of is_any_word
rule_of P.Identifier = word_of is_ident
rule_of P.Policies = star (core policy_rule)
rule_of P.Policy = core policy_rule
rule_of P.Effect = word_of is_effect
rule_of P.Signature = core (one_of K.LParen ▸ scoped K.Principal K.PrincipalSlot ▸ one_of K.Comma ▸ action ▸ one_of K.Comma ▸ scoped K.Resource K.ResourceSlot ▸ maybe (one_of K.Comma) ▸ one_of K.RParen ▸ star cond_rule ▸ one_of K.SemiColon)
rule_of P.AnnotationText = core (maybe (one_of K.LParen ▸ text_rule ▸ one_of K.RParen))
rule_of P.PrincipalTest = test K.PrincipalSlot
rule_of P.PrincipalEntity = core (entity_or K.PrincipalSlot)
rule_of P.PrincipalIn = core (maybe (one_of K.In ▸ entity_or K.PrincipalSlot))
rule_of P.ActionTest = core (maybe (one_of K.Equal ▸ operand entity ∥ one_of K.In ▸ (operand (node primary (node L.list (one_of K.LBracket ▸ maybe (items entity_item) ▸ one_of K.RBracket))) ∥ operand entity)))
rule_of P.ActionSet = core (operand (node primary (node L.list (one_of K.LBracket ▸ maybe (items entity_item) ▸ one_of K.RBracket))) ∥ operand entity)
rule_of P.ResourceTest = test K.ResourceSlot
rule_of P.ResourceEntity = core (entity_or K.ResourceSlot)
rule_of P.ResourceIn = core (maybe (one_of K.In ▸ entity_or K.ResourceSlot))
rule_of P.Entity = core (operand entity)
rule_of P.EntityMarks = entity_marks
rule_of P.EntityNext = either (then (word_of is_ident) entity_marks) text_rule
rule_of P.Entities = core (maybe (items entity_item))
rule_of P.MoreEntities = more entity_item
rule_of P.PathMarks = core (star (one_of K.DoubleColon ▸ ident_rule))
rule_of P.Comma = core (maybe (one_of K.Comma))
rule_of P.Conditions = core (star cond_rule)
rule_of P.Inner = inner
rule_of P.Expr = core expr_rule
rule_of P.Or = core or_rule
rule_of P.MoreOr = core (star (one_of K.Or ▸ and_rule))
rule_of P.And = core and_rule
rule_of P.MoreAnd = core (star (one_of K.And ▸ relation_rule))
rule_of P.Relation = core relation_rule
rule_of P.Comparison = core (maybe (node L.compare (leaf_of is_comparison ▸ add_rule) ∥ node L.has_or_like (one_of K.Has ▸ (text_operand ∥ has_field)) ∥ node L.has_or_like (one_of K.Like ▸ text_operand) ∥ node L.is_type (one_of K.Is ▸ path ▸ maybe (one_of K.In ▸ add_rule))))
rule_of P.HasOperand = core (text_operand ∥ has_field)
rule_of P.Fields = core (star field)
rule_of P.InAdd = core (maybe (one_of K.In ▸ add_rule))
rule_of P.Add = core add_rule
rule_of P.MoreAdd = core (star (leaf_of (λ x. is K.Add x || is K.Dash x) ▸ mult_rule))
rule_of P.Mult = core mult_rule
rule_of P.MoreMult = core (star (one_of K.Mul ▸ unary_rule))
rule_of P.Unary = core unary_rule
rule_of P.ThreeNegs = core (up_to_three K.Neg)
rule_of P.TwoNegs = core (up_to_two K.Neg)
rule_of P.OneNeg = core (up_to_one K.Neg)
rule_of P.ThreeDashes = core (up_to_three K.Dash)
rule_of P.TwoDashes = core (up_to_two K.Dash)
rule_of P.OneDash = core (up_to_one K.Dash)
rule_of P.Member = core member_rule
rule_of P.Item = core item
rule_of P.VariableMarks = either name_marks empty
rule_of P.NameMarks = name_marks
rule_of P.NameNext = either (then (word_of is_ident) name_marks) text_rule
rule_of P.Accesses = core (star access_rule)
rule_of P.Call = core (maybe call)
rule_of P.Exprs = core (maybe (items inner))
rule_of P.MoreExprs = more inner
rule_of P.Inits = core (maybe (items init))
rule_of P.MoreInits = more init
