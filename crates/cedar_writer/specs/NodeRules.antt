-- What the tokens of a node are read and written by: the rule of the line that reads it, or of an operand that no expression is.
use Rattle.std.specs.Prelude.{ℕ, ℤ, Bool, true, false}
use Rattle.cedar_tokens.specs.declared.kind.Kind.TheVariants as K
use Rattle.cedar_grammar.specs.Trees.{Label}
use Rattle.cedar_layout.specs.Comments as comments
use Rattle.cedar_written.specs.Languages.{Lang, ◌⋄◌, Many, Put}
use Rattle.cedar_written.specs.NodeLines.{AnyToken, line_of}
use Rattle.cedar_writer.specs.Rules.{Rule, star, tail, ◌▸◌, ◌∥◌, nothing, space, group, nest, one_of}
use Rattle.cedar_writer.specs.Lines as lines
use Rattle.cedar_writer.specs.Lines.{ident, str, field}
use Rattle.cedar_writer.specs.Parts as P
use Rattle.cedar_writer.specs.Bare.{any_kind, is_slot}
use Rattle.cedar_writer.specs.Depths.{alone, around, at_depth}
use Rattle.cedar_writer.specs.Writing.{State, expr_to, policy_to}
use Rattle.cedar_writer.specs.declared.node.Line.{Line}
use Rattle.cedar_writer.specs.declared.node.Line.TheVariants as L

-- any tokens, with a space between neighbours, so that no two words run together
abbrev pub Apart : Lang
Apart = AnyToken ⋄ Many (Put comments.space ⋄ AnyToken)

-- the language of what it reads
abbrev pub lang_of : ℤ → ℕ → Line → Lang
lang_of i n L.Policy = line_of i n Label.policy
lang_of i n L.Annotation = line_of i n Label.annotation
lang_of i n L.Variable = line_of i n Label.variable
lang_of i n L.Condition = line_of i n Label.condition
lang_of i n L.Expr = line_of i n Label.expr
lang_of i n L.Or = line_of i n Label.or
lang_of i n L.And = line_of i n Label.and
lang_of i n L.Relation = line_of i n Label.relation
lang_of i n L.Add = line_of i n Label.add
lang_of i n L.Mult = line_of i n Label.mult
lang_of i n L.Unary = line_of i n Label.unary
lang_of i n L.Member = line_of i n Label.member
lang_of i n L.Access = line_of i n Label.access
lang_of i n L.Primary = line_of i n Label.primary
lang_of i n L.Init = line_of i n Label.rec_init
lang_of i n L.Name = line_of i n Label.name
lang_of i n L.Ref = line_of i n Label.ref
lang_of i n L.Tokens = Apart

-- a space, and any token
abbrev pub next_token : Rule
next_token = space ▸ one_of any_kind

abbrev pub apart : Rule
apart = one_of any_kind ▸ star next_token

-- Path ['::' STR]
abbrev pub path_or_entity : Rule
path_or_entity = ident ▸ tail K.DoubleColon ident str nothing

module _ (i : ℤ) where
  -- a slot alone
  abbrev pub slot_member : Rule
  slot_member = group (one_of is_slot ▸ nest i nothing)

  -- IDENT {'.' IDENT}
  abbrev pub fields_member : Rule
  fields_member = lines.accessed i ident field

  abbrev pub bare_member : Rule
  bare_member = slot_member ∥ fields_member

  -- Principal, Action or Resource
  abbrev pub variable : Rule
  variable = P.scoped i K.Principal K.PrincipalSlot ∥ P.action i ∥ P.scoped i K.Resource K.ResourceSlot

  -- a field, a call or an index
  abbrev pub one_access : Rule
  one_access = field ∥ P.call i ∥ P.index

  -- Primary, or a slot, or a path
  abbrev pub primary : Rule
  primary = P.literal i ∥ one_of is_slot ∥ path_or_entity

  -- what is done with a node's tokens; the flag says whether they begin like an operand that no expression is
  abbrev pub node_to : ℕ → Line → Bool → State → State
  node_to n L.Policy bare = policy_to i n
  node_to n L.Annotation bare = alone lines.annotation
  node_to n L.Variable bare = alone variable
  node_to n L.Condition bare = around i n (lines.cond i)
  node_to n L.Expr bare = expr_to i n
  node_to n L.Or bare = at_depth i n (P.or i)
  node_to n L.And bare = at_depth i n (P.and i)
  node_to n L.Relation bare = at_depth i n (P.relation i)
  node_to n L.Add true = alone (group (group bare_member))
  node_to n L.Add false = at_depth i n (P.add i)
  node_to n L.Mult true = alone (group bare_member)
  node_to n L.Mult false = at_depth i n (P.mult i)
  node_to n L.Unary true = alone bare_member
  node_to n L.Unary false = at_depth i n (P.unary i)
  node_to n L.Member true = alone bare_member
  node_to n L.Member false = at_depth i n (P.member i)
  node_to n L.Access bare = at_depth i n one_access
  node_to n L.Primary bare = at_depth i n primary
  node_to n L.Init bare = at_depth i n (lines.init i)
  node_to n L.Name bare = alone lines.path
  node_to n L.Ref bare = alone lines.entity
  node_to n L.Tokens bare = alone apart
