-- The line of the written grammar that a node is a row of, by its label. A node inside a policy is what a part of the line
-- above it reads, and that may be more or less than the line of its own name.
use Rattle.std.specs.Prelude.{ℕ, zero, suc, ℤ, Bool, true, false, ⊤}
use Rattle.cedar_grammar.specs.Trees.{Label}
use Rattle.cedar_layout.specs.Layout.{nil}
use Rattle.cedar_written.specs.Languages.{Lang, ◌⋄◌, ◌∪◌, Never, Token, Group}
use Rattle.cedar_written.specs.Written as W

-- any token
abbrev pub AnyToken : Lang
AnyToken = Token (λ t. ⊤) nil

-- a slot in the scope
abbrev pub Slot : Lang
Slot = W.Tok "?principal" ∪ W.Tok "?resource"

-- whether one more if or bracket may be nested, where so many may be
abbrev pub has_room : ℕ → Bool
has_room zero = false
has_room (suc n) = true

module _ (i : ℤ) where
  -- what may be inside it
  abbrev pub Inside : ℕ → Lang
  Inside zero = Never
  Inside (suc n) = W.Expr i n

  -- what is a member without being one of an expression: a slot in the scope, and fields after `has`
  abbrev pub Bare : Lang
  Bare = W.Accessed i Slot Never ∪ W.Accessed i W.Ident W.Field

  -- Primary, or a slot, or a path that is called or stands alone
  abbrev pub AnyPrimary : Bool → Lang → Lang
  AnyPrimary room Inner = W.Primary i room Inner ∪ Slot ∪ W.Path

  -- a field, a call or an index
  abbrev pub AnyAccess : Bool → Lang → Lang
  AnyAccess room Inner = W.Field ∪ W.Call i room Inner ∪ W.Tok "[" ⋄ W.STR ⋄ W.Tok "]"

  -- the line of a node with this label, where n ifs and brackets may be nested in it; the other labels are of no node
  abbrev pub line_of : ℕ → Label → Lang
  line_of n Label.policy = W.Policy i n
  line_of n Label.annotation = W.Annotation
  line_of n Label.variable = W.Principal i ∪ W.Action i ∪ W.Resource i
  line_of n Label.condition = W.Cond i n
  line_of n Label.expr = W.ExprIn i (has_room n) (Inside n)
  line_of n Label.or = W.Or i (has_room n) (Inside n)
  line_of n Label.and = W.And i (has_room n) (Inside n)
  line_of n Label.relation = W.Relation i (has_room n) (Inside n)
  line_of n Label.add = W.Add i (has_room n) (Inside n) ∪ Group (Group Bare)
  line_of n Label.mult = W.Mult i (has_room n) (Inside n) ∪ Group Bare
  line_of n Label.unary = W.Unary i (has_room n) (Inside n) ∪ Bare
  line_of n Label.member = W.Member i (has_room n) (Inside n) ∪ Bare
  line_of n Label.access = AnyAccess (has_room n) (Inside n)
  line_of n Label.primary = AnyPrimary (has_room n) (Inside n)
  line_of n Label.rec_init = W.Init i (has_room n) (Inside n)
  line_of n Label.name = W.Path
  line_of n Label.ref = W.Entity
  line_of n Label.ident = AnyToken
  line_of n Label.str = AnyToken
  line_of n Label.boolean = AnyToken
  line_of n Label.number = AnyToken
  line_of n Label.string = AnyToken
  line_of n Label.slot = AnyToken
  line_of n l = Never
