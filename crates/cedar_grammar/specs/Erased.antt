-- The tree of each node type: its parts in order, the tokens' texts as leaves. Each node of the Rust types is a branch with its span;
-- a variant that its tokens don't distinguish is a branch without one.
use Rattle.std.specs.Prelude.{◌≡◌, ℕ, zero, suc, List, [], ◌∷◌, codes, Option, Some, None}
use Rattle.cedar_tokens.specs.declared.token.Span.{Span}
use Rattle.cedar_grammar.specs.declared.tree.Node.{Node}
use Rattle.cedar_grammar.specs.declared.tree.Policies.{Policies}
use Rattle.cedar_grammar.specs.declared.tree.Policy.{Policy}
use Rattle.cedar_grammar.specs.declared.tree.Annotation.{Annotation}
use Rattle.cedar_grammar.specs.declared.tree.VariableDef.{VariableDef}
use Rattle.cedar_grammar.specs.declared.tree.Cond.{Cond}
use Rattle.cedar_grammar.specs.declared.tree.Ident.{Ident}
use Rattle.cedar_grammar.specs.declared.tree.Str.{Str}
use Rattle.cedar_grammar.specs.declared.tree.Name.{Name}
use Rattle.cedar_grammar.specs.declared.tree.Ref.{Ref}
use Rattle.cedar_grammar.specs.declared.tree.Literal.{Literal}
use Rattle.cedar_grammar.specs.declared.tree.Slot.{Slot}
use Rattle.cedar_grammar.specs.declared.tree.RelOp.{RelOp}
use Rattle.cedar_grammar.specs.declared.tree.AddOp.{AddOp}
use Rattle.cedar_grammar.specs.declared.tree.NegOp.{NegOp}
use Rattle.cedar_grammar.specs.declared.tree.Expr as Expr
use Rattle.cedar_grammar.specs.declared.tree.Relation as Relation
use Rattle.cedar_grammar.specs.declared.tree.MemAccess as MemAccess
use Rattle.cedar_grammar.specs.declared.tree.Primary as Primary
use Rattle.cedar_grammar.specs.declared.tree.Or as Or
use Rattle.cedar_grammar.specs.declared.tree.And as And
use Rattle.cedar_grammar.specs.declared.tree.Add as Add
use Rattle.cedar_grammar.specs.declared.tree.Mult as Mult
use Rattle.cedar_grammar.specs.declared.tree.Unary as Unary
use Rattle.cedar_grammar.specs.declared.tree.Member as Member
use Rattle.cedar_grammar.specs.Trees.{Label, Forest, none, leaf, branch, join}

-- trees whose nodes have spans
abbrev pub Erased : Type 0
Erased = Forest (Label × Option Span) (List ℕ)

-- a node of the Rust types with these parts, and the trees after it
abbrev pub node : Label → Span → Erased → Erased → Erased
node l span parts others = branch (l, Some span) parts others

-- a variant of a Rust type
abbrev pub variant : Label → Erased → Erased → Erased
variant l parts others = branch (l, None) parts others

abbrev pub ident_tree : Node Ident → Erased → Erased
ident_tree n others = node Label.ident n.span (leaf n.inner.0.now none) others

abbrev pub path_parts : List (Node Ident) → Node Ident → Erased
path_parts [] last = ident_tree last none
path_parts (n ∷ ns) last = ident_tree n (leaf (codes "::") (path_parts ns last))

abbrev pub name_tree : Node Name → Erased → Erased
name_tree n others = node Label.name n.span (path_parts n.inner.path.items n.inner.name) others

abbrev pub str_tree : Node Str → Erased → Erased
str_tree n others = node Label.str n.span (leaf n.inner.0.now none) others

abbrev pub ref_tree : Node Ref → Erased → Erased
ref_tree n others = node Label.ref n.span (name_tree n.inner.path (leaf (codes "::") (str_tree n.inner.eid none))) others

abbrev pub variant_label : Literal → Label
variant_label Literal.True = Label.boolean
variant_label Literal.False = Label.boolean
variant_label (Literal.Num t) = Label.number
variant_label (Literal.Str t) = Label.string

abbrev pub literal_text : Literal → List ℕ
literal_text Literal.True = codes "true"
literal_text Literal.False = codes "false"
literal_text (Literal.Num t) = t.now
literal_text (Literal.Str t) = t.now

abbrev pub slot_text : Slot → List ℕ
slot_text Slot.Principal = codes "?principal"
slot_text Slot.Resource = codes "?resource"

abbrev pub relop_text : RelOp → List ℕ
relop_text RelOp.Less = codes "<"
relop_text RelOp.LessEq = codes "<="
relop_text RelOp.Greater = codes ">"
relop_text RelOp.GreaterEq = codes ">="
relop_text RelOp.NotEq = codes "!="
relop_text RelOp.Eq = codes "=="
relop_text RelOp.In = codes "in"

abbrev pub addop_text : AddOp → List ℕ
addop_text AddOp.Plus = codes "+"
addop_text AddOp.Minus = codes "-"

-- n leaves of this text
abbrev pub times : ℕ → List ℕ → Erased → Erased
times zero text others = others
times (suc n) text others = leaf text (times n text others)

-- this many signs; a count of none, which no text gives, is a mark of its own
abbrev pub signs_or : Label → ℕ → List ℕ → Erased → Erased
signs_or l zero sign others = variant l none others
signs_or l (suc n) sign others = times (suc n) sign others

abbrev pub sign_leaves : Option NegOp → Erased → Erased
sign_leaves None others = others
sign_leaves (Some (NegOp.Bang n)) others = signs_or Label.bang n (codes "!") others
sign_leaves (Some (NegOp.Dash n)) others = signs_or Label.dash n (codes "-") others

-- Expressions and what they are made of.
abbrev mutual
  pub expr_parts : Expr.Expr → Erased
  expr_parts (Expr.If' p a s q b t r c u) = leaf (codes "if") (node Label.expr s (expr_parts a) (leaf (codes "then") (node Label.expr t (expr_parts b) (leaf (codes "else") (node Label.expr u (expr_parts c) none)))))
  expr_parts (Expr.Or' p o s) = node Label.or s (or_parts o) none

  pub or_parts : Or.Or → Erased
  or_parts (Or.Or' r s v row t w rest) = node Label.and t (node Label.relation s (relation_parts r) (and_rest row)) (or_rest rest)

  pub or_rest : {m : _} → Or.Row_of-Or-extended-2 m → Erased
  or_rest Or.end_of-Or-extended-2 = none
  or_rest (Or.more_of-Or-extended-2 r s v row t rest) = leaf (codes "||") (node Label.and t (node Label.relation s (relation_parts r) (and_rest row)) (or_rest rest))

  pub and_rest : {m : _} → And.Row_of-And-extended-2 m → Erased
  and_rest And.end_of-And-extended-2 = none
  and_rest (And.more_of-And-extended-2 r s rest) = leaf (codes "&&") (node Label.relation s (relation_parts r) (and_rest rest))

  pub relation_parts : Relation.Relation → Erased
  relation_parts (Relation.Common' a s more) = node Label.add s (add_parts a) (compare_tree more)
  relation_parts (Relation.Has' a s b t) = node Label.add s (add_parts a) (variant Label.has_or_like (leaf (codes "has") (node Label.add t (add_parts b) none)) none)
  relation_parts (Relation.Like' a s b t) = node Label.add s (add_parts a) (variant Label.has_or_like (leaf (codes "like") (node Label.add t (add_parts b) none)) none)
  relation_parts (Relation.IsIn' a s n more) = node Label.add s (add_parts a) (variant Label.is_type (leaf (codes "is") (name_tree n (in_parts more))) none)

  pub compare_tree : Relation.Held-Relation-Common-1 → Erased
  compare_tree Relation.Relation-Common-1-None' = none
  compare_tree (Relation.Relation-Common-1-Some' op a s) = variant Label.compare (leaf (relop_text op) (node Label.add s (add_parts a) none)) none

  pub in_parts : Relation.Held-Relation-IsIn-2 → Erased
  in_parts Relation.Relation-IsIn-2-None' = none
  in_parts (Relation.Relation-IsIn-2-Some' a s) = leaf (codes "in") (node Label.add s (add_parts a) none)

  pub add_parts : Add.Add → Erased
  add_parts (Add.Add' m s v rest) = node Label.mult s (mult_parts m) (add_rest rest)

  pub add_rest : {m : _} → Add.Row_of-Add-extended-4 m → Erased
  add_rest Add.end_of-Add-extended-4 = none
  add_rest (Add.more_of-Add-extended-4 op m s rest) = leaf (addop_text op) (node Label.mult s (mult_parts m) (add_rest rest))

  pub mult_parts : Mult.Mult → Erased
  mult_parts (Mult.Mult' u s v rest) = node Label.unary s (unary_parts u) (mult_rest rest)

  pub mult_rest : {m : _} → Mult.Row_of-Mult-extended-4 m → Erased
  mult_rest Mult.end_of-Mult-extended-4 = none
  mult_rest (Mult.more_of-Mult-extended-4 op u s rest) = leaf (codes "*") (node Label.unary s (unary_parts u) (mult_rest rest))

  pub unary_parts : Unary.Unary → Erased
  unary_parts (Unary.Unary' op p s v row t) = sign_leaves op (node Label.member t (node Label.primary s (primary_parts p) (access_trees row)) none)

  pub access_trees : {m : _} → Member.Row_of-Member-access-2 m → Erased
  access_trees Member.end_of-Member-access-2 = none
  access_trees (Member.more_of-Member-access-2 a s rest) = node Label.access s (access_parts a) (access_trees rest)

  pub access_parts : MemAccess.MemAccess → Erased
  access_parts (MemAccess.Field n) = leaf (codes ".") (ident_tree n none)
  access_parts (MemAccess.Call' v row) = leaf (codes "(") (join (expr_items row) (leaf (codes ")") none))
  access_parts (MemAccess.Index n) = leaf (codes "[") (str_tree n (leaf (codes "]") none))

  pub expr_items : {m : _} → MemAccess.Row_of-MemAccess-Call-0-2 m → Erased
  expr_items MemAccess.end_of-MemAccess-Call-0-2 = none
  expr_items (MemAccess.more_of-MemAccess-Call-0-2 e s rest) = node Label.expr s (expr_parts e) (more_items rest)

  pub more_items : {m : _} → MemAccess.Row_of-MemAccess-Call-0-2 m → Erased
  more_items MemAccess.end_of-MemAccess-Call-0-2 = none
  more_items (MemAccess.more_of-MemAccess-Call-0-2 e s rest) = leaf (codes ",") (node Label.expr s (expr_parts e) (more_items rest))

  pub primary_parts : Primary.Primary → Erased
  primary_parts (Primary.Literal n) = node (variant_label n.inner) n.span (leaf (literal_text n.inner) none) none
  primary_parts (Primary.Ref n) = ref_tree n none
  primary_parts (Primary.Name n) = name_tree n none
  primary_parts (Primary.Slot n) = node Label.slot n.span (leaf (slot_text n.inner) none) none
  primary_parts (Primary.Expr' p e s) = variant Label.parens (leaf (codes "(") (node Label.expr s (expr_parts e) (leaf (codes ")") none))) none
  primary_parts (Primary.EList' v row) = variant Label.list (leaf (codes "[") (join (expr_items row) (leaf (codes "]") none))) none
  primary_parts (Primary.RInits' v row) = variant Label.fields (leaf (codes "{") (join (init_items row) (leaf (codes "}") none))) none

  pub init_items : {m : _} → Primary.Row_of-Primary-RInits-0-2 m → Erased
  init_items Primary.end_of-Primary-RInits-0-2 = none
  init_items (Primary.more_of-Primary-RInits-0-2 p s e t u rest) = node Label.rec_init u (node Label.primary s (primary_parts p) (leaf (codes ":") (node Label.expr t (expr_parts e) none))) (more_inits rest)

  pub more_inits : {m : _} → Primary.Row_of-Primary-RInits-0-2 m → Erased
  more_inits Primary.end_of-Primary-RInits-0-2 = none
  more_inits (Primary.more_of-Primary-RInits-0-2 p s e t u rest) =
      leaf (codes ",") (node Label.rec_init u (node Label.primary s (primary_parts p) (leaf (codes ":") (node Label.expr t (expr_parts e) none))) (more_inits rest))

-- The parts of policies.
abbrev pub value_parts : Option (Node Str) → Erased
value_parts None = none
value_parts (Some s) = leaf (codes "(") (str_tree s (leaf (codes ")") none))

abbrev pub annotation_parts : Annotation → Erased
annotation_parts a = leaf (codes "@") (ident_tree a.key (value_parts a.value))

abbrev pub annotation_trees : List (Node Annotation) → Erased → Erased
annotation_trees [] others = others
annotation_trees (n ∷ ns) others = node Label.annotation n.span (annotation_parts n.inner) (annotation_trees ns others)

abbrev pub type_parts : Option (Node Name) → Erased → Erased
type_parts None others = others
type_parts (Some n) others = leaf (codes "is") (name_tree n others)

abbrev pub operator_parts : Option (RelOp × Node Expr.TheBlock.the_data-4) → Erased
operator_parts None = none
operator_parts (Some x) = leaf (relop_text x.0) (node Label.add x.1.span (add_parts x.1.inner) none)

abbrev pub variable_parts : VariableDef → Erased
variable_parts v = ident_tree v.variable (type_parts v.entity_type (operator_parts v.ineq))

abbrev pub variable_tree : Node VariableDef → Erased → Erased
variable_tree n others = node Label.variable n.span (variable_parts n.inner) others

-- the variables of a scope with commas between them
abbrev pub more_variables : List (Node VariableDef) → Erased
more_variables [] = none
more_variables (n ∷ ns) = leaf (codes ",") (variable_tree n (more_variables ns))

abbrev pub variable_items : List (Node VariableDef) → Erased
variable_items [] = none
variable_items (n ∷ ns) = variable_tree n (more_variables ns)

abbrev pub cond_parts : Cond → Erased
cond_parts c = ident_tree c.cond (leaf (codes "{") (node Label.expr c.expr.span (expr_parts c.expr.inner) (leaf (codes "}") none)))

abbrev pub cond_trees : List (Node Cond) → Erased → Erased
cond_trees [] others = others
cond_trees (n ∷ ns) others = node Label.condition n.span (cond_parts n.inner) (cond_trees ns others)

-- the variables of a policy's scope
abbrev pub scope_variables : Policy → List (Node VariableDef)
scope_variables p = p.variables.0 ∷ p.variables.1 ∷ p.variables.2 ∷ []

abbrev pub policy_parts : Policy → Erased
policy_parts p = annotation_trees p.annotations.items (ident_tree p.effect (leaf (codes "(") (join (variable_items (scope_variables p)) (leaf (codes ")") (cond_trees p.conds.items (leaf (codes ";") none))))))

abbrev pub policy_trees : List (Node Policy) → Erased
policy_trees [] = none
policy_trees (n ∷ ns) = node Label.policy n.span (policy_parts n.inner) (policy_trees ns)

-- the tree of policies, which have no span of their own
abbrev pub erase : Policies → Erased
erase p = variant Label.policies (policy_trees p.policies.items) none

-- the same trees without spans
abbrev pub without_spans : Erased → Forest Label (List ℕ)
without_spans none = none
without_spans (leaf text f) = leaf text (without_spans f)
without_spans (branch l f g) = branch l.0 (without_spans f) (without_spans g)

-- equal without spans
abbrev pub SameTree : Policies → Policies → Type 0
SameTree a b = without_spans (erase a) ≡ without_spans (erase b)
