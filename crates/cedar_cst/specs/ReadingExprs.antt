-- What parse functions guarantee for expressions, in terms of the reader, and what the nodes of expressions are made of.
use Rattle.std.specs.Prelude.{◌≡◌, ℕ, zero, suc, Bool, true, false, List, [], ◌∷◌, Result, Ok, Err, Option, Some, None, Vec, box_value, codes}
use Rattle.std.specs.declared.alloc.Global.{Global}
use Rattle.std.specs.Borrow.{Bor}
use Rattle.cedar_tokens.specs.declared.token.Span.{Span}
use Rattle.cedar_tokens.specs.declared.kind.Kind.{Kind}
use Rattle.cedar_grammar.specs.Trees.{Label, Forest, none, leaf, branch}
use Rattle.cedar_cst.specs.ReadingItems.{Boxed, bracketed, IsBracketsOf}
use Rattle.cedar_grammar.specs.Reader.Reading.{Reader, Answer, done, too_deep}
use Rattle.cedar_tokens.specs.declared.kind.Kind.TheVariants as K
use Rattle.cedar_grammar.specs.Reader.Rules.{Rule, inner, items, read, core}
use Rattle.cedar_grammar.specs.Reader.Rules as R
use Rattle.cedar_grammar.specs.Reader.Lines.{◌▸◌, ◌∥◌, one_of, maybe, init, expr_to}
use Rattle.cedar_reading.specs.declared.lexeme.Lexeme.{Lexeme}
use Rattle.cedar_reading.specs.declared.reading.Refusal.{Refusal}
use Rattle.cedar_grammar.specs.declared.tree.Node.{Node}
use Rattle.cedar_grammar.specs.declared.tree.Name.{Name}
use Rattle.cedar_grammar.specs.declared.tree.RelOp.{RelOp}
use Rattle.cedar_grammar.specs.declared.tree.AddOp.{AddOp}
use Rattle.cedar_grammar.specs.declared.tree.MultOp.{MultOp}
use Rattle.cedar_grammar.specs.declared.tree.NegOp.{NegOp}
use Rattle.cedar_grammar.specs.declared.tree.Expr as Expr
use Rattle.cedar_grammar.specs.declared.tree.Or as Or
use Rattle.cedar_grammar.specs.declared.tree.And as And
use Rattle.cedar_grammar.specs.declared.tree.Relation as Relation
use Rattle.cedar_grammar.specs.declared.tree.Add as Add
use Rattle.cedar_grammar.specs.declared.tree.Mult as Mult
use Rattle.cedar_grammar.specs.declared.tree.Unary as Unary
use Rattle.cedar_grammar.specs.declared.tree.Member as Member
use Rattle.cedar_grammar.specs.declared.tree.MemAccess as MemAccess
use Rattle.cedar_grammar.specs.declared.tree.Primary as Primary
use Rattle.cedar_grammar.specs.declared.tree.RecInit as RecInit
use Rattle.cedar_grammar.specs.Erased.{Erased, node, variant, name_tree, relop_text, addop_text, sign_leaves, expr_parts, or_parts, relation_parts, add_parts, mult_parts, unary_parts, access_parts, primary_parts}
use Rattle.cedar_reading.specs.Reading.{kind, Fails, Stands, IsMade, IsNamePrimaryOf, span_to, last_end}
use Rattle.cedar_reading.specs.ReadingSigns.{signs_start}
use Rattle.cedar_grammar.specs.NodeLists.{access_items, and_parts, init_parts, item_trees, member_parts, operand_trees}

-- Readers, given how many brackets and ifs may still be nested.
abbrev pub has_room : ℕ → Bool
has_room zero = false
has_room (suc d) = true

abbrev pub inside : ℕ → Reader Lexeme
inside zero = too_deep
inside (suc d) = expr_to kind d

abbrev pub at_depth : ℕ → Rule → Reader Lexeme
at_depth d R = read kind (has_room d) (inside d) (core R)

-- `if`, `then` and `else`
abbrev pub if_rule : Rule
if_rule = R.node Label.expr (one_of K.If ▸ inner ▸ one_of K.Then ▸ inner ▸ one_of K.Else ▸ inner)

-- a parenthesis, a list or a record
abbrev pub bracket_rule : Rule
bracket_rule = R.node Label.primary (R.node Label.parens (one_of K.LParen ▸ inner ▸ one_of K.RParen))
    ∥ R.node Label.primary (R.node Label.list (one_of K.LBracket ▸ maybe (items inner) ▸ one_of K.RBracket))
    ∥ R.node Label.primary (R.node Label.fields (one_of K.LBrace ▸ maybe (items init) ▸ one_of K.RBrace))

-- where the last operand ends
abbrev pub end_of_last : {X Y : Type 0} → (Y → Node X) → ℕ → List Y → ℕ
end_of_last operand e [] = e
end_of_last operand e (y ∷ ys) = end_of_last operand (operand y).span.end ys

-- A first operand, and more after their signs.
module _ {X Y : Type 0} (l : Label) (parts : X → Erased) (sign : Y → List ℕ) (operand : Y → Node X) where
  -- where the last operand ends
  abbrev pub operands_end : ℕ → List Y → ℕ
  operands_end = end_of_last operand

  abbrev pub IsChainOf : {Z : Type 0} → (Z → Erased) → Node X → List Y → Node Z → Type 0
  IsChainOf whole first more = IsMade whole (node l first.span (parts first.inner) (operand_trees l parts sign operand more)) (span_to first.span (operands_end first.span.end more))

abbrev pub IsOrOf : Boxed And.And → List (Node And.And) → Boxed Or.Or → Type 0
IsOrOf a more n = IsChainOf Label.and and_parts (λ _. codes "||") (λ n. n) or_parts (box_value a) more (box_value n)

abbrev pub IsAndOf : Boxed Relation.Relation → List (Node Relation.Relation) → Boxed And.And → Type 0
IsAndOf a more n = IsChainOf Label.relation relation_parts (λ _. codes "&&") (λ n. n) and_parts (box_value a) more (box_value n)

abbrev pub IsAddOf : Boxed Mult.Mult → List (AddOp × Node Mult.Mult) → Boxed Add.Add → Type 0
IsAddOf a more n = IsChainOf Label.mult mult_parts (λ x. addop_text x.0) (λ x. x.1) add_parts (box_value a) more (box_value n)

abbrev pub IsMultOf : Boxed Unary.Unary → List (MultOp × Node Unary.Unary) → Boxed Mult.Mult → Type 0
IsMultOf a more n = IsChainOf Label.unary unary_parts (λ _. codes "*") (λ x. x.1) mult_parts (box_value a) more (box_value n)

-- a primary and its accesses
abbrev pub IsMemberOf : Boxed Primary.Primary → List (Node MemAccess.MemAccess) → Boxed Member.Member → Type 0
IsMemberOf b access n =
    let item = box_value b in IsMade member_parts (node Label.primary item.span (primary_parts item.inner) (access_items access)) (span_to item.span (last_end item.span.end access)) (box_value n)

-- a member after its signs, which come first in the tokens
abbrev pub IsUnaryOf : List Lexeme → Option NegOp → Boxed Member.Member → Boxed Unary.Unary → Type 0
IsUnaryOf ts op b n =
    let m = box_value b in IsMade unary_parts (sign_leaves op (node Label.member m.span (member_parts m.inner) none)) (record { start = signs_start op ts m.span.start; end = m.span.end }) (box_value n)

-- Relations.
-- an operand as a row of trees before others
abbrev pub operand_before : Boxed Add.Add → Erased → Erased
operand_before a = node Label.add (box_value a).span (add_parts (box_value a).inner)

abbrev pub IsLoneRelationOf : Boxed Add.Add → Boxed Relation.Relation → Type 0
IsLoneRelationOf a n = IsMade relation_parts (operand_before a none) (box_value a).span (box_value n)

-- an operand and what follows it, which ends here
abbrev pub IsRelatedOf : Label → Boxed Add.Add → Erased → ℕ → Boxed Relation.Relation → Type 0
IsRelatedOf l a trees end n = IsMade relation_parts (operand_before a (variant l trees none)) (span_to (box_value a).span end) (box_value n)

abbrev pub IsComparedOf : Boxed Add.Add → RelOp × Boxed Add.Add → Boxed Relation.Relation → Type 0
IsComparedOf a x = IsRelatedOf Label.compare a (leaf (relop_text x.0) (operand_before x.1 none)) (box_value x.1).span.end

-- two operands with this word between them
abbrev pub IsWordOf : List ℕ → Boxed Add.Add → Node Add.Add → Boxed Relation.Relation → Type 0
IsWordOf word a b = IsRelatedOf Label.has_or_like a (leaf word (node Label.add b.span (add_parts b.inner) none)) b.span.end

abbrev pub in_trees : Option (Boxed Add.Add) → Erased
in_trees None = none
in_trees (Some b) = leaf (codes "in") (operand_before b none)

abbrev pub type_test_end : Node Name → Option (Boxed Add.Add) → ℕ
type_test_end name None = name.span.end
type_test_end name (Some b) = (box_value b).span.end

-- `is`, a type, and perhaps `in` and an operand
abbrev pub type_test_trees : Node Name → Option (Boxed Add.Add) → Erased
type_test_trees name o = leaf (codes "is") (name_tree name (in_trees o))

abbrev pub IsTypeTestOf : Boxed Add.Add → Node Name × Option (Boxed Add.Add) → Boxed Relation.Relation → Type 0
IsTypeTestOf a x = IsRelatedOf Label.is_type a (type_test_trees x.0 x.1) (type_test_end x.0 x.1)

-- Brackets that start here, with the end of the closing bracket.
abbrev pub IsCallOf : ℕ → Vec (Node Expr.Expr) Global × ℕ → Node MemAccess.MemAccess → Type 0
IsCallOf start x = IsMade access_parts (bracketed (codes "(") (item_trees Label.expr expr_parts x.0.items) (codes ")")) (record { start = start; end = x.1 })

abbrev pub IsParensOf : ℕ → Node Expr.Expr × ℕ → Boxed Primary.Primary → Type 0
IsParensOf start x = IsBracketsOf Label.parens (codes "(") (node Label.expr x.0.span (expr_parts x.0.inner) none) (codes ")") start x.1

abbrev pub IsRecordOf : ℕ → Vec (Node RecInit.RecInit) Global × ℕ → Boxed Primary.Primary → Type 0
IsRecordOf start x = IsBracketsOf Label.fields (codes "{") (item_trees Label.rec_init init_parts x.0.items) (codes "}") start x.1

abbrev pub IsInitOf : Boxed Primary.Primary → Node Expr.Expr → Boxed RecInit.RecInit → Type 0
IsInitOf b value n =
    let key = box_value b in
    IsMade init_parts (node Label.primary key.span (primary_parts key.inner) (leaf (codes ":") (node Label.expr value.span (expr_parts value.inner) none))) (span_to key.span value.span.end) (box_value n)

-- an `if` that starts here, with its three expressions
abbrev pub IsIfOf : ℕ → Node Expr.Expr → Node Expr.Expr → Node Expr.Expr → Node Expr.Expr → Type 0
IsIfOf start a b c =
    IsMade expr_parts (leaf (codes "if") (node Label.expr a.span (expr_parts a.inner) (leaf (codes "then") (node Label.expr b.span (expr_parts b.inner) (leaf (codes "else") (node Label.expr c.span (expr_parts c.inner) none))))))
    (record { start = start; end = c.span.end })

-- What is kept along with a node.
-- this, and what was read after it
abbrev pub IsBeside : {S X : Type 0} → S → X → S × X → Type 0
IsBeside first x y = y ≡ (first, x)

-- a type and the operand that was read after it
abbrev pub IsTyped : Node Name → Boxed Add.Add → Node Name × Option (Boxed Add.Add) → Type 0
IsTyped name x y = y ≡ (name, Some x)

-- this primary, without accesses
abbrev pub IsUncalled : Node Primary.Primary → Boxed Primary.Primary × Vec (Node MemAccess.MemAccess) Global → Type 0
IsUncalled x y = (box_value y.0 ≡ x) × (y.1.items ≡ [])

-- this path and the call that was read after it
abbrev pub IsCalled : Node Name → Node MemAccess.MemAccess → Boxed Primary.Primary × Vec (Node MemAccess.MemAccess) Global → Type 0
IsCalled name x y = IsNamePrimaryOf name (box_value y.0) × (y.1.items ≡ x ∷ [])

-- What is read along with nodes.
-- a sign of this kind and a tree with this label, which the node stands for; or the refusal is the reader's
abbrev pub GivesSigned : {S X : Type 0} → (S → Kind) → Label → (X → Erased) → Result ((S × Boxed X) × Bor (List Lexeme)) Refusal → Answer Lexeme → Type 0
GivesSigned sign l parts (Ok x) a = (t : Lexeme) × (f : Forest Label Lexeme) × (a ≡ done (leaf t (branch l f none)) x.1.now) × (t.kind ≡ sign x.0.0) × Stands (box_value x.0.1).span (parts (box_value x.0.1).inner) f
GivesSigned sign l parts (Err e) a = Fails e a

-- the trees of a type test after an operand
abbrev pub GivesTypeTest : Result ((Node Name × Option (Boxed Add.Add)) × Bor (List Lexeme)) Refusal → Answer Lexeme → Type 0
GivesTypeTest (Ok x) a = (f : Forest Label Lexeme) × (s : Span) × (a ≡ done f x.1.now) × (s.end ≡ type_test_end x.0.0 x.0.1) × Stands s (type_test_trees x.0.0 x.0.1) f
GivesTypeTest (Err e) a = Fails e a

-- the trees of a primary and of these accesses
abbrev pub StandsItem : Node Primary.Primary → List (Node MemAccess.MemAccess) → Forest Label Lexeme → Type 0
StandsItem item access = Stands (record { start = item.span.start; end = last_end item.span.end access }) (node Label.primary item.span (primary_parts item.inner) (access_items access))

-- the trees of a primary, and of its call if it is called
abbrev pub GivesItem : Result ((Boxed Primary.Primary × Vec (Node MemAccess.MemAccess) Global) × Bor (List Lexeme)) Refusal → Answer Lexeme → Type 0
GivesItem (Ok x) a = (f : Forest Label Lexeme) × (a ≡ done f x.1.now) × StandsItem (box_value x.0.0) x.0.1.items f
GivesItem (Err e) a = Fails e a
