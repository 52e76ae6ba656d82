-- What nodes of the recursive types are made of.
use Rattle.std.specs.Prelude.{◌≡◌, List, [], Vec, Option, None, codes}
use Rattle.std.specs.declared.alloc.Global.{Global}
use Rattle.std.proofs.Common.{rules}
use mathlib.Core.Former.{Count}
use Rattle.cedar_tokens.specs.declared.token.Span.{Span}
use Rattle.cedar_grammar.specs.Trees.{Label, none, leaf, join}
use Rattle.cedar_grammar.specs.Erased.{Erased, node, addop_text, sign_leaves, access_parts, access_trees, unary_parts, mult_parts, mult_rest, add_parts, add_rest, relation_parts, and_rest, or_parts, or_rest, expr_parts, primary_parts, expr_items, more_items, init_items, more_inits, variant}
use Rattle.cedar_grammar.specs.NodeLists.{access_items, and_parts, init_parts, item_trees, member_parts, more_trees, operand_parts, operand_trees}
use Rattle.cedar_grammar.specs.declared.tree.Node.{Node}
use Rattle.cedar_grammar.specs.declared.tree.AddOp.{AddOp}
use Rattle.cedar_grammar.specs.declared.tree.MultOp.{MultOp}
use Rattle.cedar_grammar.specs.declared.tree.NegOp.{NegOp}
use Rattle.cedar_grammar.specs.declared.tree.Primary as Primary
use Rattle.cedar_grammar.specs.declared.tree.MemAccess as MemAccess
use Rattle.cedar_grammar.specs.declared.tree.Member as Member
use Rattle.cedar_grammar.specs.declared.tree.Unary as Unary
use Rattle.cedar_grammar.specs.declared.tree.Mult as Mult
use Rattle.cedar_grammar.specs.declared.tree.Add as Add
use Rattle.cedar_grammar.specs.declared.tree.Relation as Relation
use Rattle.cedar_grammar.specs.declared.tree.RecInit as RecInit
use Rattle.cedar_grammar.specs.declared.tree.And as And
use Rattle.cedar_grammar.specs.declared.tree.Or as Or
use Rattle.cedar_grammar.specs.declared.tree.Expr as Expr

abbrev pub relation_items : List (Node Relation.Relation) → Erased
relation_items = operand_trees Label.relation relation_parts (λ _. codes "&&") (λ n. n)

abbrev pub and_items : List (Node And.And) → Erased
and_items = operand_trees Label.and and_parts (λ _. codes "||") (λ n. n)

abbrev pub mult_items : List (MultOp × Node Unary.Unary) → Erased
mult_items = operand_trees Label.unary unary_parts (λ _. codes "*") (λ x. x.1)

abbrev pub add_items : List (AddOp × Node Mult.Mult) → Erased
add_items = operand_trees Label.mult mult_parts (λ x. addop_text x.0) (λ x. x.1)

pub access_row : (n : Count) (k : Member.Row_of-Member-access-2 n)
    → access_trees k ≡ access_items (Member.items-the_row-Member-access-2 n k)
access_row n Member.end_of-Member-access-2 = search (rules, Add.the_lemmas)
access_row n (Member.more_of-Member-access-2 {n = m} a s rest) =
    search (rules, Add.the_lemmas, access_row m rest)

pub mult_row : (n : Count) (k : Mult.Row_of-Mult-extended-4 n)
    → mult_rest k ≡ mult_items (Mult.items-the_row-Mult-extended-4 n k)
mult_row n Mult.end_of-Mult-extended-4 = search (rules, Add.the_lemmas)
mult_row n (Mult.more_of-Mult-extended-4 {n = m} op u s rest) =
    search (rules, Add.the_lemmas, mult_row m rest)

pub add_row : (n : Count) (k : Add.Row_of-Add-extended-4 n)
    → add_rest k ≡ add_items (Add.items-the_row-Add-extended-4 n k)
add_row n Add.end_of-Add-extended-4 = search (rules, Add.the_lemmas)
add_row n (Add.more_of-Add-extended-4 {n = m} op u s rest) =
    search (rules, Add.the_lemmas, add_row m rest)

pub and_row : (n : Count) (k : And.Row_of-And-extended-2 n)
    → and_rest k ≡ relation_items (And.items-the_row-And-extended-2 n k)
and_row n And.end_of-And-extended-2 = search (rules, Or.the_lemmas)
and_row n (And.more_of-And-extended-2 {n = m} r s rest) =
    search (rules, Or.the_lemmas, and_row m rest)

pub or_row : (n : Count) (k : Or.Row_of-Or-extended-2 n)
    → or_rest k ≡ and_items (Or.items-the_row-Or-extended-2 n k)
or_row n Or.end_of-Or-extended-2 = search (rules, Or.the_lemmas)
or_row n (Or.more_of-Or-extended-2 {n = m} r s v row t rest) =
    search (rules, Or.the_lemmas, and_row, or_row m rest)

-- an operand made from a primary and what is accessed in it
pub view_operand : (item : Node Primary.Primary) (access : Vec (Node MemAccess.MemAccess) Global)
    (s : Span) (v : Vec (MultOp × Node Unary.Unary) Global)
    (w : Vec (AddOp × Node Mult.Mult) Global) → v.items ≡ [] → w.items ≡ []
    → add_parts (Add.roll-Add record { initial = record { inner = Mult.roll-Mult record { initial = record { inner = Unary.roll-Unary record { op = None; item = record { inner = Member.roll-Member record { item = item; access = access }; span = s } }; span = s }; extended = v }; span = s }; extended = w })
    ≡ operand_parts s item access.items
view_operand item access s v w e f =
    search (rules, Add.the_lemmas, access_row, mult_row, add_row, e, f)

-- the items of a list
more_row : (n : Count) (k : MemAccess.Row_of-MemAccess-Call-0-2 n) → more_items k
    ≡ more_trees Label.expr expr_parts (MemAccess.items-the_row-MemAccess-Call-0-2 n k)
more_row n MemAccess.end_of-MemAccess-Call-0-2 = search (rules, Or.the_lemmas)
more_row n (MemAccess.more_of-MemAccess-Call-0-2 {n = m} e s rest) =
    search (rules, Or.the_lemmas, more_row m rest)

pub items_row : (n : Count) (k : MemAccess.Row_of-MemAccess-Call-0-2 n) → expr_items k
    ≡ item_trees Label.expr expr_parts (MemAccess.items-the_row-MemAccess-Call-0-2 n k)
items_row n MemAccess.end_of-MemAccess-Call-0-2 = search (rules, Or.the_lemmas)
items_row n (MemAccess.more_of-MemAccess-Call-0-2 {n = m} e s rest) =
    search (rules, Or.the_lemmas, more_row m rest)

pub view_list : (v : Vec (Node Expr.Expr) Global)
    → primary_parts (Primary.EList v) ≡ variant Label.list (leaf (codes "[")
    (join (item_trees Label.expr expr_parts v.items) (leaf (codes "]") none))) none
view_list v = search (rules, Or.the_lemmas, items_row)

-- the entries of a record
more_init_row : (n : Count) (k : Primary.Row_of-Primary-RInits-0-2 n) → more_inits k
    ≡ more_trees Label.rec_init init_parts (Primary.items-the_row-Primary-RInits-0-2 n k)
more_init_row n Primary.end_of-Primary-RInits-0-2 = search (rules, Or.the_lemmas)
more_init_row n (Primary.more_of-Primary-RInits-0-2 {n = m} p s e t u rest) =
    search (rules, Or.the_lemmas, more_init_row m rest)

pub init_row : (n : Count) (k : Primary.Row_of-Primary-RInits-0-2 n) → init_items k
    ≡ item_trees Label.rec_init init_parts (Primary.items-the_row-Primary-RInits-0-2 n k)
init_row n Primary.end_of-Primary-RInits-0-2 = search (rules, Or.the_lemmas)
init_row n (Primary.more_of-Primary-RInits-0-2 {n = m} p s e t u rest) =
    search (rules, Or.the_lemmas, more_init_row m rest)

pub view_record : (v : Vec (Node RecInit.RecInit) Global)
    → primary_parts (Primary.RInits v) ≡ variant Label.fields (leaf (codes "{")
    (join (item_trees Label.rec_init init_parts v.items) (leaf (codes "}") none))) none
view_record v = search (rules, Or.the_lemmas, init_row)

pub view_call : (v : Vec (Node Expr.Expr) Global) → access_parts (MemAccess.Call v)
    ≡ leaf (codes "(") (join (item_trees Label.expr expr_parts v.items) (leaf (codes ")") none))
view_call v = search (rules, Or.the_lemmas, items_row)

-- Operands in a row.
pub view_or : (first : Node And.And) (more : Vec (Node And.And) Global)
    → or_parts (Or.roll-Or record { initial = first; extended = more })
    ≡ node Label.and first.span (and_parts first.inner) (and_items more.items)
view_or first more = search (rules, Or.the_lemmas, and_row, or_row)

pub view_add : (first : Node Mult.Mult) (more : Vec (AddOp × Node Mult.Mult) Global)
    → add_parts (Add.roll-Add record { initial = first; extended = more })
    ≡ node Label.mult first.span (mult_parts first.inner) (add_items more.items)
view_add first more = search (rules, Or.the_lemmas, add_row)

pub view_mult : (first : Node Unary.Unary) (more : Vec (MultOp × Node Unary.Unary) Global)
    → mult_parts (Mult.roll-Mult record { initial = first; extended = more })
    ≡ node Label.unary first.span (unary_parts first.inner) (mult_items more.items)
view_mult first more = search (rules, Or.the_lemmas, mult_row)

-- a member after its signs
pub view_unary : (op : Option NegOp) (m : Node Member.Member)
    → unary_parts (Unary.roll-Unary record { op = op; item = m })
    ≡ sign_leaves op (node Label.member m.span (member_parts m.inner) none)
view_unary op m = search (rules, Or.the_lemmas, access_row)
