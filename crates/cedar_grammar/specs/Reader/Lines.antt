-- The lines of the grammar as rules.
use Rattle.std.specs.Prelude.{ℕ, zero, suc, true, false, ◌||◌}
use Rattle.cedar_tokens.specs.declared.kind.Kind.{Kind}
use Rattle.cedar_tokens.specs.declared.kind.Kind.TheVariants as K
use Rattle.cedar_tokens.specs.Kinds.{is, is_any_word, is_ident, is_comparison, is_boolean, is_effect, is_cond_word}
use Rattle.cedar_grammar.specs.Trees.{policies, policy, annotation, variable, condition, expr, or, and, relation, add, mult, unary, member, access, primary, name, slot, rec_init}
use Rattle.cedar_grammar.specs.Trees as L
use Rattle.cedar_grammar.specs.Reader.Reading.{Reader, too_deep}
use Rattle.cedar_grammar.specs.Reader.Rules.{Rule, empty, inner, leaf_of, nested, then, either, star, node, items, entity, reference, word_of, text_rule, read, core}

infixr 24 ◌▸◌
infixr 22 ◌∥◌
abbrev pub ◌▸◌ : Rule → Rule → Rule
a ▸ b = then a b

abbrev pub ◌∥◌ : Rule → Rule → Rule
a ∥ b = either a b

abbrev pub one_of : Kind → Rule
one_of k = leaf_of (is k)

abbrev pub maybe : Rule → Rule
maybe a = a ∥ empty

abbrev pub ident_rule : Rule
ident_rule = word_of is_ident

abbrev pub path : Rule
path = node name (ident_rule ▸ star (one_of K.DoubleColon ▸ ident_rule))

abbrev pub operand : Rule → Rule
operand a = node add (node mult (node unary (node member a)))

abbrev pub entity_or : Kind → Rule
entity_or s = operand (node primary (node slot (one_of s)) ∥ entity)

abbrev pub scoped : Kind → Kind → Rule
scoped v s = node variable (word_of (is v) ▸ maybe (one_of K.Equal ▸ entity_or s ∥ one_of K.Is ▸ path ▸ maybe (one_of K.In ▸ entity_or s) ∥ one_of K.In ▸ entity_or s))

abbrev pub entity_item : Rule
entity_item = node expr (node or (node and (node relation (operand entity))))

abbrev pub action : Rule
action = node variable (word_of (is K.Action) ▸ maybe (one_of K.Equal ▸ operand entity
    ∥ one_of K.In ▸ (operand (node primary (node L.list (one_of K.LBracket ▸ maybe (items entity_item) ▸ one_of K.RBracket))) ∥ operand entity)))

abbrev pub annotation_rule : Rule
annotation_rule = node annotation (one_of K.At ▸ word_of is_any_word ▸ maybe (one_of K.LParen ▸ text_rule ▸ one_of K.RParen))

abbrev pub same_signs : Kind → Rule
same_signs k = one_of k ▸ maybe (one_of k ▸ maybe (one_of k ▸ maybe (one_of k)))

abbrev pub call_parts : Rule
call_parts = nested K.LParen (maybe (items inner) ▸ one_of K.RParen)

abbrev pub call : Rule
call = node access call_parts

abbrev pub init : Rule
init = node rec_init ((node primary (node name ident_rule) ∥ node primary (node L.string (one_of K.Str))) ▸ one_of K.Colon ▸ inner)

abbrev pub item : Rule
item = node primary (node L.boolean (leaf_of is_boolean))
    ∥ node primary (node L.number (one_of K.Number))
    ∥ node primary (node L.string (one_of K.Str))
    ∥ node primary (node L.parens (nested K.LParen (inner ▸ one_of K.RParen)))
    ∥ node primary (node L.list (nested K.LBracket (maybe (items inner) ▸ one_of K.RBracket)))
    ∥ node primary (node L.fields (nested K.LBrace (maybe (items init) ▸ one_of K.RBrace)))
    ∥ reference call_parts

abbrev pub field : Rule
field = node access (one_of K.Dot ▸ ident_rule)

abbrev pub index : Rule
index = node access (one_of K.LBracket ▸ text_rule ▸ one_of K.RBracket)

abbrev pub access_rule : Rule
access_rule = field ▸ maybe call ∥ index

abbrev pub member_rule : Rule
member_rule = node member (item ▸ star access_rule)

abbrev pub unary_rule : Rule
unary_rule = node unary (maybe (same_signs K.Neg ∥ same_signs K.Dash) ▸ member_rule)

abbrev pub mult_rule : Rule
mult_rule = node mult (unary_rule ▸ star (one_of K.Mul ▸ unary_rule))

abbrev pub add_rule : Rule
add_rule = node add (mult_rule ▸ star (leaf_of (λ x. is K.Add x || is K.Dash x) ▸ mult_rule))

abbrev pub has_field : Rule
has_field = operand (node primary (node name ident_rule) ▸ star field)

abbrev pub text_operand : Rule
text_operand = operand (node primary (node L.string (one_of K.Str)))

abbrev pub relation_rule : Rule
relation_rule = node relation (add_rule ▸ maybe (node L.compare (leaf_of is_comparison ▸ add_rule) ∥ node L.has_or_like (one_of K.Has ▸ (text_operand ∥ has_field)) ∥ node L.has_or_like (one_of K.Like ▸ text_operand)
    ∥ node L.is_type (one_of K.Is ▸ path ▸ maybe (one_of K.In ▸ add_rule))))

abbrev pub and_rule : Rule
and_rule = node and (relation_rule ▸ star (one_of K.And ▸ relation_rule))

abbrev pub or_rule : Rule
or_rule = node or (and_rule ▸ star (one_of K.Or ▸ and_rule))

abbrev pub expr_rule : Rule
expr_rule = node expr (nested K.If (inner ▸ one_of K.Then ▸ inner ▸ one_of K.Else ▸ inner) ∥ or_rule)

abbrev pub cond_rule : Rule
cond_rule = node condition (word_of is_cond_word ▸ one_of K.LBrace ▸ inner ▸ one_of K.RBrace)

abbrev pub policy_rule : Rule
policy_rule = node policy (star annotation_rule ▸ word_of is_effect
    ▸ one_of K.LParen ▸ scoped K.Principal K.PrincipalSlot ▸ one_of K.Comma ▸ action ▸ one_of K.Comma ▸ scoped K.Resource K.ResourceSlot ▸ maybe (one_of K.Comma) ▸ one_of K.RParen
    ▸ star cond_rule ▸ one_of K.SemiColon)

abbrev pub set_rule : Rule
set_rule = node policies (star policy_rule)

-- what reads them
module _ {A : Type 0} (kind : A → Kind) where
  abbrev pub expr_to : ℕ → Reader A
  expr_to zero = read kind false too_deep (core expr_rule)
  expr_to (suc d) = read kind true (expr_to d) (core expr_rule)

  abbrev pub set_to : ℕ → Reader A
  set_to d = read kind true (expr_to d) (core set_rule)
