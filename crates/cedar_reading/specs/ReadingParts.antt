-- What parse functions guarantee for literals, keys, entities and the words before them, in terms of the reader.
use Rattle.std.specs.Prelude.{◌≡◌, ℕ, ◌||◌, Bool, true, false, List, [], ◌∷◌, Result, Ok, Err, Option, Some, None, codes}
use Rattle.std.specs.Borrow.{Bor}
use Rattle.cedar_tokens.specs.Listing.{without_zeros}
use Rattle.cedar_tokens.specs.declared.token.Span.{Span}
use Rattle.cedar_tokens.specs.declared.kind.Kind.{Kind}
use Rattle.cedar_tokens.specs.declared.kind.Kind.TheVariants as K
use Rattle.cedar_tokens.specs.Kinds.{is, is_ident, is_variable, is_boolean, begins}
use Rattle.cedar_grammar.specs.Trees.{Label, Forest, none, leaf, branch, join}
use Rattle.cedar_grammar.specs.Reader.Reading.{Reader, done, after, both, tree, token}
use Rattle.cedar_grammar.specs.Reader.Rules.{Rule, leaf_of, tailed, entity, items}
use Rattle.cedar_grammar.specs.Reader.Rules as R
use Rattle.cedar_grammar.specs.Reader.Regroup.{gather}
use Rattle.cedar_grammar.specs.Reader.Lines.{◌▸◌, ◌∥◌, one_of, ident_rule, maybe, entity_item, scoped, action}
use Rattle.cedar_reading.specs.declared.lexeme.Lexeme.{Lexeme}
use Rattle.cedar_reading.specs.declared.reading.Refusal.{Refusal}
use Rattle.cedar_grammar.specs.declared.tree.Node.{Node}
use Rattle.cedar_grammar.specs.declared.tree.Ident.{Ident}
use Rattle.cedar_grammar.specs.declared.tree.Name.{Name}
use Rattle.cedar_grammar.specs.declared.tree.Str.{Str}
use Rattle.cedar_grammar.specs.declared.tree.Slot.{Slot}
use Rattle.cedar_grammar.specs.declared.tree.Literal.{Literal}
use Rattle.cedar_grammar.specs.declared.tree.RelOp.{RelOp}
use Rattle.cedar_grammar.specs.declared.tree.VariableDef.{VariableDef}
use Rattle.cedar_grammar.specs.declared.tree.Primary as Primary
use Rattle.cedar_grammar.specs.declared.tree.Add as Add
use Rattle.cedar_grammar.specs.declared.tree.Expr as Expr
use Rattle.cedar_grammar.specs.declared.tree.Or as Or
use Rattle.cedar_grammar.specs.Erased.{node, ident_tree, name_tree, str_tree, primary_parts, slot_text, type_parts, operator_parts, add_parts, expr_parts, or_parts, variable_parts}
use Rattle.cedar_reading.specs.Reading.{kind, Fails, Stands, IsMade, span_to, str_parts, name_parts}

-- Literals.
abbrev pub is_literal : Kind → Bool
is_literal x = is_boolean x || (is K.Number x || is K.Str x)

abbrev pub text_primary : Rule
text_primary = R.node Label.primary (R.node Label.string (one_of K.Str))

abbrev pub literal_rule : Rule
literal_rule = R.node Label.primary (R.node Label.boolean (leaf_of is_boolean)) ∥ R.node Label.primary (R.node Label.number (one_of K.Number)) ∥ text_primary

abbrev pub key_rule : Rule
key_rule = R.node Label.primary (R.node Label.name ident_rule) ∥ text_primary

-- the literal that the token is
abbrev pub IsLiteralToken : Lexeme → Literal → Type 0
IsLiteralToken t Literal.True = t.kind ≡ K.True
IsLiteralToken t Literal.False = t.kind ≡ K.False
IsLiteralToken t (Literal.Num u) = (t.kind ≡ K.Number) × (u.now ≡ without_zeros t.text.now)
IsLiteralToken t (Literal.Str u) = (t.kind ≡ K.Str) × (u ≡ t.text)

abbrev pub HasLiteral : Lexeme → Option Literal → Type 0
HasLiteral t None = is_literal t.kind ≡ false
HasLiteral t (Some l) = IsLiteralToken t l

-- Words joined by `::`, and what follows them.
abbrev pub ident_reader : Reader Lexeme
ident_reader = tree Label.ident (token kind is_ident)

abbrev pub text_reader : Reader Lexeme
text_reader = tree Label.str (token kind (is K.Str))

-- more words, then a string or what Z reads
abbrev pub words_on : Reader Lexeme → Reader Lexeme
words_on Z = tailed kind K.DoubleColon is_ident ident_reader text_reader Z

abbrev pub words_then : Reader Lexeme → Reader Lexeme
words_then Z = both ident_reader (words_on Z)

-- `::` comes after the first word
abbrev pub GoesOn : List Lexeme → Type 0
GoesOn ts = (f : Forest Label Lexeme) × (r : List Lexeme) × (ident_reader ts ≡ done f r) × (begins kind (is K.DoubleColon) r ≡ true)

-- the words of a path and its name: one word, or one followed by `::`
abbrev pub Words : List (Node Ident) → Forest Label Lexeme → List Lexeme → List Lexeme → Type 0
Words [] row ts rest = ident_reader ts ≡ done row rest
Words (n ∷ ns) row ts rest = GoesOn ts

-- the words read, before what Z reads; or the entity they make with a string
abbrev pub WordsEnd : Node Name → Option (Node Str) → Forest Label Lexeme → List Lexeme → List Lexeme → Type 0
WordsEnd name None row ts rest = (begins kind (is K.DoubleColon) rest ≡ false) × Words name.inner.path.items row ts rest × ((Z : Reader Lexeme) → words_then Z ts ≡ after (Z rest) (λ f r. done (join row f) r))
WordsEnd name (Some eid) row ts rest = (d : Lexeme) × (f : Forest Label Lexeme) × (d.kind ≡ K.DoubleColon) × GoesOn ts × Stands eid.span (str_parts eid.inner) f
    × ((Z : Reader Lexeme) → words_then Z ts ≡ done (join row (leaf d (branch Label.str f none))) rest)

-- regrouping carries on past the words
abbrev pub Gathers : Forest Label Lexeme → Type 0
Gathers row = (f : Forest Label Lexeme) → gather none (join row f) ≡ gather row f

abbrev pub GivesWords : Result ((Node Name × Option (Node Str)) × Bor (List Lexeme)) Refusal → List Lexeme → Type 0
GivesWords (Ok x) ts = (row : Forest Label Lexeme) × Gathers row × Stands x.0.0.span (name_parts x.0.0.inner) row × WordsEnd x.0.0 x.0.1 row ts x.1.now
GivesWords (Err e) ts = (Z : Reader Lexeme) → Fails e (words_then Z ts)

abbrev pub IsEntityOf : Node Name → Node Str → Node Primary.Primary → Type 0
IsEntityOf path eid = let span = span_to path.span eid.span.end in IsMade primary_parts (node Label.ref span (name_tree path (leaf (codes "::") (str_tree eid none))) none) span

-- whether the name at the start of the tokens is a variable alone
abbrev pub TellsVariable : List Lexeme → Node Name → Bool → Type 0
TellsVariable ts name true = (begins kind is_variable ts ≡ true) × (name.inner.path.items ≡ [])
TellsVariable ts name false = begins kind is_variable ts ≡ true → name.inner.path.items ≡ [] → ⊥

-- Slots.
abbrev pub slot_kind : Slot → Kind
slot_kind Slot.Principal = K.PrincipalSlot
slot_kind Slot.Resource = K.ResourceSlot

abbrev pub IsSlotOf : Slot → Span → Node Primary.Primary → Type 0
IsSlotOf t s = IsMade primary_parts (node Label.slot s (leaf (slot_text t) none) none) s

abbrev pub variable_kind : Slot → Kind
variable_kind Slot.Principal = K.Principal
variable_kind Slot.Resource = K.Resource

abbrev pub slot_or_entity : Kind → Rule
slot_or_entity k = R.node Label.primary (R.node Label.slot (one_of k)) ∥ entity

abbrev pub entity_list : Rule
entity_list = R.node Label.primary (R.node Label.list (one_of K.LBracket ▸ maybe (items entity_item) ▸ one_of K.RBracket))

-- the three variables in brackets
abbrev pub scope_rule : Rule
scope_rule = one_of K.LParen ▸ scoped K.Principal K.PrincipalSlot ▸ one_of K.Comma ▸ action ▸ one_of K.Comma ▸ scoped K.Resource K.ResourceSlot ▸ maybe (one_of K.Comma) ▸ one_of K.RParen

-- where the last part ends
abbrev pub variable_end : Node Ident → Option (Node Name) → Option (RelOp × Node Add.Add) → ℕ
variable_end v type (Some x) = x.1.span.end
variable_end v (Some name) None = name.span.end
variable_end v None None = v.span.end

abbrev pub IsVariableOf : Node Ident → Option (Node Name) → Option (RelOp × Node Add.Add) → Node VariableDef → Type 0
IsVariableOf v type operator = IsMade variable_parts (ident_tree v (type_parts type (operator_parts operator))) (span_to v.span (variable_end v type operator))

-- an operand without operators
abbrev pub IsLoneOrOf : Node Add.Add → Node Or.Or → Type 0
IsLoneOrOf a = IsMade or_parts (node Label.and a.span (node Label.relation a.span (node Label.add a.span (add_parts a.inner) none) none) none) a.span

abbrev pub IsOrExprOf : Node Or.Or → Node Expr.Expr → Type 0
IsOrExprOf o = IsMade expr_parts (node Label.or o.span (or_parts o.inner) none) o.span

-- after a success, P relates what was made to what was read
abbrev pub Makes : {X Y : Type 0} → (X → Y → Type 0) → Result (X × Bor (List Lexeme)) Refusal → Result (Y × Bor (List Lexeme)) Refusal → Type 0
Makes P (Ok x) (Ok y) = P x.0 y.0
Makes P _ _ = Unit {0}
