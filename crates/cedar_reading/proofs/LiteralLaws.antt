-- Literals, strings and names of one word as primaries.
use Rattle.std.specs.Prelude.{◌≡◌, ℕ, ◌||◌, Bool, true, false, List, [], ◌∷◌}
use Rattle.std.specs.Borrow.{Bor}
use Rattle.std.proofs.Common.{refl, sym, ap, ◌∙◌}
use Rattle.cedar_tokens.specs.declared.kind.Kind.{Kind}
use Rattle.cedar_tokens.specs.declared.kind.Kind.TheVariants as K
use Rattle.cedar_tokens.specs.Kinds.{is, is_boolean, begins}
use Rattle.cedar_grammar.specs.Trees.{Label, Forest, none, leaf, branch}
use Rattle.cedar_grammar.specs.Reader.Reading.{Reader, done, stuck, tree, token}
use Rattle.cedar_grammar.proofs.Readers.Equations.{choice_yes, choice_no, tree_done, tree_fails}
use Rattle.cedar_grammar.proofs.Booleans.{neither_first as or_left, neither_second as or_right}
use Rattle.cedar_grammar.specs.Erased.{node, primary_parts}
use Rattle.cedar_reading.specs.Reading.{kind, flat, Stands, IsLiteralOf}
use Rattle.cedar_reading.specs.ReadingParts.{is_literal, literal_rule, IsLiteralToken}
use Rattle.cedar_reading.specs.declared.lexeme.Lexeme.{Lexeme}
use Rattle.cedar_grammar.specs.declared.tree.Node.{Node}
use Rattle.cedar_grammar.specs.declared.tree.Literal.{Literal}
use Rattle.cedar_grammar.specs.declared.tree.Primary as Primary
use Rattle.cedar_reading.proofs.Steps.{token_at, token_not, first_begins}
use Rattle.cedar_reading.proofs.Rows.{row_token, row_node, row_span, row_parts}
use Rattle.cedar_reading.proofs.Operands.{row_own}
use Rattle.cedar_reading.proofs.NumberTexts.{row_number}

-- a token as a variant of a literal
abbrev variant_reader : Label → (Kind → Bool) → Reader Lexeme
variant_reader l p = tree Label.primary (tree l (token kind p))

variant_at : (l : Label) (p : Kind → Bool) (ts : List Lexeme) (t : Lexeme) (r : List Lexeme)
    → ts ≡ t ∷ r → p t.kind ≡ true
    → variant_reader l p ts ≡ done (branch Label.primary (branch l (leaf t none) none) none) r
variant_at l p ts t r e h =
    tree_done Label.primary _ ts _ r (tree_done l _ ts _ r (token_at p ts t r e h))

pub variant_not : (l : Label) (p : Kind → Bool) (ts : List Lexeme) → begins kind p ts ≡ false
    → variant_reader l p ts ≡ stuck false ts
variant_not l p ts h =
    tree_fails Label.primary _ ts false ts (tree_fails l _ ts false ts (token_not p ts h))

boolean_reads : (ts : List Lexeme) (t : Lexeme) (r : List Lexeme) → ts ≡ t ∷ r
    → is_boolean t.kind ≡ true → flat literal_rule ts
    ≡ done (branch Label.primary (branch Label.boolean (leaf t none) none) none) r
boolean_reads ts t r e h =
    choice_yes (begins kind is_boolean ts) _ _ ts (first_begins is_boolean ts t r e ∙ h)
    ∙ variant_at Label.boolean is_boolean ts t r e h

number_reads : (ts : List Lexeme) (t : Lexeme) (r : List Lexeme) → ts ≡ t ∷ r → t.kind ≡ K.Number
    → flat literal_rule ts
    ≡ done (branch Label.primary (branch Label.number (leaf t none) none) none) r
number_reads ts t r e h = choice_no (begins kind is_boolean ts) _ _ ts
    (first_begins is_boolean ts t r e ∙ ap is_boolean h)
    ∙ choice_yes (begins kind (is K.Number) ts) _ _ ts (first_begins (is K.Number) ts t r e
    ∙ ap (is K.Number) h) ∙ variant_at Label.number (is K.Number) ts t r e (ap (is K.Number) h)

text_reads : (ts : List Lexeme) (t : Lexeme) (r : List Lexeme) → ts ≡ t ∷ r → t.kind ≡ K.Str → flat
    literal_rule ts ≡ done (branch Label.primary (branch Label.string (leaf t none) none) none) r
text_reads ts t r e h = choice_no (begins kind is_boolean ts) _ _ ts
    (first_begins is_boolean ts t r e ∙ ap is_boolean h)
    ∙ choice_no (begins kind (is K.Number) ts) _ _ ts (first_begins (is K.Number) ts t r e
    ∙ ap (is K.Number) h) ∙ variant_at Label.string (is K.Str) ts t r e (ap (is K.Str) h)

-- a literal
pub literal_reads : (l : Literal) (n : Node Primary.Primary) (ts : List Lexeme) (t : Lexeme)
    (r : List Lexeme) → ts ≡ t ∷ r → IsLiteralToken t l → IsLiteralOf l t.span n
    → (f : Forest Label Lexeme) × (flat literal_rule ts ≡ done (branch Label.primary f none) r)
    × Stands n.span (primary_parts n.inner) f
literal_reads Literal.True n ts t r e h i = (
  branch Label.boolean (leaf t none) none,
  boolean_reads ts t r e (ap is_boolean h),
  row_span _ _ _ _ (sym i.1)
      (row_parts _ _ _ _ i.0 (row_node Label.boolean _ _ _ refl (row_token t K.True h refl refl))),
)
literal_reads Literal.False n ts t r e h i = (
  branch Label.boolean (leaf t none) none,
  boolean_reads ts t r e (ap is_boolean h),
  row_span _ _ _ _ (sym i.1)
      (row_parts _ _ _ _ i.0 (row_node Label.boolean _ _ _ refl (row_token t K.False h refl refl))),
)
literal_reads (Literal.Num u) n ts t r e h i = (
  branch Label.number (leaf t none) none,
  number_reads ts t r e h.0,
  row_span _ _ _ _ (sym i.1)
      (row_parts _ _ _ _ i.0 (row_node Label.number _ _ _ refl (row_number t u.now h.0 h.1))),
)
literal_reads (Literal.Str u) n ts t r e h i = (
  branch Label.string (leaf t none) none,
  text_reads ts t r e h.0,
  row_span _ _ _ _ (sym i.1) (row_parts _ _ _ _
      (i.0 ∙ ap (λ (z : Bor (List ℕ)). node Label.string t.span (leaf z.now none) none) h.1)
      (row_node Label.string _ _ _ refl (row_own t K.Str h.0 refl refl))),
)

pub literal_not : (ts : List Lexeme) → begins kind is_literal ts ≡ false
    → flat literal_rule ts ≡ stuck false ts
literal_not ts h =
    let k = go ts h in
    choice_no (begins kind is_boolean ts) _ _ ts k.0
    ∙ choice_no (begins kind (is K.Number) ts) _ _ ts k.1
    ∙ variant_not Label.string (is K.Str) ts k.2
  where
    go : (ts : List Lexeme) → begins kind is_literal ts ≡ false → (begins kind is_boolean ts
        ≡ false) × (begins kind (is K.Number) ts ≡ false) × (begins kind (is K.Str) ts ≡ false)
    go [] h = (refl, refl, refl)
    go (t ∷ ts) h =
        let a = or_left (is_boolean t.kind) (is K.Number t.kind || is K.Str t.kind) h in
        let b = or_right (is_boolean t.kind) (is K.Number t.kind || is K.Str t.kind) h in (
          a,
          or_left (is K.Number t.kind) (is K.Str t.kind) b,
          or_right (is K.Number t.kind) (is K.Str t.kind) b,
        )
