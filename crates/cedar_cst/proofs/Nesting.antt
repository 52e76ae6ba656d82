-- What may nest: expressions with `if`, primaries in brackets,
-- calls. How they are read with and without room for them.
use Rattle.std.specs.Prelude.{◌≡◌, ℕ, suc, ◌<◌, ◌-◌, ◌||◌, Bool, true, false, IsTrue, List, [], ◌∷◌}
use Rattle.std.proofs.Common.{refl, sym, ◌∙◌, arith}
use Rattle.cedar_tokens.specs.declared.kind.Kind.{Kind}
use Rattle.cedar_tokens.specs.declared.kind.Kind.TheVariants as K
use Rattle.cedar_tokens.specs.Kinds.{is, is_ident, is_boolean, begins}
use Rattle.cedar_grammar.specs.Trees.{Label}
use Rattle.cedar_grammar.specs.Reader.Reading.{Reader, stuck, choice, both, tree, nest, one}
use Rattle.cedar_grammar.specs.Reader.Rules.{nested_at, reference, items, inner}
use Rattle.cedar_grammar.specs.Reader.Lines.{call_parts, call, item, expr_rule, or_rule, maybe, init}
use Rattle.cedar_grammar.proofs.KindSets.{apart, apart_at}
use Rattle.cedar_grammar.proofs.Readers.Equations.{choice_yes, choice_no, tree_fails}
use Rattle.cedar_reading.specs.Reading.{kind, flat}
use Rattle.cedar_reading.specs.ReadingParts.{literal_rule}
use Rattle.cedar_cst.specs.ReadingExprs.{at_depth, if_rule, bracket_rule}
use Rattle.cedar_reading.specs.declared.lexeme.Lexeme.{Lexeme}
use Rattle.cedar_reading.proofs.Steps.{token_not}
use Rattle.cedar_cst.proofs.References.{tree_same, reference_none}

nested_deep : (k : Kind) (P : Reader Lexeme) (ts : List Lexeme) → begins kind (is k) ts ≡ true
    → nested_at kind false k P ts ≡ stuck true ts
unfolding nest
nested_deep k P ts h = choice_yes _ _ _ ts h ∙ choice_no false _ _ ts refl

nested_room : (k : Kind) (P : Reader Lexeme) (ts : List Lexeme) → begins kind (is k) ts ≡ true
    → nested_at kind true k P ts ≡ both (one kind k) P ts
unfolding nest
nested_room k P ts h = choice_yes _ _ _ ts h ∙ choice_yes true _ _ ts refl

begins_apart : (p q : Kind → Bool) → IsTrue (apart p q) → (ts : List Lexeme)
    → begins kind p ts ≡ true → begins kind q ts ≡ false
begins_apart p q a [] h = refl
begins_apart p q a (t ∷ ts) h = apart_at p q a t.kind h

-- one less and one more
pub depth_back : (d : ℕ) → 0 < d → suc (d - 1) ≡ d
depth_back d h = omega (arith, h)

-- Expressions.
pub if_deep : (ts : List Lexeme) → begins kind (is K.If) ts ≡ true
    → at_depth 0 expr_rule ts ≡ stuck true ts
if_deep ts h = tree_fails Label.expr _ ts true ts (choice_yes _ _ _ ts h ∙ nested_deep K.If _ ts h)

pub if_reads : (d : ℕ) (ts : List Lexeme) → begins kind (is K.If) ts ≡ true
    → at_depth (suc d) expr_rule ts ≡ at_depth (suc d) if_rule ts
if_reads d ts h = tree_same Label.expr _ _ ts (choice_yes _ _ _ ts h ∙ nested_room K.If _ ts h)

pub or_reads : (d : ℕ) (ts : List Lexeme) → begins kind (is K.If) ts ≡ false
    → at_depth d expr_rule ts ≡ tree Label.expr (at_depth d or_rule) ts
or_reads d ts h = tree_same Label.expr _ _ ts (choice_no _ _ _ ts h)

-- Calls.
pub call_deep : (ts : List Lexeme) → begins kind (is K.LParen) ts ≡ true
    → at_depth 0 call ts ≡ stuck true ts
call_deep ts h = tree_fails Label.access _ ts true ts (nested_deep K.LParen _ ts h)

pub call_reads : (d : ℕ) (ts : List Lexeme) → begins kind (is K.LParen) ts ≡ true
    → at_depth (suc d) call ts ≡ tree Label.access (both (one kind K.LParen)
    (both (at_depth (suc d) (maybe (items inner))) (one kind K.RParen))) ts
call_reads d ts h = tree_same Label.access _ _ ts (nested_room K.LParen _ ts h)

-- Primaries.
pub item_word : (d : ℕ) (ts : List Lexeme) → begins kind is_ident ts ≡ true
    → at_depth d item ts ≡ at_depth d (reference call_parts) ts
item_word d ts h =
    choice_no _ _ _ ts (begins_apart is_ident is_boolean refl ts h)
    ∙ choice_no _ _ _ ts (begins_apart is_ident (is K.Number) refl ts h)
    ∙ choice_no _ _ _ ts (begins_apart is_ident (is K.Str) refl ts h)
    ∙ choice_no _ _ _ ts (begins_apart is_ident (is K.LParen) refl ts h)
    ∙ choice_no _ _ _ ts (begins_apart is_ident (is K.LBracket) refl ts h)
    ∙ choice_no _ _ _ ts (begins_apart is_ident (is K.LBrace) refl ts h)

pub item_literal : (d : ℕ) (ts : List Lexeme) → begins kind is_ident ts ≡ false
    → begins kind (is K.LParen) ts ≡ false → begins kind (is K.LBracket) ts ≡ false
    → begins kind (is K.LBrace) ts ≡ false → at_depth d item ts ≡ flat literal_rule ts
item_literal d ts h i j k = boolean (begins kind is_boolean ts) refl
  where
    text : begins kind is_boolean ts ≡ false → begins kind (is K.Number) ts ≡ false → (b : Bool)
        → begins kind (is K.Str) ts ≡ b → at_depth d item ts ≡ flat literal_rule ts
    text x y true z = choice_no _ _ _ ts x ∙ choice_no _ _ _ ts y ∙ choice_yes _ _ _ ts z
        ∙ sym (choice_no _ _ _ ts x ∙ choice_no _ _ _ ts y)
    text x y false z =
        choice_no _ _ _ ts x ∙ choice_no _ _ _ ts y ∙ choice_no _ _ _ ts z ∙ choice_no _ _ _ ts i
        ∙ choice_no _ _ _ ts j ∙ choice_no _ _ _ ts k ∙ reference_none d ts h
        ∙ sym (choice_no _ _ _ ts x ∙ choice_no _ _ _ ts y ∙ tree_fails Label.primary _ ts false ts
        (tree_fails Label.string _ ts false ts (token_not (is K.Str) ts z)))

    number : begins kind is_boolean ts ≡ false → (b : Bool) → begins kind (is K.Number) ts ≡ b
        → at_depth d item ts ≡ flat literal_rule ts
    number x true y = choice_no _ _ _ ts x ∙ choice_yes _ _ _ ts y
        ∙ sym (choice_no _ _ _ ts x ∙ choice_yes _ _ _ ts y)
    number x false y = text x y (begins kind (is K.Str) ts) refl

    boolean : (b : Bool) → begins kind is_boolean ts ≡ b → at_depth d item ts ≡ flat literal_rule ts
    boolean true x = choice_yes _ _ _ ts x ∙ sym (choice_yes _ _ _ ts x)
    boolean false x = number x (begins kind (is K.Number) ts) refl

-- the choices before the brackets
module _ (k : Kind) (a : IsTrue (apart (is k) is_boolean)) (b : IsTrue (apart (is k) (is K.Number)))
    (c : IsTrue (apart (is k) (is K.Str))) (P : Reader Lexeme) (X Y Z : Reader Lexeme)
    (ts : List Lexeme) (h : begins kind (is k) ts ≡ true) where
  before : choice (begins kind is_boolean ts) X (λ us. choice (begins kind (is K.Number) us) Y
      (λ vs. choice (begins kind (is K.Str) vs) Z P vs) us) ts ≡ P ts
  before = choice_no _ _ _ ts (begins_apart (is k) is_boolean a ts h)
      ∙ choice_no _ _ _ ts (begins_apart (is k) (is K.Number) b ts h)
      ∙ choice_no _ _ _ ts (begins_apart (is k) (is K.Str) c ts h)

pub bracket_deep : (ts : List Lexeme) → (begins kind (is K.LParen) ts
    || (begins kind (is K.LBracket) ts || begins kind (is K.LBrace) ts)) ≡ true
    → at_depth 0 item ts ≡ stuck true ts
bracket_deep ts h = go (begins kind (is K.LParen) ts) refl (begins kind (is K.LBracket) ts) refl
    (begins kind (is K.LBrace) ts) refl h
  where
    nothing : (v : Label) (k : Kind) (P : Reader Lexeme) → begins kind (is k) ts ≡ true
        → tree Label.primary (tree v (nested_at kind false k P)) ts ≡ stuck true ts
    nothing v k P i =
        tree_fails Label.primary _ ts true ts (tree_fails v _ ts true ts (nested_deep k P ts i))

    go : (x : Bool) → begins kind (is K.LParen) ts ≡ x → (y : Bool)
        → begins kind (is K.LBracket) ts ≡ y → (z : Bool) → begins kind (is K.LBrace) ts ≡ z
        → (x || (y || z)) ≡ true → at_depth 0 item ts ≡ stuck true ts
    go true i y j z k w = before K.LParen refl refl refl _ _ _ _ ts i ∙ choice_yes _ _ _ ts i
        ∙ nothing Label.parens K.LParen _ i
    go false i true j z k w = before K.LBracket refl refl refl _ _ _ _ ts j ∙ choice_no _ _ _ ts i
        ∙ choice_yes _ _ _ ts j ∙ nothing Label.list K.LBracket _ j
    go false i false j true k w = before K.LBrace refl refl refl _ _ _ _ ts k ∙ choice_no _ _ _ ts i
        ∙ choice_no _ _ _ ts j ∙ choice_yes _ _ _ ts k ∙ nothing Label.fields K.LBrace _ k
    go false i false j false k w = absurd cc

pub bracket_reads : (d : ℕ) (ts : List Lexeme) → (begins kind (is K.LParen) ts
    || (begins kind (is K.LBracket) ts || begins kind (is K.LBrace) ts)) ≡ true
    → at_depth (suc d) item ts ≡ at_depth (suc d) bracket_rule ts
bracket_reads d ts h = go (begins kind (is K.LParen) ts) refl (begins kind (is K.LBracket) ts) refl
    (begins kind (is K.LBrace) ts) refl h
  where
    within : (v : Label) (k : Kind) (P : Reader Lexeme) → begins kind (is k) ts ≡ true
        → tree Label.primary (tree v (nested_at kind true k P)) ts
        ≡ tree Label.primary (tree v (both (one kind k) P)) ts
    within v k P i = tree_same Label.primary _ _ ts (tree_same v _ _ ts (nested_room k P ts i))

    go : (x : Bool) → begins kind (is K.LParen) ts ≡ x → (y : Bool)
        → begins kind (is K.LBracket) ts ≡ y → (z : Bool) → begins kind (is K.LBrace) ts ≡ z
        → (x || (y || z)) ≡ true → at_depth (suc d) item ts ≡ at_depth (suc d) bracket_rule ts
    go true i y j z k w = before K.LParen refl refl refl _ _ _ _ ts i ∙ choice_yes _ _ _ ts i
        ∙ within Label.parens K.LParen _ i ∙ sym (choice_yes _ _ _ ts i)
    go false i true j z k w =
        before K.LBracket refl refl refl _ _ _ _ ts j ∙ choice_no _ _ _ ts i ∙ choice_yes _ _ _ ts j
        ∙ within Label.list K.LBracket _ j ∙ sym (choice_no _ _ _ ts i ∙ choice_yes _ _ _ ts j)
    go false i false j true k w = before K.LBrace refl refl refl _ _ _ _ ts k ∙ choice_no _ _ _ ts i
        ∙ choice_no _ _ _ ts j ∙ choice_yes _ _ _ ts k ∙ within Label.fields K.LBrace _ k
        ∙ sym (choice_no _ _ _ ts i ∙ choice_no _ _ _ ts j)
    go false i false j false k w = absurd cc

-- the three kinds of brackets
pub round_reads : (d : ℕ) (ts : List Lexeme) → begins kind (is K.LParen) ts ≡ true
    → at_depth (suc d) bracket_rule ts ≡ tree Label.primary (tree Label.parens
    (both (one kind K.LParen) (both (at_depth (suc d) inner) (one kind K.RParen)))) ts
round_reads d ts h = choice_yes _ _ _ ts h

pub square_reads : (d : ℕ) (ts : List Lexeme) → begins kind (is K.LParen) ts ≡ false
    → begins kind (is K.LBracket) ts ≡ true
    → at_depth (suc d) bracket_rule ts ≡ tree Label.primary (tree Label.list (both
    (one kind K.LBracket) (both (at_depth (suc d) (maybe (items inner))) (one kind K.RBracket)))) ts
square_reads d ts h i = choice_no _ _ _ ts h ∙ choice_yes _ _ _ ts i

pub curly_reads : (d : ℕ) (ts : List Lexeme) → begins kind (is K.LParen) ts ≡ false
    → begins kind (is K.LBracket) ts ≡ false
    → at_depth (suc d) bracket_rule ts ≡ tree Label.primary (tree Label.fields (both
    (one kind K.LBrace) (both (at_depth (suc d) (maybe (items init))) (one kind K.RBrace)))) ts
curly_reads d ts h i = choice_no _ _ _ ts h ∙ choice_no _ _ _ ts i
