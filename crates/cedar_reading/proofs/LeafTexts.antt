-- The tree of nodes for a row that begins with a token or a node, and the span of the row.
use Rattle.std.specs.Prelude.{◌≡◌, ℕ, ◌&&◌, ◌||◌, Bool, true, false, List, [], ◌∷◌, ◌++◌, Option, Some, None, if◌then◌else◌}
use Rattle.std.proofs.Common.{refl, sym, ap, ◌∙◌, append-nil}
use Rattle.std.proofs.lemmas.Bool.{or_parts}
use Rattle.cedar_tokens.specs.Units.{is_number}
use Rattle.cedar_tokens.specs.Listing.{token_value, without_zeros}
use Rattle.cedar_tokens.specs.declared.token.Span.{Span}
use Rattle.cedar_tokens.specs.declared.kind.Kind.{Kind}
use Rattle.cedar_tokens.specs.declared.kind.Kind.TheVariants as K
use Rattle.cedar_tokens.specs.Kinds.{is}
use Rattle.cedar_tokens.specs.TokenKinds.{kind_of}
use Rattle.cedar_grammar.specs.Trees.{Label, Forest, none, leaf, branch, yield}
use Rattle.cedar_grammar.specs.TrailingCommas.{without_trailing, drop_if, closes_next}
use Rattle.cedar_grammar.proofs.Texts.Kinds.{number_kind}
use Rattle.cedar_grammar.specs.Erased.{Erased}
use Rattle.cedar_reading.specs.Lexemes.{lexeme_nodes}
use Rattle.cedar_grammar.specs.NodeTrees.{is_node, span_of, end_of, spanned}
use Rattle.cedar_reading.specs.Reading.{kind, IsRight, AreRight, Stands}
use Rattle.cedar_reading.specs.declared.lexeme.Lexeme.{Lexeme}
use Rattle.cedar_tokens.specs.Inside.FixedTexts.{is_open, fixed_text}
use Rattle.cedar_tokens.proofs.KindsOfTexts.{text_is_fixed}

value_same : (u : List ℕ) (k : Kind) → k ≡ kind_of u → is K.Number k ≡ false → token_value u ≡ u
value_same u k e h = go (is_number u) refl
  where
    go : (b : Bool) → is_number u ≡ b → (if b then without_zeros u else u) ≡ u
    go true i = absurd (let m : is K.Number k ≡ true = ap (is K.Number) (e ∙ number_kind u i) in cc)
    go false i = refl

pub own_text : (t : Lexeme) (k : Kind) → IsRight t → t.kind ≡ k → is K.Number k ≡ false
    → token_value t.text.now ≡ t.text.now
own_text t k r e h = value_same t.text.now k (sym e ∙ r.0) h

-- a token of a kind that has one text
pub value_is_fixed : (t : Lexeme) (k : Kind) → IsRight t → t.kind ≡ k → is_open k ≡ false
    → token_value t.text.now ≡ fixed_text k
value_is_fixed t k r e h =
    let same : kind_of t.text.now ≡ k = sym r.0 ∙ e in
    let no_number = (or_parts (is K.Identifier k) (is K.Number k)
    (or_parts (is K.Identifier k || is K.Number k) (is K.Str k) h).0).1 in
    own_text t k r e no_number
    ∙ (text_is_fixed t.text.now (ap is_open same ∙ h) ∙ ap fixed_text same)

-- Rows without their trailing commas.
pub kept_leaf : (t : Lexeme) (k : Kind) (f : Forest Label Lexeme) → t.kind ≡ k
    → is K.Comma k ≡ false → without_trailing kind (leaf t f) ≡ leaf t (without_trailing kind f)
kept_leaf t k f e h = ap (λ b. drop_if (b && closes_next kind f) (leaf t (without_trailing kind f))
    (without_trailing kind f)) (ap (is K.Comma) e ∙ h)

pub nodes_leaf : (t : Lexeme) (k : Kind) (f : Forest Label Lexeme) → t.kind ≡ k
    → is K.Comma k ≡ false
    → lexeme_nodes (leaf t f) ≡ leaf (token_value t.text.now) (lexeme_nodes f)
nodes_leaf t k f e h = ap (λ b.
    spanned (λ (l : Lexeme). l.text.now) (λ (l : Lexeme). l.span) (drop_if (b && closes_next kind f)
    (leaf t (without_trailing kind f)) (without_trailing kind f))) (ap (is K.Comma) e ∙ h)

pub nodes_own : (t : Lexeme) (k : Kind) (f : Forest Label Lexeme) → IsRight t → t.kind ≡ k
    → is K.Comma k ≡ false → is K.Number k ≡ false
    → lexeme_nodes (leaf t f) ≡ leaf t.text.now (lexeme_nodes f)
nodes_own t k f r e h i =
    nodes_leaf t k f e h ∙ ap (λ u. leaf u (lexeme_nodes f)) (own_text t k r e i)

pub nodes_fixed : (t : Lexeme) (k : Kind) (f : Forest Label Lexeme) → IsRight t → t.kind ≡ k
    → is K.Comma k ≡ false → is_open k ≡ false
    → lexeme_nodes (leaf t f) ≡ leaf (fixed_text k) (lexeme_nodes f)
nodes_fixed t k f r e h i =
    nodes_leaf t k f e h ∙ ap (λ u. leaf u (lexeme_nodes f)) (value_is_fixed t k r e i)

pub nodes_node : (l : Label) (s : Span) (parts : Erased) (p g : Forest Label Lexeme)
    → is_node l ≡ true → Stands s parts p → AreRight p
    → lexeme_nodes (branch l p g) ≡ branch (l, Some s) parts (lexeme_nodes g)
nodes_node l s parts p g n h r =
    ap (λ b. branch (
      l,
      if b then span_of (λ (l : Lexeme). l.text.now) (λ (l : Lexeme). l.span)
          (yield (without_trailing kind p)) else None,
    ) (lexeme_nodes p) (lexeme_nodes g)) n
    ∙ ap (λ z. branch (l, z) (lexeme_nodes p) (lexeme_nodes g)) h.place
    ∙ ap (λ z. branch (l, Some s) z (lexeme_nodes g)) (sym (h.same r))

-- Spans of rows.
abbrev pub Covers : Span → List Lexeme → Type 0
Covers s ts = span_of (λ (l : Lexeme). l.text.now) (λ (l : Lexeme). l.span) ts ≡ Some s

abbrev pub kept : Forest Label Lexeme → List Lexeme
kept f = yield (without_trailing kind f)

-- from the start of one to the end of the other
abbrev pub from_to : Span → Span → Span
from_to s u = record { start = s.start; end = u.end }

pub end_append : (s : Span) (xs : List Lexeme) (y : Lexeme) (ys : List Lexeme)
    → end_of (λ (l : Lexeme). l.text.now) (λ (l : Lexeme). l.span) s (xs ++ (y ∷ ys))
    ≡ end_of (λ (l : Lexeme). l.text.now) (λ (l : Lexeme). l.span) y.span ys
end_append s [] y ys = refl
end_append s (x ∷ xs) y ys = end_append x.span xs y ys

pub covers_both : (xs ys : List Lexeme) (s u : Span) → Covers s xs → Covers u ys
    → Covers (from_to s u) (xs ++ ys)
covers_both [] ys s u h k = absurd cc
covers_both (x ∷ xs) [] s u h k = absurd cc
covers_both (x ∷ xs) (y ∷ ys) s u h k =
    ap (λ e. Some (record { start = x.span.start; end = e })) (end_append x.span xs y ys)
    ∙ ap (λ (z : Option Span). match_span z (λ w. Some (from_to x.span w))) k
    ∙ ap (λ (z : Option Span). match_span z (λ w. Some (from_to w u))) h
  where
    match_span : Option Span → (Span → Option Span) → Option Span
    match_span None f = None
    match_span (Some w) f = f w

pub covers_leaf : (t : Lexeme) (k : Kind) → t.kind ≡ k → is K.Comma k ≡ false
    → Covers t.span (kept (leaf t none))
covers_leaf t k e h =
    ap (λ f. span_of (λ (l : Lexeme). l.text.now) (λ (l : Lexeme). l.span) (yield f))
    (kept_leaf t k none e h)

pub covers_more : (t : Lexeme) (k : Kind) (f : Forest Label Lexeme) (s : Span) → t.kind ≡ k
    → is K.Comma k ≡ false → Covers s (kept f) → Covers (from_to t.span s) (kept (leaf t f))
covers_more t k f s e h c =
    ap (λ g. span_of (λ (l : Lexeme). l.text.now) (λ (l : Lexeme). l.span) (yield g))
    (kept_leaf t k f e h) ∙ covers_both (t ∷ []) (kept f) t.span s refl c

pub covers_node : (l : Label) (s : Span) (p : Forest Label Lexeme) → Covers s (kept p)
    → Covers s (kept (branch l p none))
covers_node l s p c =
    ap (span_of (λ (l : Lexeme). l.text.now) (λ (l : Lexeme). l.span)) (append-nil (kept p)) ∙ c

pub covers_nodes : (l : Label) (s u : Span) (p g : Forest Label Lexeme) → Covers s (kept p)
    → Covers u (kept g) → Covers (from_to s u) (kept (branch l p g))
covers_nodes l s u p g c d = covers_both (kept p) (kept g) s u c d
