-- Rows of trees and the nodes that stand for them, built token by token and node by node;
-- and loops over items.
use Rattle.std.specs.Prelude.{◌≡◌, ◌&&◌, Bool, true, false, List, Some, None, if◌then◌else◌, ◌⊎◌}
use Rattle.std.proofs.Common.{refl, sym, ap, ◌∙◌, inl, inr}
use Rattle.cedar_tokens.specs.Listing.{token_value}
use Rattle.cedar_tokens.specs.declared.token.Span.{Span}
use Rattle.cedar_tokens.specs.declared.kind.Kind.{Kind}
use Rattle.cedar_tokens.specs.declared.kind.Kind.TheVariants as K
use Rattle.cedar_tokens.specs.Kinds.{is, is_closing}
use Rattle.cedar_grammar.specs.Trees.{Label, Forest, none, leaf, branch, join, yield}
use Rattle.cedar_grammar.specs.TrailingCommas.{without_trailing, drop_if, closes_next}
use Rattle.cedar_grammar.specs.Reader.Reading.{Reader, done, stuck, both, tree, repeat}
use Rattle.cedar_grammar.proofs.Readers.Equations.{Takes, IsRead, read_none, read_more, read_end, read_fails, both_done, both_fails, both_then_fails, tree_done, tree_fails, join_none, join_assoc}
use Rattle.cedar_grammar.proofs.Readers.Languages.{yield_join}
use Rattle.cedar_grammar.specs.Erased.{Erased}
use Rattle.cedar_reading.specs.Lexemes.{lexeme_nodes}
use Rattle.cedar_grammar.specs.NodeTrees.{is_node, span_of, spanned}
use Rattle.cedar_reading.specs.Reading.{kind, AreRight, Stands, StandsMany}
use Rattle.cedar_reading.specs.declared.lexeme.Lexeme.{Lexeme}
use Rattle.cedar_reading.proofs.LeafTexts.{Covers, kept, from_to, nodes_fixed, nodes_node, covers_leaf, covers_more, covers_node, covers_nodes, covers_both}
use Rattle.cedar_tokens.specs.Inside.FixedTexts.{is_open, fixed_text}

-- a token whose text is determined by its kind
pub row_token : (t : Lexeme) (k : Kind) → t.kind ≡ k → is K.Comma k ≡ false → is_open k ≡ false
    → Stands t.span (leaf (fixed_text k) none) (leaf t none)
row_token t k e h i =
    record { same = λ r. sym (nodes_fixed t k none r.0 e h i); place = covers_leaf t k e h }

pub row_more : (t : Lexeme) (k : Kind) (s : Span) (p : Erased) (f : Forest Label Lexeme)
    → t.kind ≡ k → is K.Comma k ≡ false → is_open k ≡ false → Stands s p f
    → Stands (from_to t.span s) (leaf (fixed_text k) p) (leaf t f)
row_more t k s p f e h i g = record {
  same = λ r. ap (leaf (fixed_text k)) (g.same r.1)
      ∙ sym (nodes_fixed t k f r.0 e h i);
  place = covers_more t k f s e h g.place;
}

pub row_node : (l : Label) (s : Span) (p : Erased) (f : Forest Label Lexeme) → is_node l ≡ true
    → Stands s p f → Stands s (branch (l, Some s) p none) (branch l f none)
row_node l s p f n g =
    record { same = λ r. sym (nodes_node l s p f none n g r.0); place = covers_node l s f g.place }

pub row_nodes : (l : Label) (s u : Span) (p q : Erased) (f h : Forest Label Lexeme)
    → is_node l ≡ true → Stands s p f → Stands u q h
    → Stands (from_to s u) (branch (l, Some s) p q) (branch l f h)
row_nodes l s u p q f h n g i = record {
  same = λ r. ap (λ z. branch (l, Some s) p z) (i.same r.1) ∙ sym (nodes_node l s p f h n g r.0);
  place = covers_nodes l s u f h g.place i.place;
}

pub row_span : (s u : Span) (p : Erased) (f : Forest Label Lexeme) → s ≡ u → Stands s p f
    → Stands u p f
row_span s u p f e g = record { same = g.same; place = g.place ∙ ap Some e }

pub row_parts : (s : Span) (p q : Erased) (f : Forest Label Lexeme) → q ≡ p → Stands s p f
    → Stands s q f
row_parts s p q f e g = record { same = λ r. e ∙ g.same r; place = g.place }

-- One row after another, where the second does not begin with a closing bracket.
pub closes_join : (f g : Forest Label Lexeme) → closes_next kind g ≡ false
    → closes_next kind (join f g) ≡ closes_next kind f
closes_join none g h = h
closes_join (leaf t f) g h = refl
closes_join (branch l f i) g h = refl

kept_join : (f g : Forest Label Lexeme) → closes_next kind g ≡ false
    → without_trailing kind (join f g) ≡ join (without_trailing kind f) (without_trailing kind g)
kept_join none g h = refl
kept_join (leaf t f) g h =
    ap (λ b. drop_if (is K.Comma t.kind && b) (leaf t (without_trailing kind (join f g)))
    (without_trailing kind (join f g))) (closes_join f g h)
    ∙ ap (λ z. drop_if (is K.Comma t.kind && closes_next kind f) (leaf t z) z) (kept_join f g h)
    ∙ moved (is K.Comma t.kind && closes_next kind f)
  where
    moved : (b : Bool)
        → drop_if b (leaf t (join (without_trailing kind f) (without_trailing kind g))) (join
        (without_trailing kind f) (without_trailing kind g)) ≡ join (drop_if b
        (leaf t (without_trailing kind f)) (without_trailing kind f)) (without_trailing kind g)
    moved true = refl
    moved false = refl
kept_join (branch l f i) g h = ap (branch l (without_trailing kind f)) (kept_join i g h)

abbrev pub plain : Forest Label Lexeme → Erased
plain f = spanned (λ (l : Lexeme). l.text.now) (λ (l : Lexeme). l.span) f

plain_join : (f g : Forest Label Lexeme) → plain (join f g) ≡ join (plain f) (plain g)
plain_join none g = refl
plain_join (leaf t f) g = ap (leaf (token_value t.text.now)) (plain_join f g)
plain_join (branch l f i) g = ap (branch (
  l,
  if is_node l then span_of (λ (l : Lexeme). l.text.now) (λ (l : Lexeme). l.span) (yield f)
      else None,
) (plain f)) (plain_join i g)

pub right_join : (f g : Forest Label Lexeme) → AreRight (join f g) → AreRight f × AreRight g
right_join none g r = (tt, r)
right_join (leaf t f) g r = let k = right_join f g r.1 in ((r.0, k.0), k.1)
right_join (branch l f i) g r = let k = right_join i g r.1 in ((r.0, k.0), k.1)

pub row_join : (s u : Span) (p q : Erased) (f g : Forest Label Lexeme) → closes_next kind g ≡ false
    → Stands s p f → Stands u q g → Stands (from_to s u) (join p q) (join f g)
row_join s u p q f g h a b = record {
  same = λ r. let k = right_join f g r in
      ap (λ z. join z q) (a.same k.0) ∙ ap (join (lexeme_nodes f)) (b.same k.1) ∙ sym
      (ap plain (kept_join f g h) ∙ plain_join (without_trailing kind f) (without_trailing kind g));
  place = ap (λ z. span_of (λ (l : Lexeme). l.text.now) (λ (l : Lexeme). l.span) z)
      (ap yield (kept_join f g h) ∙ yield_join (without_trailing kind f) (without_trailing kind g))
      ∙ covers_both (kept f) (kept g) s u a.place b.place;
}

pub many_join : (u : Span) (p q : Erased) (f g : Forest Label Lexeme) → closes_next kind g ≡ false
    → StandsMany p f → Stands u q g → StandsMany (join p q) (join f g)
many_join u p q f g h a b = record {
  same = λ r. let k = right_join f g r in
      ap (λ z. join z q) (a.same k.0) ∙ ap (join (lexeme_nodes f)) (b.same k.1) ∙ sym
      (ap plain (kept_join f g h) ∙ plain_join (without_trailing kind f) (without_trailing kind g));
  place = go a.place;
}
  where
    go : (f ≡ none) ⊎ ((s : Span) × Covers s (kept f))
        → (join f g ≡ none) ⊎ ((s : Span) × Covers s (kept (join f g)))
    go (inl e) = inr (
      u,
      ap (λ z. span_of (λ (l : Lexeme). l.text.now) (λ (l : Lexeme). l.span) (kept (join z g))) e
          ∙ b.place,
    )
    go (inr (s, c)) = inr (
      from_to s u,
      ap (λ z. span_of (λ (l : Lexeme). l.text.now) (λ (l : Lexeme). l.span) z) (ap yield
          (kept_join f g h) ∙ yield_join (without_trailing kind f) (without_trailing kind g))
          ∙ covers_both (kept f) (kept g) s u c b.place,
    )

pub no_closing : (t : Lexeme) (k : Kind) → t.kind ≡ k → is_closing k ≡ false
    → is_closing t.kind ≡ false
no_closing t k e h = ap is_closing e ∙ h

-- An item and then more, as long as a test holds.
module _ (l : Label) (item : Reader Lexeme) (t : List Lexeme → Bool) (P : Reader Lexeme) where
  -- the row read so far, and the tokens that are left
  pub record Chain (ts : List Lexeme) (f : Forest Label Lexeme) (r : List Lexeme) : Type 0 where
    pub first : Forest Label Lexeme
    pub middle : List Lexeme
    pub start : item ts ≡ done first middle
    pub more : Forest Label Lexeme
    pub read : IsRead t P middle more r
    pub whole : f ≡ join first more

  pub chain_first : (ts : List Lexeme) (f : Forest Label Lexeme) (r : List Lexeme)
      → item ts ≡ done f r → Chain ts f r
  chain_first ts f r e = record {
    first = f;
    middle = r;
    start = e;
    more = none;
    read = read_none t P r;
    whole = sym (join_none f);
  }

  pub chain_fails : (ts : List Lexeme) (x : Bool) (r : List Lexeme) → item ts ≡ stuck x r
      → tree l (both item (repeat t P)) ts ≡ stuck x r
  chain_fails ts x r e = tree_fails l _ ts x r (both_fails item (repeat t P) ts x r e)

  pub chain_next : Takes P → (ts : List Lexeme) (f : Forest Label Lexeme) (r : List Lexeme)
      (g : Forest Label Lexeme) (s : List Lexeme) → Chain ts f r → t r ≡ true → P r ≡ done g s
      → Chain ts (join f g) s
  chain_next takes ts f r g s c h e = record {
    first = c.first;
    middle = c.middle;
    start = c.start;
    more = join c.more g;
    read = read_more t P takes c.middle c.more r g s c.read h e;
    whole = ap (λ z. join z g) c.whole ∙ join_assoc c.first c.more g;
  }

  pub chain_stuck : (ts : List Lexeme) (f : Forest Label Lexeme) (r : List Lexeme) (x : Bool)
      (s : List Lexeme) → Chain ts f r → t r ≡ true → P r ≡ stuck x s
      → tree l (both item (repeat t P)) ts ≡ stuck x s
  chain_stuck ts f r x s c h e = tree_fails l _ ts x s (both_then_fails item (repeat t P) ts c.first
      c.middle x s c.start (read_fails t P c.middle c.more r x s c.read h e))

  pub chain_end : (ts : List Lexeme) (f : Forest Label Lexeme) (r : List Lexeme) → Chain ts f r
      → t r ≡ false → tree l (both item (repeat t P)) ts ≡ done (branch l f none) r
  chain_end ts f r c h = tree_done l _ ts f r (both_done item (repeat t P) ts c.first c.middle
      c.more r c.start (read_end t P c.middle c.more r c.read h) ∙ ap (λ z. done z r) (sym c.whole))
