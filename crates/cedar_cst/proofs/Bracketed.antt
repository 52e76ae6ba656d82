-- Items in brackets.
use Rattle.std.specs.Prelude.{◌≡◌, ◌&&◌, ℕ, Bool, true, false, List, [], ◌∷◌, ◌++◌, Result, Ok, Err, Some, None, Vec, codes, if◌then◌else◌}
use Rattle.std.specs.declared.alloc.Global.{Global}
use Rattle.std.specs.Borrow.{Bor}
use Rattle.std.proofs.Common.{refl, sym, ap, ◌∙◌, append_assoc}
use Rattle.cedar_tokens.specs.declared.token.Span.{Span}
use Rattle.cedar_tokens.specs.declared.kind.Kind.{Kind}
use Rattle.cedar_tokens.specs.declared.kind.Kind.TheVariants as K
use Rattle.cedar_tokens.specs.Kinds.{is, is_closing}
use Rattle.cedar_grammar.specs.Trees.{Label, Forest, none, leaf, branch, join, yield}
use Rattle.cedar_grammar.specs.TrailingCommas.{without_trailing, drop_if, closes_next}
use Rattle.cedar_grammar.specs.Reader.Reading.{Answer, Reader, done, stuck, both, tree, one}
use Rattle.cedar_grammar.proofs.Readers.Equations.{both_done, both_fails, both_then_fails, tree_done, tree_fails}
use Rattle.cedar_grammar.specs.Erased.{Erased, access_parts, primary_parts}
use Rattle.cedar_reading.specs.Lexemes.{lexeme_nodes}
use Rattle.cedar_grammar.specs.NodeTrees.{is_node, span_of}
use Rattle.cedar_reading.specs.Reading.{kind, Fails, Stands, IsMade, PassesOn, FollowedBy, GivesNode}
use Rattle.cedar_cst.specs.Boxed.{unboxed}
use Rattle.cedar_cst.specs.ReadingItems.{Boxed, StandsItems, GivesItems, bracketed, IsBracketsOf}
use Rattle.cedar_grammar.specs.NodeLists.{item_trees}
use Rattle.cedar_reading.specs.ReadingParts.{Makes}
use Rattle.cedar_reading.specs.declared.lexeme.Lexeme.{Lexeme}
use Rattle.cedar_reading.specs.declared.reading.Refusal.{Refusal}
use Rattle.cedar_grammar.specs.declared.tree.Node.{Node}
use Rattle.cedar_grammar.specs.declared.tree.MemAccess as MemAccess
use Rattle.cedar_grammar.specs.declared.tree.Primary as Primary
use Rattle.cedar_reading.proofs.LeafTexts.{kept, from_to, nodes_fixed, covers_node, kept_leaf, end_append}
use Rattle.cedar_reading.proofs.Rows.{right_join, row_span, row_parts}
use Rattle.cedar_reading.proofs.Steps.{passes}
use Rattle.cedar_tokens.specs.Inside.FixedTexts.{is_open, fixed_text}

-- a variant, whose tree has no span
pub row_variant : (l : Label) (s : Span) (p : Erased) (f : Forest Label Lexeme) → is_node l ≡ false
    → Stands s p f → Stands s (branch (l, None) p none) (branch l f none)
row_variant l s p f n g = record {
  same = λ r. ap (λ z. branch (l, None) z none) (g.same r.0)
      ∙ sym (ap (λ b. branch (
        l,
        if b then span_of (λ (l : Lexeme). l.text.now) (λ (l : Lexeme). l.span)
            (yield (without_trailing kind f)) else None,
      ) (lexeme_nodes f) none) n);
  place = covers_node l s f g.place;
}

-- the closing token is kept, and comes last
last_kept : (f : Forest Label Lexeme) (t : Lexeme) (k : Kind) → t.kind ≡ k → is K.Comma k ≡ false
    → (ys : List Lexeme) × (kept (join f (leaf t none)) ≡ ys ++ t ∷ [])
last_kept none t k e h = ([], ap yield (kept_leaf t k none e h))
last_kept (leaf a f) t k e h =
    let i = last_kept f t k e h in
    go (is K.Comma a.kind && closes_next kind (join f (leaf t none))) i.0 i.1
  where
    go : (b : Bool) (ys : List Lexeme) → kept (join f (leaf t none)) ≡ ys ++ t ∷ []
        → (zs : List Lexeme)
        × (yield (drop_if b (leaf a (without_trailing kind (join f (leaf t none))))
        (without_trailing kind (join f (leaf t none)))) ≡ zs ++ t ∷ [])
    go true ys i = (ys, i)
    go false ys i = (a ∷ ys, ap (λ z. a ∷ z) i)
last_kept (branch l f g) t k e h =
    let i = last_kept g t k e h in
    (kept f ++ i.0, ap (λ z. kept f ++ z) i.1 ∙ sym (append_assoc (kept f) i.0 (t ∷ [])))

-- items between an opening and a closing token
pub row_brackets : (o t : Lexeme) (a b : Kind) (trees : Erased) (f : Forest Label Lexeme)
    → o.kind ≡ a → is K.Comma a ≡ false → is_open a ≡ false → t.kind ≡ b → is_closing b ≡ true
    → is K.Comma b ≡ false → is_open b ≡ false → StandsItems trees f
    → Stands (from_to o.span t.span) (leaf (fixed_text a) (join trees
    (leaf (fixed_text b) none))) (leaf o (join f (leaf t none)))
row_brackets o t a b trees f e h i d c j m s = record {
  same = λ r. let k = right_join f (leaf t none) r.1 in
      ap (λ z. leaf (fixed_text a) (join trees z))
      (sym (nodes_fixed t b none k.1.0 d j m))
      ∙ ap (leaf (fixed_text a)) (sym (s t (ap is_closing d ∙ c) k.0))
      ∙ sym (nodes_fixed o a (join f (leaf t none)) r.0 e h i);
  place = let q = last_kept f t b d j in
      ap (λ z. span_of (λ (l : Lexeme). l.text.now) (λ (l : Lexeme). l.span) z)
      (ap yield (kept_leaf o a (join f (leaf t none)) e h) ∙ ap (λ z. o ∷ z) q.1)
      ∙ ap (λ z. Some (record { start = o.span.start; end = z })) (end_append o.span q.0 t []);
}

-- an opening kind and a closing kind, with their texts
pub record Encloses (a b : Kind) (x z : List ℕ) : Type 0 where
  pub comma : is K.Comma a ≡ false
  pub fixed : is_open a ≡ false
  pub opens : fixed_text a ≡ x
  pub closing : is_closing b ≡ true
  pub no_comma : is K.Comma b ≡ false
  pub end_fixed : is_open b ≡ false
  pub closes : fixed_text b ≡ z

module _ {X : Type 0} (l : Label) (parts : X → Erased) (x z : List ℕ) where
  abbrev pub enclosed_trees : Vec (Node X) Global → Erased
  enclosed_trees v = bracketed x (item_trees l parts v.items) z

  -- the items that were read, with their brackets, stand for the trees that the reader gives;
  -- or the refusal is the reader's
  abbrev pub GivesEnclosed : ℕ → Result ((Vec (Node X) Global × ℕ) × Bor (List Lexeme)) Refusal
      → Answer Lexeme → Type 0
  GivesEnclosed start (Ok y) a = (f : Forest Label Lexeme) × (a ≡ done f y.1.now)
      × Stands (record { start = start; end = y.0.1 }) (enclosed_trees y.0.0) f
  GivesEnclosed start (Err e) a = Fails e a

  -- P reads the items
  module _ (a b : Kind) (fits : Encloses a b x z) (P : Reader Lexeme) where
    abbrev pub enclosed_reader : Reader Lexeme
    enclosed_reader = both (one kind a) (both P (one kind b))

    pub enclosed_gives : (read : Result (Vec (Node X) Global × Bor (List Lexeme)) Refusal)
        (closed : Result ((Vec (Node X) Global × ℕ) × Bor (List Lexeme)) Refusal)
        (ts rest : List Lexeme) (o : Lexeme) → one kind a ts ≡ done (leaf o none) rest → o.kind ≡ a
        → GivesItems l parts read (P rest) → FollowedBy b read closed
        → GivesEnclosed o.span.start closed (enclosed_reader ts)
    enclosed_gives (Ok v) (Ok y) ts rest o e h g c = (
      leaf o (join g.0 (leaf c.1 none)),
      both_done (one kind a) (both P (one kind b)) ts (leaf o none) rest (join g.0 (leaf c.1 none))
          y.1.now e (both_done P (one kind b) rest g.0 v.1.now (leaf c.1 none) y.1.now g.1 c.2),
      row_span _ _ _ _ (ap (λ w. record { start = o.span.start; end = w }) (sym c.4))
          (row_parts _ _ _ _ (ap (λ (w : Vec (Node X) Global). enclosed_trees w) c.0 ∙ ap (λ w.
          leaf w (join (item_trees l parts v.0.items) (leaf z none))) (sym fits.opens)
          ∙ ap (λ w. leaf (fixed_text a)
          (join (item_trees l parts v.0.items) (leaf w none))) (sym fits.closes))
          (row_brackets o c.1 a b _ g.0 h fits.comma fits.fixed c.3 fits.closing fits.no_comma
          fits.end_fixed g.2)),
    )
    enclosed_gives (Ok v) (Err f) ts rest o e h g c =
        passes f _ _ c (λ y r i. both_then_fails (one kind a) (both P (one kind b)) ts
        (leaf o none) rest y r e (both_then_fails P (one kind b) rest g.0 v.1.now y r g.1 i))
    enclosed_gives (Err f) (Ok y) ts rest o e h g c = absurd c
    enclosed_gives (Err f) (Err q) ts rest o e h g c =
        rw c (passes f _ _ g (λ y r i. both_then_fails (one kind a) (both P (one kind b)) ts
        (leaf o none) rest y r e (both_fails P (one kind b) rest y r i)))

  -- what is in the brackets, as a primary of its own variant
  abbrev pub IsEnclosedOf : Label → ℕ → Vec (Node X) Global × ℕ → Boxed Primary.Primary → Type 0
  IsEnclosedOf v start y = IsBracketsOf v x (item_trees l parts y.0.items) z start y.1

  pub primary_gives : (v : Label) → is_node v ≡ false → (Q : Reader Lexeme) (start : ℕ)
      (closed : Result ((Vec (Node X) Global × ℕ) × Bor (List Lexeme)) Refusal)
      (result : Result (Boxed Primary.Primary × Bor (List Lexeme)) Refusal) (ts : List Lexeme)
      → GivesEnclosed start closed (Q ts)
      → PassesOn closed result → Makes (IsEnclosedOf v start) closed result
      → GivesNode Label.primary primary_parts (unboxed result) (tree Label.primary (tree v Q) ts)
  primary_gives v i Q start (Ok y) (Ok n) ts g p m = (
    branch v g.0 none,
    tree_done Label.primary _ ts _ y.1.now (tree_done v Q ts g.0 y.1.now g.1)
        ∙ ap (λ (w : Bor (List Lexeme)). done (branch Label.primary (branch v g.0 none) none) w.now)
        (sym p),
    row_span _ _ _ _ (sym m.1) (row_parts _ _ _ _ m.0 (row_variant v _ _ g.0 i g.2)),
  )
  primary_gives v i Q start (Ok y) (Err e) ts g p m = rw p tt
  primary_gives v i Q start (Err f) (Ok n) ts g p m = absurd p
  primary_gives v i Q start (Err f) (Err e) ts g p m =
      rw p (passes f _ _ g (λ b r k. tree_fails Label.primary _ ts b r (tree_fails v Q ts b r k)))

  -- what is in the brackets, as an access
  abbrev pub IsAccessOf : ℕ → Vec (Node X) Global × ℕ → Node MemAccess.MemAccess → Type 0
  IsAccessOf start y =
      IsMade access_parts (enclosed_trees y.0) (record { start = start; end = y.1 })

  pub access_gives : (Q : Reader Lexeme) (start : ℕ)
      (closed : Result ((Vec (Node X) Global × ℕ) × Bor (List Lexeme)) Refusal)
      (result : Result (Node MemAccess.MemAccess × Bor (List Lexeme)) Refusal) (ts : List Lexeme)
      → GivesEnclosed start closed (Q ts) → PassesOn closed result
      → Makes (IsAccessOf start) closed result
      → GivesNode Label.access access_parts result (tree Label.access Q ts)
  access_gives Q start (Ok y) (Ok n) ts g p m = (
    g.0,
    tree_done Label.access Q ts g.0 y.1.now g.1
        ∙ ap (λ (w : Bor (List Lexeme)). done (branch Label.access g.0 none) w.now) (sym p),
    row_span _ _ _ _ (sym m.1) (row_parts _ _ _ _ m.0 g.2),
  )
  access_gives Q start (Ok y) (Err e) ts g p m = rw p tt
  access_gives Q start (Err f) (Ok n) ts g p m = absurd p
  access_gives Q start (Err f) (Err e) ts g p m =
      rw p (passes f _ _ g (λ b r k. tree_fails Label.access Q ts b r k))

-- the brackets of the grammar
pub square : Encloses K.LBracket K.RBracket (codes "[") (codes "]")
square = record {
  comma = refl;
  fixed = refl;
  opens = refl;
  closing = refl;
  no_comma = refl;
  end_fixed = refl;
  closes = refl;
}

pub round : Encloses K.LParen K.RParen (codes "(") (codes ")")
round = record {
  comma = refl;
  fixed = refl;
  opens = refl;
  closing = refl;
  no_comma = refl;
  end_fixed = refl;
  closes = refl;
}

pub curly : Encloses K.LBrace K.RBrace (codes "{") (codes "}")
curly = record {
  comma = refl;
  fixed = refl;
  opens = refl;
  closing = refl;
  no_comma = refl;
  end_fixed = refl;
  closes = refl;
}

-- P reads what is in square brackets
pub list_fails : (P : Reader Lexeme) (ts : List Lexeme) (b : Bool) (r : List Lexeme)
    → both (one kind K.LBracket) (both P (one kind K.RBracket)) ts ≡ stuck b r → tree Label.primary
    (tree Label.list (both (one kind K.LBracket) (both P (one kind K.RBracket)))) ts ≡ stuck b r
list_fails P ts b r e = tree_fails Label.primary _ ts b r (tree_fails Label.list _ ts b r e)
