-- Relations: an operand, and perhaps a comparison, `has`, `like` or `is` after it.
use Rattle.std.specs.Prelude.{◌≡◌, ◌||◌, ℕ, Bool, true, false, List, [], ◌∷◌, Result, Ok, Err, Option, box_value}
use Rattle.std.specs.Borrow.{Bor}
use Rattle.std.proofs.Common.{refl, sym, ap, ◌∙◌}
use Rattle.std.proofs.lemmas.Bool.{or_left, or_right, or_from}
use Rattle.cedar_tokens.specs.declared.token.Span.{Span}
use Rattle.cedar_tokens.specs.declared.kind.Kind.{Kind}
use Rattle.cedar_tokens.specs.declared.kind.Kind.TheVariants as K
use Rattle.cedar_tokens.specs.Kinds.{is, is_comparison, begins}
use Rattle.cedar_grammar.specs.Trees.{Label, Forest, none, leaf, branch}
use Rattle.cedar_grammar.specs.Reader.Reading.{Reader, done, stuck, choice, both, skip, tree}
use Rattle.cedar_grammar.proofs.Readers.Equations.{tree_done, tree_fails, both_done, both_fails, both_then_fails, choice_yes, choice_no}
use Rattle.cedar_grammar.specs.Erased.{Erased, node, variant, add_parts, relation_parts, relop_text}
use Rattle.cedar_grammar.specs.NodeTrees.{is_node}
use Rattle.cedar_reading.specs.Reading.{kind, Stands, PassesOn, GivesNode, GivesAfter, relop_kind}
use Rattle.cedar_reading.specs.ReadingParts.{Makes}
use Rattle.cedar_cst.specs.Boxed.{unboxed}
use Rattle.cedar_cst.specs.ReadingItems.{Boxed}
use Rattle.cedar_cst.specs.ReadingExprs.{operand_before, IsLoneRelationOf, IsComparedOf, IsWordOf, IsTypeTestOf, GivesSigned, GivesTypeTest}
use Rattle.cedar_reading.specs.declared.lexeme.Lexeme.{Lexeme}
use Rattle.cedar_reading.specs.declared.reading.Refusal.{Refusal}
use Rattle.cedar_grammar.specs.declared.tree.Node.{Node}
use Rattle.cedar_grammar.specs.declared.tree.Name.{Name}
use Rattle.cedar_grammar.specs.declared.tree.RelOp.{RelOp}
use Rattle.cedar_grammar.specs.declared.tree.Add as Add
use Rattle.cedar_grammar.specs.declared.tree.Relation as Relation
use Rattle.cedar_reading.proofs.LeafTexts.{from_to}
use Rattle.cedar_reading.proofs.Steps.{passes}
use Rattle.cedar_reading.proofs.Rows.{row_node, row_nodes, row_more, row_parts, row_span}
use Rattle.cedar_cst.proofs.Bracketed.{row_variant}
use Rattle.cedar_cst.proofs.Chains.{Between}

abbrev relates : Kind → Bool
relates k = is_comparison k || (is K.Has k || (is K.Like k || is K.Is k))

relates_split : (ts : List Lexeme) → begins kind relates ts ≡ (begins kind is_comparison ts
    || (begins kind (is K.Has) ts || (begins kind (is K.Like) ts || begins kind (is K.Is) ts)))
relates_split [] = refl
relates_split (t ∷ ts) = refl

at_second : (a b c : Bool) → b ≡ true → (a || (b || c)) ≡ true
at_second a b c h = or_right a (b || c) (or_left b c h)

at_third : (a b c d : Bool) → c ≡ true → (a || (b || (c || d))) ≡ true
at_third a b c d h = or_right a (b || (c || d)) (or_right b (c || d) (or_left c d h))

at_last : (a b c d : Bool) → d ≡ true → (a || (b || (c || d))) ≡ true
at_last a b c d h = or_right a (b || (c || d)) (or_right b (c || d) (or_right c d h))

at_none : (a b c d : Bool) → a ≡ false → b ≡ false → c ≡ false → d ≡ false
    → (a || (b || (c || d))) ≡ false
at_none a b c d h i j k = or_from a (b || (c || d)) h (or_from b (c || d) i (or_from c d j k))

-- a comparison's sign
pub relop_between : (op : RelOp) → Between (relop_kind op) (relop_text op)
relop_between RelOp.Less = record { comma = refl; fixed = refl; closing = refl; shows = refl }
relop_between RelOp.LessEq =
    record { comma = refl; fixed = refl; closing = refl; shows = refl }
relop_between RelOp.Greater =
    record { comma = refl; fixed = refl; closing = refl; shows = refl }
relop_between RelOp.GreaterEq =
    record { comma = refl; fixed = refl; closing = refl; shows = refl }
relop_between RelOp.NotEq =
    record { comma = refl; fixed = refl; closing = refl; shows = refl }
relop_between RelOp.Eq = record { comma = refl; fixed = refl; closing = refl; shows = refl }
relop_between RelOp.In = record { comma = refl; fixed = refl; closing = refl; shows = refl }

-- A reads the operand; C, H, L and T read what follows it
module _ (A C H L T : Reader Lexeme) where
  abbrev pub after_reader : Reader Lexeme
  after_reader ts = choice (begins kind relates ts)
      (λ ts. choice (begins kind is_comparison ts) (tree Label.compare C)
      (λ ts. choice (begins kind (is K.Has) ts) (tree Label.has_or_like H)
      (λ ts. choice (begins kind (is K.Like) ts) (tree Label.has_or_like L)
      (tree Label.is_type T) ts) ts) ts)
      skip ts

  abbrev pub relation_reader : Reader Lexeme
  relation_reader = tree Label.relation (both A after_reader)

  pub compare_reads : (ts : List Lexeme) → begins kind is_comparison ts ≡ true
      → after_reader ts ≡ tree Label.compare C ts
  compare_reads ts h = choice_yes _ _ _ ts (relates_split ts ∙ ap (λ z. z
      || (begins kind (is K.Has) ts || (begins kind (is K.Like) ts || begins kind (is K.Is) ts))) h)
      ∙ choice_yes _ _ _ ts h

  pub has_reads : (ts : List Lexeme) → begins kind is_comparison ts ≡ false
      → begins kind (is K.Has) ts ≡ true → after_reader ts ≡ tree Label.has_or_like H ts
  has_reads ts h i = choice_yes _ _ _ ts (relates_split ts ∙ at_second (begins kind is_comparison
      ts) (begins kind (is K.Has) ts) (begins kind (is K.Like) ts || begins kind (is K.Is) ts) i)
      ∙ choice_no _ _ _ ts h ∙ choice_yes _ _ _ ts i

  pub like_reads : (ts : List Lexeme) → begins kind is_comparison ts ≡ false
      → begins kind (is K.Has) ts ≡ false → begins kind (is K.Like) ts ≡ true
      → after_reader ts ≡ tree Label.has_or_like L ts
  like_reads ts h i j = choice_yes _ _ _ ts (relates_split ts ∙ at_third (begins kind is_comparison
      ts) (begins kind (is K.Has) ts) (begins kind (is K.Like) ts) (begins kind (is K.Is) ts) j)
      ∙ choice_no _ _ _ ts h ∙ choice_no _ _ _ ts i ∙ choice_yes _ _ _ ts j

  pub is_reads : (ts : List Lexeme) → begins kind is_comparison ts ≡ false
      → begins kind (is K.Has) ts ≡ false → begins kind (is K.Like) ts ≡ false
      → begins kind (is K.Is) ts ≡ true → after_reader ts ≡ tree Label.is_type T ts
  is_reads ts h i j k = choice_yes _ _ _ ts (relates_split ts ∙ at_last (begins kind is_comparison
      ts) (begins kind (is K.Has) ts) (begins kind (is K.Like) ts) (begins kind (is K.Is) ts) k)
      ∙ choice_no _ _ _ ts h ∙ choice_no _ _ _ ts i ∙ choice_no _ _ _ ts j

  pub none_reads : (ts : List Lexeme) → begins kind is_comparison ts ≡ false
      → begins kind (is K.Has) ts ≡ false → begins kind (is K.Like) ts ≡ false
      → begins kind (is K.Is) ts ≡ false → after_reader ts ≡ done none ts
  none_reads ts h i j k =
      choice_no _ _ _ ts (relates_split ts ∙ at_none (begins kind is_comparison ts)
      (begins kind (is K.Has) ts) (begins kind (is K.Like) ts) (begins kind (is K.Is) ts) h i j k)

  pub relation_fails : (ts : List Lexeme) (b : Bool) (r : List Lexeme) → A ts ≡ stuck b r
      → relation_reader ts ≡ stuck b r
  relation_fails ts b r e = tree_fails Label.relation _ ts b r (both_fails A after_reader ts b r e)

  -- the operand was read, and Q reads what follows it
  module _ (ts rest : List Lexeme) (target : Boxed Add.Add) (f : Forest Label Lexeme)
      (read : A ts ≡ done (branch Label.add f none) rest)
      (stands : Stands (box_value target).span (add_parts (box_value target).inner) f)
      (v : Label) (plain : is_node v ≡ false) (Q : Reader Lexeme)
      (same : after_reader rest ≡ tree v Q rest) where
    after_fails : (b : Bool) (r : List Lexeme) → Q rest ≡ stuck b r → relation_reader ts ≡ stuck b r
    after_fails b r e = tree_fails Label.relation _ ts b r (both_then_fails A after_reader ts
        (branch Label.add f none) rest b r read (same ∙ tree_fails v Q rest b r e))

    after_done : (g : Forest Label Lexeme) (s : List Lexeme) → Q rest ≡ done g s → relation_reader
        ts ≡ done (branch Label.relation (branch Label.add f (branch v g none)) none) s
    after_done g s e = tree_done Label.relation _ ts _ s (both_done A after_reader ts
        (branch Label.add f none) rest (branch v g none) s read (same ∙ tree_done v Q rest g s e))

    after_stands : (n : Node Relation.Relation) (p : Erased) (u : Span) (g : Forest Label Lexeme)
        → relation_parts n.inner ≡ operand_before target (variant v p none)
        → n.span ≡ from_to (box_value target).span u → Stands u p g
        → Stands n.span (relation_parts n.inner) (branch Label.add f (branch v g none))
    after_stands n p u g h i w = row_span _ _ _ _ (sym i) (row_parts _ _ _ _ h
        (row_nodes Label.add _ _ _ _ f _ refl stands (row_variant v u p g plain w)))

  -- the four kinds of what follows an operand
  module _ (ts rest : List Lexeme) (target : Boxed Add.Add) (f : Forest Label Lexeme)
      (read : A ts ≡ done (branch Label.add f none) rest)
      (stands : Stands (box_value target).span (add_parts (box_value target).inner) f) where
    pub compared_gives : (inner : Result ((RelOp × Boxed Add.Add) × Bor (List Lexeme)) Refusal)
        (result : Result (Boxed Relation.Relation × Bor (List Lexeme)) Refusal)
        → begins kind is_comparison rest ≡ true
        → GivesSigned relop_kind Label.add add_parts inner (C rest)
        → PassesOn inner result → Makes (IsComparedOf target) inner result
        → GivesNode Label.relation relation_parts (unboxed result) (relation_reader ts)
    compared_gives (Ok x) (Ok y) h g p m =
        let b = relop_between x.0.0 in
        let same = compare_reads rest h in (
          _,
          after_done ts rest target f read stands Label.compare refl C same
              (leaf g.0 (branch Label.add g.1 none)) x.1.now g.2
              ∙ ap (λ (z : Bor (List Lexeme)). done (branch Label.relation (branch Label.add f
              (branch Label.compare (leaf g.0 (branch Label.add g.1 none)) none)) none) z.now)
              (sym p),
          after_stands ts rest target f read stands Label.compare refl C same
              (box_value y.0) _ _ _ m.0 m.1
              (row_parts _ _ _ _
              (ap (λ z. leaf z (operand_before x.0.1 none)) (sym b.shows))
              (row_more g.0 (relop_kind x.0.0) _ _ _ g.3 b.comma b.fixed
              (row_node Label.add _ _ g.1 refl g.4))),
        )
    compared_gives (Ok x) (Err e) h g p m = rw p tt
    compared_gives (Err e) (Ok y) h g p m = absurd p
    compared_gives (Err e) (Err q) h g p m = rw p (passes e _ _ g (λ b r i.
        after_fails ts rest target f read stands Label.compare refl C (compare_reads rest h) b r i))

    pub word_gives : (k : Kind) (word : List ℕ) (Q : Reader Lexeme)
        (inner : Result (Node Add.Add × Bor (List Lexeme)) Refusal)
        (result : Result (Boxed Relation.Relation × Bor (List Lexeme)) Refusal) → Between k word
        → after_reader rest ≡ tree Label.has_or_like Q rest
        → GivesAfter k Label.add add_parts inner (Q rest) → PassesOn inner result
        → Makes (IsWordOf word target) inner result
        → GivesNode Label.relation relation_parts (unboxed result) (relation_reader ts)
    word_gives k word Q (Ok x) (Ok y) b same g p m = (
      _,
      after_done ts rest target f read stands Label.has_or_like refl Q same
          (leaf g.0 (branch Label.add g.1 none)) x.1.now g.2
          ∙ ap (λ (z : Bor (List Lexeme)). done (branch Label.relation (branch Label.add f (branch
          Label.has_or_like (leaf g.0 (branch Label.add g.1 none)) none)) none) z.now) (sym p),
      after_stands ts rest target f read stands Label.has_or_like refl Q same
          (box_value y.0) _ _ _ m.0 m.1
          (row_parts _ _ _ _ (ap (λ z. leaf z (node Label.add x.0.span (add_parts x.0.inner) none))
          (sym b.shows))
          (row_more g.0 k _ _ _ g.3 b.comma b.fixed (row_node Label.add _ _ g.1 refl g.4))),
    )
    word_gives k word Q (Ok x) (Err e) b same g p m = rw p tt
    word_gives k word Q (Err e) (Ok y) b same g p m = absurd p
    word_gives k word Q (Err e) (Err q) b same g p m = rw p (passes e _ _ g
        (λ x r i. after_fails ts rest target f read stands Label.has_or_like refl Q same x r i))

    pub type_gives :
        (inner : Result ((Node Name × Option (Boxed Add.Add)) × Bor (List Lexeme)) Refusal)
        (result : Result (Boxed Relation.Relation × Bor (List Lexeme)) Refusal)
        → after_reader rest ≡ tree Label.is_type T rest → GivesTypeTest inner (T rest)
        → PassesOn inner result
        → Makes (IsTypeTestOf target) inner result
        → GivesNode Label.relation relation_parts (unboxed result) (relation_reader ts)
    type_gives (Ok x) (Ok y) same g p m = (
      _,
      after_done ts rest target f read stands Label.is_type refl T same g.0 x.1.now g.2
          ∙ ap (λ (z : Bor (List Lexeme)). done (branch Label.relation
          (branch Label.add f (branch Label.is_type g.0 none)) none) z.now) (sym p),
      after_stands ts rest target f read stands Label.is_type refl T same
          (box_value y.0) _ g.1 _ m.0
          (m.1 ∙ ap (λ z. record { start = (box_value target).span.start; end = z }) (sym g.3)) g.4,
    )
    type_gives (Ok x) (Err e) same g p m = rw p tt
    type_gives (Err e) (Ok y) same g p m = absurd p
    type_gives (Err e) (Err q) same g p m = rw p (passes e _ _ g
        (λ b r i. after_fails ts rest target f read stands Label.is_type refl T same b r i))

    pub lone_gives : (n : Boxed Relation.Relation) (tail : Bor (List Lexeme)) → tail.now ≡ rest
        → after_reader rest ≡ done none rest → IsLoneRelationOf target n
        → GivesNode Label.relation relation_parts (Ok (box_value n, tail)) (relation_reader ts)
    lone_gives n tail e same h = (
      _,
      tree_done Label.relation _ ts _ rest
          (both_done A after_reader ts (branch Label.add f none) rest none rest read same)
          ∙ ap (λ z. done (branch Label.relation (branch Label.add f none) none) z) (sym e),
      row_span _ _ _ _ (sym h.1) (row_parts _ _ _ _ h.0 (row_node Label.add _ _ f refl stands)),
    )
