-- `if`, parentheses, entries of records and type tests.
use Rattle.std.specs.Prelude.{◌≡◌, ℕ, Bool, true, false, List, [], ◌∷◌, Result, Ok, Err, Option, None, box_value}
use Rattle.std.specs.Borrow.{Bor}
use Rattle.std.proofs.Common.{refl, sym, ap, ◌∙◌}
use Rattle.cedar_tokens.specs.declared.kind.Kind.{Kind}
use Rattle.cedar_tokens.specs.declared.kind.Kind.TheVariants as K
use Rattle.cedar_tokens.specs.Kinds.{is, begins}
use Rattle.cedar_grammar.specs.Trees.{Label, Forest, none, leaf, branch}
use Rattle.cedar_grammar.specs.Reader.Reading.{Answer, Reader, done, stuck, choice, both, skip, tree, one}
use Rattle.cedar_grammar.proofs.Readers.Equations.{tree_done, tree_fails, both_first, both_done, both_fails, both_then_fails, choice_yes, choice_no, token_yes, token_no, token_end, onto}
use Rattle.cedar_grammar.specs.Erased.{expr_parts, add_parts, primary_parts}
use Rattle.cedar_reading.specs.Reading.{kind, Stands, PassesOn, FollowedBy, GivesNode, GivesAfter, first_place, name_parts}
use Rattle.cedar_reading.specs.ReadingParts.{Makes}
use Rattle.cedar_cst.specs.Boxed.{unboxed}
use Rattle.cedar_cst.specs.ReadingItems.{Boxed}
use Rattle.cedar_cst.specs.ReadingExprs.{IsIfOf, IsParensOf, IsInitOf, IsTyped, GivesTypeTest}
use Rattle.cedar_grammar.specs.NodeLists.{init_parts}
use Rattle.cedar_reading.specs.declared.lexeme.Lexeme.{Lexeme}
use Rattle.cedar_reading.specs.declared.reading.Refusal.{Refusal}
use Rattle.cedar_grammar.specs.declared.tree.Node.{Node}
use Rattle.cedar_grammar.specs.declared.tree.Name.{Name}
use Rattle.cedar_grammar.specs.declared.tree.Expr as Expr
use Rattle.cedar_grammar.specs.declared.tree.Add as Add
use Rattle.cedar_grammar.specs.declared.tree.Primary as Primary
use Rattle.cedar_grammar.specs.declared.tree.RecInit as RecInit
use Rattle.cedar_reading.proofs.LeafTexts.{from_to}
use Rattle.cedar_reading.proofs.Steps.{passes, token_at, first_begins, is_itself}
use Rattle.cedar_reading.proofs.Rows.{row_token, row_node, row_nodes, row_more, row_parts, row_span}
use Rattle.cedar_cst.proofs.Bracketed.{row_variant}
use Rattle.cedar_reading.proofs.Followed.{followed_fails, followed_done}
use Rattle.cedar_cst.proofs.Scopes.{both_assoc}

-- the first leaf is the first token
pub first_leaf : (k : Kind) (Q : Reader Lexeme) (ts : List Lexeme) (t : Lexeme)
    (g : Forest Label Lexeme) (r : List Lexeme) → both (one kind k) Q ts ≡ done (leaf t g) r
    → first_place ts ≡ t.span.start
first_leaf k Q [] t g r e = absurd (let w : stuck false [] ≡ done (leaf t g) r =
    sym (both_fails (one kind k) Q [] false [] (token_end kind (is k))) ∙ e in cc)
first_leaf k Q (u ∷ us) t g r e = go (is k u.kind) refl
  where
    following : (a : Answer Lexeme) → onto (leaf u none) a ≡ done (leaf t g) r → u ≡ t
    following (done f s) w = cc
    following (stuck b s) w = absurd cc

    go : (b : Bool) → is k u.kind ≡ b → u.span.start ≡ t.span.start
    go true h = ap (λ (x : Lexeme). x.span.start) (following (Q us) (sym
        (both_first (one kind k) Q (u ∷ us) (leaf u none) us (token_yes kind (is k) u us h)) ∙ e))
    go false h = absurd (let w : stuck false (u ∷ us) ≡ done (leaf t g) r = sym
        (both_fails (one kind k) Q (u ∷ us) false (u ∷ us) (token_no kind (is k) u us h)) ∙ e in cc)

-- E reads an expression.
module _ (E : Reader Lexeme) where
  abbrev pub branch_reader : Kind → Reader Lexeme
  branch_reader k = both (one kind k) E

  abbrev pub if_reader : Reader Lexeme
  if_reader = tree Label.expr
      (both (one kind K.If) (both E (both (one kind K.Then) (both E (branch_reader K.Else)))))

  abbrev two : Reader Lexeme
  two = both (one kind K.Then) (both E (branch_reader K.Else))

  pub if_test_fails : (ts : List Lexeme) (b : Bool) (r : List Lexeme)
      → branch_reader K.If ts ≡ stuck b r → if_reader ts ≡ stuck b r
  if_test_fails ts b r e = tree_fails Label.expr _ ts b r
      (both_assoc (one kind K.If) E two ts ∙ both_fails (branch_reader K.If) two ts b r e)

  pub if_yes_fails : (ts u : List Lexeme) (f : Forest Label Lexeme) (b : Bool) (r : List Lexeme)
      → branch_reader K.If ts ≡ done f u → branch_reader K.Then u ≡ stuck b r
      → if_reader ts ≡ stuck b r
  if_yes_fails ts u f b r e d = tree_fails Label.expr _ ts b r
      (both_assoc (one kind K.If) E two ts ∙ both_then_fails (branch_reader K.If) two ts f u b r e
      (both_assoc (one kind K.Then) E (branch_reader K.Else) u
      ∙ both_fails (branch_reader K.Then) (branch_reader K.Else) u b r d))

  pub if_no_fails : (ts u v : List Lexeme) (f g : Forest Label Lexeme) (b : Bool) (r : List Lexeme)
      → branch_reader K.If ts ≡ done f u → branch_reader K.Then u ≡ done g v
      → branch_reader K.Else v ≡ stuck b r → if_reader ts ≡ stuck b r
  if_no_fails ts u v f g b r e d i = tree_fails Label.expr _ ts b r
      (both_assoc (one kind K.If) E two ts ∙ both_then_fails (branch_reader K.If) two ts f u b r e
      (both_assoc (one kind K.Then) E (branch_reader K.Else) u
      ∙ both_then_fails (branch_reader K.Then) (branch_reader K.Else) u g v b r d i))

  pub if_gives : (start : ℕ) (a b c n : Node Expr.Expr) (ts : List Lexeme)
      (u v w : Bor (List Lexeme)) → start ≡ first_place ts
      → GivesAfter K.If Label.expr expr_parts (Ok (a, u)) (branch_reader K.If ts)
      → GivesAfter K.Then Label.expr expr_parts (Ok (b, v)) (branch_reader K.Then u.now)
      → GivesAfter K.Else Label.expr expr_parts (Ok (c, w)) (branch_reader K.Else v.now)
      → IsIfOf start a b c n → GivesNode Label.expr expr_parts (Ok (n, w)) (if_reader ts)
  if_gives start a b c n ts u v w s g h i m = (
    leaf g.0 (branch Label.expr g.1
        (leaf h.0 (branch Label.expr h.1 (leaf i.0 (branch Label.expr i.1 none))))),
    tree_done Label.expr _ ts _ w.now (both_assoc (one kind K.If) E two ts
        ∙ both_done (branch_reader K.If) two ts _ u.now _ w.now g.2
        (both_assoc (one kind K.Then) E (branch_reader K.Else) u.now
        ∙ both_done (branch_reader K.Then) (branch_reader K.Else) u.now _ v.now _ w.now h.2 i.2)),
    row_span _ _ _ _ (sym (m.1 ∙ ap (λ z. record { start = z; end = c.span.end }) (s
        ∙ first_leaf K.If E ts g.0 (branch Label.expr g.1 none) u.now g.2)))
        (row_parts _ _ _ _ m.0
        (row_more g.0 K.If _ _ _ g.3 refl refl (row_nodes Label.expr _ _ _ _ g.1 _ refl g.4
        (row_more h.0 K.Then _ _ _ h.3 refl refl (row_nodes Label.expr _ _ _ _ h.1 _ refl h.4
        (row_more i.0 K.Else _ _ _ i.3 refl refl (row_node Label.expr _ _ i.1 refl i.4))))))),
  )

  -- a parenthesis
  abbrev pub parens_reader : Reader Lexeme
  parens_reader =
      tree Label.primary (tree Label.parens (both (one kind K.LParen) (both E (one kind K.RParen))))

  parens_fails : (ts rest : List Lexeme) (o : Lexeme) (b : Bool) (r : List Lexeme)
      → one kind K.LParen ts ≡ done (leaf o none) rest → both E (one kind K.RParen) rest ≡ stuck b r
      → parens_reader ts ≡ stuck b r
  parens_fails ts rest o b r e d =
      tree_fails Label.primary _ ts b r (tree_fails Label.parens _ ts b r (both_then_fails
      (one kind K.LParen) (both E (one kind K.RParen)) ts (leaf o none) rest b r e d))

  pub parens_gives : (read : Result (Node Expr.Expr × Bor (List Lexeme)) Refusal)
      (closed : Result ((Node Expr.Expr × ℕ) × Bor (List Lexeme)) Refusal)
      (result : Result (Boxed Primary.Primary × Bor (List Lexeme)) Refusal) (ts rest : List Lexeme)
      (o : Lexeme)
      → one kind K.LParen ts ≡ done (leaf o none) rest → o.kind ≡ K.LParen
      → GivesNode Label.expr expr_parts read (E rest) → FollowedBy K.RParen read closed
      → PassesOn closed result → Makes (IsParensOf o.span.start) closed result
      → GivesNode Label.primary primary_parts (unboxed result) (parens_reader ts)
  parens_gives read (Ok y) (Ok n) ts rest o e h g c p m =
      let q = followed_done Label.expr expr_parts K.RParen E rest read y g c in
      let f : Forest Label Lexeme = leaf o (branch Label.expr q.0 (leaf q.1 none)) in (
        branch Label.parens f none,
        tree_done Label.primary _ ts _ y.1.now (tree_done Label.parens _ ts f y.1.now (both_done
            (one kind K.LParen) (both E (one kind K.RParen)) ts (leaf o none) rest _ y.1.now e q.2))
            ∙ ap (λ (z : Bor (List Lexeme)).
            done (branch Label.primary (branch Label.parens f none) none) z.now) (sym p),
        row_span _ _ _ _ (sym (m.1 ∙ ap (λ z. record { start = o.span.start; end = z }) q.5))
            (row_parts _ _ _ _ m.0
            (row_variant Label.parens _ _ f refl (row_more o K.LParen _ _ _ h refl refl
            (row_nodes Label.expr _ _ _ _ q.0 _ refl q.4 (row_token q.1 K.RParen q.3 refl refl))))),
      )
  parens_gives read (Ok y) (Err f) ts rest o e h g c p m = rw p tt
  parens_gives read (Err f) (Ok n) ts rest o e h g c p m = absurd p
  parens_gives read (Err f) (Err q) ts rest o e h g c p m =
      rw p (passes f _ _ (followed_fails Label.expr expr_parts K.RParen E rest read f g c)
      (λ b r i. parens_fails ts rest o b r e i))

  -- an entry of a record; P reads its key
  module _ (P : Reader Lexeme) where
    abbrev pub init_reader : Reader Lexeme
    init_reader = tree Label.rec_init (both P (both (one kind K.Colon) E))

    abbrev keyed : Reader Lexeme
    keyed = both P (one kind K.Colon)

    pub init_fails : (ts : List Lexeme) (b : Bool) (r : List Lexeme)
        → both P (one kind K.Colon) ts ≡ stuck b r → init_reader ts ≡ stuck b r
    init_fails ts b r e = tree_fails Label.rec_init _ ts b r
        (both_assoc P (one kind K.Colon) E ts ∙ both_fails keyed E ts b r e)

    pub init_gives : (key : Boxed Primary.Primary) (f : Forest Label Lexeme) (t : Lexeme)
        (ts rest : List Lexeme) (read : Result (Node Expr.Expr × Bor (List Lexeme)) Refusal)
        (result : Result (Boxed RecInit.RecInit × Bor (List Lexeme)) Refusal)
        → both P (one kind K.Colon) ts ≡ done (branch Label.primary f (leaf t none)) rest
        → t.kind ≡ K.Colon → Stands (box_value key).span (primary_parts (box_value key).inner) f
        → GivesNode Label.expr expr_parts read (E rest) → PassesOn read result
        → Makes (IsInitOf key) read result
        → GivesNode Label.rec_init init_parts (unboxed result) (init_reader ts)
    init_gives key f t ts rest (Ok x) (Ok n) e k h g p m =
        let i : Forest Label Lexeme =
        branch Label.primary f (leaf t (branch Label.expr g.0 none)) in (
          i,
          tree_done Label.rec_init _ ts i x.1.now (both_assoc P (one kind K.Colon) E ts
              ∙ both_done keyed E ts _ rest _ x.1.now e g.1)
              ∙ ap (λ (z : Bor (List Lexeme)). done (branch Label.rec_init i none) z.now) (sym p),
          row_span _ _ _ _ (sym m.1)
              (row_parts _ _ _ _ m.0 (row_nodes Label.primary _ _ _ _ f _ refl h
              (row_more t K.Colon _ _ _ k refl refl (row_node Label.expr _ _ g.0 refl g.2)))),
        )
    init_gives key f t ts rest (Ok x) (Err q) e k h g p m = rw p tt
    init_gives key f t ts rest (Err q) (Ok n) e k h g p m = absurd p
    init_gives key f t ts rest (Err q) (Err z) e k h g p m =
        rw p (passes q _ _ g (λ b r i. tree_fails Label.rec_init _ ts b r
        (both_assoc P (one kind K.Colon) E ts ∙ both_then_fails keyed E ts _ rest b r e i)))

-- A type test; P reads the type, and A the operand.
module _ (P A : Reader Lexeme) where
  abbrev pub in_reader : Reader Lexeme
  in_reader ts = choice (begins kind (is K.In) ts) (both (one kind K.In) A) skip ts

  abbrev pub type_reader : Reader Lexeme
  type_reader = both (one kind K.Is) (both P in_reader)

  pub type_fails : (ts rest : List Lexeme) (t : Lexeme) (b : Bool) (r : List Lexeme)
      → one kind K.Is ts ≡ done (leaf t none) rest → P rest ≡ stuck b r → type_reader ts ≡ stuck b r
  type_fails ts rest t b r e d = both_then_fails (one kind K.Is) (both P in_reader) ts
      (leaf t none) rest b r e (both_fails P in_reader rest b r d)

  module _ (ts rest : List Lexeme) (t : Lexeme) (first : one kind K.Is ts ≡ done (leaf t none) rest)
      (h : t.kind ≡ K.Is) (name : Node Name) (f : Forest Label Lexeme) (u : List Lexeme)
      (read : P rest ≡ done (branch Label.name f none) u)
      (stands : Stands name.span (name_parts name.inner) f) where
    type_done : (g : Forest Label Lexeme) (s : List Lexeme) → in_reader u ≡ done g s
        → type_reader ts ≡ done (leaf t (branch Label.name f g)) s
    type_done g s e =
        both_done (one kind K.Is) (both P in_reader) ts (leaf t none) rest (branch Label.name f g) s
        first (both_done P in_reader rest (branch Label.name f none) u g s read e)

    pub type_alone : (tail : Bor (List Lexeme)) → tail.now ≡ u → begins kind (is K.In) u ≡ false
        → GivesTypeTest (Ok ((name, None), tail)) (type_reader ts)
    type_alone tail e i = (
      leaf t (branch Label.name f none),
      from_to t.span name.span,
      type_done none u (choice_no _ _ _ u i)
          ∙ ap (λ z. done (leaf t (branch Label.name f none)) z) (sym e),
      refl,
      row_more t K.Is _ _ _ h refl refl (row_node Label.name _ _ f refl stands),
    )

    pub type_in : (d : Lexeme) (after : List Lexeme)
        (inner : Result (Boxed Add.Add × Bor (List Lexeme)) Refusal)
        (result : Result ((Node Name × Option (Boxed Add.Add)) × Bor (List Lexeme)) Refusal)
        → u ≡ d ∷ after → d.kind ≡ K.In → GivesNode Label.add add_parts (unboxed inner) (A after)
        → PassesOn inner result → Makes (IsTyped name) inner result
        → GivesTypeTest result (type_reader ts)
    type_in d after (Ok x) (Ok y) e k g p m =
        let i : is K.In d.kind ≡ true = is_itself K.In d.kind (sym k) in
        let w : Forest Label Lexeme =
        leaf t (branch Label.name f (leaf d (branch Label.add g.0 none))) in
        rw m (
          w,
          from_to t.span (from_to name.span (from_to d.span (box_value x.0).span)),
          type_done _ _ (choice_yes _ _ _ u (first_begins (is K.In) u d after e ∙ i)
              ∙ both_done (one kind K.In) A u (leaf d none) after _ x.1.now (token_at
              (is K.In) u d after e i) g.1) ∙ ap (λ (z : Bor (List Lexeme)). done w z.now) (sym p),
          refl,
          row_more t K.Is _ _ _ h refl refl (row_nodes Label.name _ _ _ _ f _ refl stands
              (row_more d K.In _ _ _ k refl refl (row_node Label.add _ _ g.0 refl g.2))),
        )
    type_in d after (Ok x) (Err q) e k g p m = rw p tt
    type_in d after (Err q) (Ok y) e k g p m = absurd p
    type_in d after (Err q) (Err z) e k g p m =
        let i : is K.In d.kind ≡ true = is_itself K.In d.kind (sym k) in
        rw p (passes q _ _ g (λ b r j. both_then_fails (one kind K.Is) (both P in_reader) ts (leaf t
        none) rest b r first (both_then_fails P in_reader rest (branch Label.name f none) u b r read
        (choice_yes _ _ _ u (first_begins (is K.In) u d after e ∙ i) ∙ both_then_fails
        (one kind K.In) A u (leaf d none) after b r (token_at (is K.In) u d after e i) j))))
