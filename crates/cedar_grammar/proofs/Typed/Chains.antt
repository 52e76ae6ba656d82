-- From forests to typed trees: chains, names and items.
use Rattle.std.specs.Prelude.{◌≡◌, Bool, false, ◌||◌, ◌&&◌, IsTrue, nat_eq}
use Rattle.std.proofs.Common.{refl, sym, ap, ◌∙◌, inl, inr}
use Rattle.std.proofs.Math.Bool.{and-false}
use Rattle.cedar_tokens.specs.declared.kind.Kind.{Kind}
use Rattle.cedar_tokens.specs.declared.kind.Kind.TheVariants as K
use borrow.Author.Tests.{eqb-true}
use Rattle.cedar_tokens.specs.Kinds.{is, code, is_closing}
use Rattle.cedar_grammar.specs.Trees.{Label, Forest, none, leaf, branch, join}
use Rattle.cedar_grammar.specs.Trees as L
use Rattle.cedar_grammar.specs.Languages.{Lang, ◌⋄◌, ◌∪◌, Empty, Many, no_more, one_more, Branch, Of}
use Rattle.cedar_grammar.specs.KindGrammar as G
use Rattle.cedar_grammar.specs.TrailingCommas.{drop_if, closes_next, without_trailing}
use Rattle.cedar_grammar.specs.TypedTrees as T
use Rattle.cedar_grammar.specs.TypedTrees.{NodeKind, parts}
use Rattle.cedar_grammar.proofs.Typed.FittingLeaves.{Fits, is_atom}
use Rattle.cedar_tokens.specs.Kinds.{is_ident}
use Rattle.cedar_grammar.proofs.KindSets.{within_at}

module _ {A : Type 0} (kind : A → Kind) where
  -- a typed tree whose parts are the row without trailing commas, and whose leaves fit
  abbrev pub Typed : NodeKind → Forest Label A → Type 0
  Typed k f = (t : T.Tree A k) × (without_trailing kind f ≡ parts kind t) × Fits kind t

  -- a leaf before a branch is no trailing comma
  pub kept : (a : A) (l : Label) (f g : Forest Label A) → without_trailing kind (leaf a
      (branch l f g)) ≡ leaf a (branch l (without_trailing kind f) (without_trailing kind g))
  kept a l f g =
      ap (λ b. drop_if b (leaf a (branch l (without_trailing kind f) (without_trailing kind g)))
      (branch l (without_trailing kind f) (without_trailing kind g)))
      (and-false (is K.Comma (kind a)))

  -- X {op X}, where each X is a node of the label
  module _ (l : Label) (k c : NodeKind) (X : Lang A) (p : Kind → Bool)
      (one : T.Tree A k → T.Tree A c) (more : T.Tree A k → A → T.Tree A c → T.Tree A c)
      (one_is : (t : T.Tree A k) → parts kind (one t) ≡ branch l (parts kind t) none)
      (more_is : (t : T.Tree A k) (a : A) (r : T.Tree A c)
      → parts kind (more t a r) ≡ branch l (parts kind t) (leaf a (parts kind r)))
      (one_fits : (t : T.Tree A k) → Fits kind t → Fits kind (one t)) (more_fits : (t : T.Tree A k)
      (a : A) (r : T.Tree A c) → Fits kind t → Fits kind r → Fits kind (more t a r))
      (typed : (f : Forest Label A) → X f → Typed k f) where
    chain_from : (m g : Forest Label A) → X g → Many (Of kind p ⋄ Branch l X) m
        → Typed c (branch l g m)
    chain_from m g x (no_more i e) =
        let t = typed g x in (
          one t.0,
          ap (λ z. without_trailing kind (branch l g z)) e ∙ ap (λ z. branch l z none) t.1
              ∙ sym (one_is t.0),
          one_fits t.0 t.2,
        )
    chain_from m g x (one_more i u v e (s, w, d, (a, b, o), (h, q, y)) n) =
        let t = typed g x in
        let r = chain_from v h y n in (
          more t.0 a r.0,
          ap (λ z. without_trailing kind (branch l g z))
              (e ∙ ap (λ z. join z v) (d ∙ ap (λ z. join z w) b ∙ ap (λ z. leaf a z) q))
              ∙ ap (λ z. branch l z (without_trailing kind (leaf a (branch l h v)))) t.1
              ∙ ap (branch l (parts kind t.0)) (kept a l h v ∙ ap (leaf a) r.1)
              ∙ sym (more_is t.0 a r.0),
          more_fits t.0 a r.0 t.2 r.2,
        )

    pub chain : (f : Forest Label A) → (Branch l X ⋄ Many (Of kind p ⋄ Branch l X)) f → Typed c f
    chain f (u, m, e, (g, d, x), n) =
        let r = chain_from m g x n in
        (r.0, ap (without_trailing kind) (e ∙ ap (λ z. join z m) d) ∙ r.1, r.2)

  -- Sums: from typed operands to a typed sum, one line for each chain of the grammar.
  module _ (X : Lang A) (typed : (f : Forest Label A) → X f → Typed T.unary f) where
    pub products : (f : Forest Label A)
        → (Branch L.unary X ⋄ Many (G.One kind K.Mul ⋄ Branch L.unary X)) f → Typed T.mult f
    products f x =
        let r = chain L.unary T.unary T.products X (is K.Mul) T.products_one T.products_more
        (λ t. refl) (λ t a r. refl) (λ t h. h) (λ t a r h k. (h, k)) typed f x in
        (T.mult_of r.0, r.1, r.2)

    pub sums : (f : Forest Label A)
        → (Branch L.mult (Branch L.unary X ⋄ Many (G.One kind K.Mul ⋄ Branch L.unary X))
        ⋄ Many (Of kind (λ x. is K.Add x || is K.Dash x) ⋄ Branch L.mult
        (Branch L.unary X ⋄ Many (G.One kind K.Mul ⋄ Branch L.unary X)))) f → Typed T.add f
    sums f x =
        let r = chain L.mult T.mult T.sums (Branch L.unary X
        ⋄ Many (G.One kind K.Mul ⋄ Branch L.unary X)) (λ x. is K.Add x || is K.Dash x) T.sums_one
        T.sums_more (λ t. refl) (λ t a r. refl) (λ t h. h) (λ t a r h k. (h, k)) products f x in
        (T.add_of r.0, r.1, r.2)

  pub lone : (a : A) → without_trailing kind (leaf a none) ≡ leaf a none
  lone a = ap (λ b. drop_if b (leaf a none) none) (and-false (is K.Comma (kind a)))

  pub not_comma : (k : Kind) (a : A) → IsTrue (is k (kind a))
      → nat_eq (code k) (code K.Comma) ≡ false → is K.Comma (kind a) ≡ false
  not_comma k a h n = ap (λ z. nat_eq z (code K.Comma)) (eqb-true (code (kind a)) (code k) h) ∙ n

  pub opening_kept : (a : A) (f : Forest Label A) → is K.Comma (kind a) ≡ false
      → without_trailing kind (leaf a f) ≡ leaf a (without_trailing kind f)
  opening_kept a f e = ap (λ b. drop_if (b && closes_next kind f) (leaf a (without_trailing kind f))
      (without_trailing kind f)) e

  -- Names.
  names_from : (m : Forest Label A) (a : A) → IsTrue (is_ident (kind a))
      → Many (G.One kind K.DoubleColon ⋄ G.Ident kind) m
      → Typed T.name (branch L.ident (leaf a none) m)
  names_from m a w (no_more i e) = (
    T.name_one a,
    ap (λ z. branch L.ident (without_trailing kind (leaf a none)) (without_trailing kind z)) e
        ∙ ap (λ z. branch L.ident z none) (lone a),
    within_at is_ident is_atom refl (kind a) w,
  )
  names_from m a i2 (one_more i u v e (s, w, d, (b, c, o), (g, q, (x, y, z))) n) =
      let r = names_from v x z n in (
        T.name_more a b r.0,
        ap (λ z. branch L.ident (without_trailing kind (leaf a none)) (without_trailing kind z))
            (e ∙ ap (λ z. join z v) (d ∙ ap (λ z. join z w) c
            ∙ ap (λ z. leaf b z) (q ∙ ap (λ z. branch L.ident z none) y)))
            ∙ ap (λ z. branch L.ident z
            (without_trailing kind (leaf b (branch L.ident (leaf x none) v)))) (lone a)
            ∙ ap (branch L.ident (leaf a none)) (kept b L.ident (leaf x none) v ∙ ap (leaf b) r.1),
        (within_at is_ident is_atom refl (kind a) i2, o, r.2),
      )

  pub names : (f : Forest Label A)
      → (G.Ident kind ⋄ Many (G.One kind K.DoubleColon ⋄ G.Ident kind)) f → Typed T.name f
  names f (u, m, e, (g, d, (a, b, o)), n) =
      let r = names_from m a o n in (
        r.0,
        ap (without_trailing kind) (e ∙ ap (λ z. join z m) (d ∙ ap (λ z. branch L.ident z none) b))
            ∙ r.1,
        r.2,
      )

  -- Items between brackets, the trailing comma dropped.
  module _ (l : Label) (k c : NodeKind) (E : Lang A) (one : T.Tree A k → T.Tree A c)
      (more : T.Tree A k → A → T.Tree A c → T.Tree A c)
      (one_is : (t : T.Tree A k) → parts kind (one t) ≡ branch l (parts kind t) none)
      (more_is : (t : T.Tree A k) (a : A) (r : T.Tree A c)
      → parts kind (more t a r) ≡ branch l (parts kind t) (leaf a (parts kind r)))
      (one_fits : (t : T.Tree A k) → Fits kind t → Fits kind (one t))
      (more_fits : (t : T.Tree A k) (a : A) (r : T.Tree A c) → IsTrue (is K.Comma (kind a))
      → Fits kind t → Fits kind r → Fits kind (more t a r))
      (typed : (f : Forest Label A) → E f → (g : Forest Label A) × (f ≡ branch l g none)
      × Typed k g) (close : A) (closes : IsTrue (is_closing (kind close))) where
    last_dropped : (f : Forest Label A) → (G.One kind K.Comma ∪ Empty) f
        → without_trailing kind (join f (leaf close none)) ≡ leaf close none
    last_dropped f (inr e) =
        ap (λ z. without_trailing kind (join z (leaf close none))) e ∙ lone close
    last_dropped f (inl (a, e, o)) =
        ap (λ z. without_trailing kind (join z (leaf close none))) e ∙ rw (o, closes) (lone close)

    items_from : (m n g : Forest Label A) → Typed k g → Many (G.One kind K.Comma ⋄ E) m
        → (G.One kind K.Comma ∪ Empty) n
        → (t : T.Tree A c) × (without_trailing kind (join (branch l g (join m n)) (leaf close none))
        ≡ join (parts kind t) (leaf close none)) × Fits kind t
    items_from m n g t (no_more i e) x = (
      one t.0,
      ap (λ z. without_trailing kind (join (branch l g (join z n)) (leaf close none))) e
          ∙ ap (branch l (without_trailing kind g)) (last_dropped n x)
          ∙ ap (λ z. branch l z (leaf close none)) t.1
          ∙ ap (λ z. join z (leaf close none)) (sym (one_is t.0)),
      one_fits t.0 t.2,
    )
    items_from m n g t (one_more i u v e (s, w, d, (a, b, o), y) rest) x =
        let h = typed w y in
        let r = items_from v n h.0 h.2 rest x in (
          more t.0 a r.0,
          ap (λ z. without_trailing kind (join (branch l g (join z n)) (leaf close none)))
              (e ∙ ap (λ z. join z v) (d ∙ ap (λ z. join z w) b ∙ ap (λ z. leaf a z) h.1))
              ∙ ap (λ z. branch l z (without_trailing kind
              (leaf a (branch l h.0 (join (join v n) (leaf close none)))))) t.1
              ∙ ap (branch l (parts kind t.0)) (kept a l h.0 (join (join v n) (leaf close none))
              ∙ ap (leaf a) r.1) ∙ ap (λ z. join z (leaf close none)) (sym (more_is t.0 a r.0)),
          more_fits t.0 a r.0 o t.2 r.2,
        )

    pub items : (f : Forest Label A) → G.Items kind E f
        → (t : T.Tree A c) × (without_trailing kind (join f (leaf close none))
        ≡ join (parts kind t) (leaf close none)) × Fits kind t
    items f (u, w, e, x, (m, n, d, y, z)) =
        let h = typed u x in
        let r = items_from m n h.0 h.2 y z in (
          r.0,
          ap (λ z. without_trailing kind (join z (leaf close none))) (e ∙ ap (λ q. join q w) h.1
              ∙ ap (branch l h.0) d) ∙ r.1,
          r.2,
        )
