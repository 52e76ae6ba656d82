-- From forests of the grammar to typed trees.
use Rattle.std.specs.Prelude.{◌≡◌, ℕ, zero, suc, Bool, true, false, IsTrue, ◌⊎◌, nat_eq, if◌then◌else◌}
use Rattle.std.proofs.Common.{refl, sym, ap, ◌∙◌, inl, inr}
use Rattle.cedar_grammar.proofs.Typed.SameLabels.{label_is}
use Rattle.cedar_grammar.proofs.KindSets.{within, within_at, apart_at}
use Rattle.cedar_tokens.specs.declared.kind.Kind.{Kind}
use Rattle.cedar_tokens.specs.declared.kind.Kind.TheVariants as K
use Rattle.cedar_tokens.specs.Kinds.{is, code, is_boolean, is_ident, is_variable, is_comparison, is_closing}
use Rattle.cedar_grammar.proofs.Readers.Equations.{join_none, join_assoc}
use Rattle.cedar_grammar.specs.Trees.{Label, Forest, none, leaf, branch, join}
use Rattle.cedar_grammar.specs.Trees as L
use Rattle.cedar_grammar.specs.Languages.{Lang, ◌⋄◌, ◌∪◌, Many, no_more, one_more, Maybe, Branch, Of}
use Rattle.cedar_grammar.specs.KindGrammar as G
use Rattle.cedar_grammar.specs.TrailingCommas.{without_trailing}
use Rattle.cedar_grammar.specs.TypedTrees as T
use Rattle.cedar_grammar.specs.TypedTrees.{NodeKind, parts, literal_label}
use Rattle.cedar_grammar.proofs.Typed.FittingLeaves.{Fits, is_atom, is_sign}
use Rattle.cedar_grammar.proofs.Typed.Chains.{Typed, kept, lone, not_comma, opening_kept, names, chain, items, sums}

module _ {A : Type 0} (kind : A → Kind) where
  -- a node of the label whose parts are those of a typed tree
  abbrev pub Node : Label → NodeKind → Forest Label A → Type 0
  Node l k f = (g : Forest Label A) × (f ≡ branch l g none) × Typed kind k g

  pub entity : (f : Forest Label A) → G.Entity kind f → Node L.primary T.primary f
  entity f (p, e, (q, d, (u, v, c, (n, b, x), (w, y, a, (m, z, o), (s, r, (i, j, h)))))) =
      let t = names kind n x in
      let tail : v ≡ leaf m (branch L.str (leaf i none) none) =
      a ∙ ap (λ k. join k y) z ∙ ap (leaf m) (r ∙ ap (λ k. branch L.str k none) j) in (
        p,
        e,
        (
          T.reference (T.ref_of t.0 m i),
          ap (without_trailing kind) (d ∙ ap (λ k. branch L.ref k none) (c ∙ ap (λ k. join k v) b
              ∙ ap (λ k. branch L.name n k) tail))
              ∙ ap (λ k. branch L.ref (branch L.name k
              (without_trailing kind (leaf m (branch L.str (leaf i none) none)))) none) t.1
              ∙ ap (λ k. branch L.ref (branch L.name (parts kind t.0) k) none) (kept kind m L.str
              (leaf i none) none ∙ ap (λ k. leaf m (branch L.str k none)) (lone kind i)),
          (t.2, o, within_at (is K.Str) is_atom refl (kind i) h),
        ),
      )

  number_label : (k : Kind) → IsTrue (is K.Number k) → literal_label k ≡ L.number
  number_label k h =
      label_is k ∙ ap (λ b. if b then L.number else (if is K.Str k then L.string else L.boolean)) h

  string_label : (k : Kind) → IsTrue (is K.Str k) → literal_label k ≡ L.string
  string_label k h =
      label_is k ∙ ap (λ b. if b then L.number else (if is K.Str k then L.string else L.boolean))
      (apart_at (is K.Str) (is K.Number) refl k h) ∙ ap (λ b. if b then L.string else L.boolean) h

  boolean_label : (k : Kind) → IsTrue (is_boolean k) → literal_label k ≡ L.boolean
  boolean_label k h =
      label_is k ∙ ap (λ b. if b then L.number else (if is K.Str k then L.string else L.boolean))
      (apart_at is_boolean (is K.Number) refl k h)
      ∙ ap (λ b. if b then L.string else L.boolean) (apart_at is_boolean (is K.Str) refl k h)

  literal : (l : Label) (p : Kind → Bool) → IsTrue (within p is_atom)
      → ((k : Kind) → IsTrue (p k) → literal_label k ≡ l) → (f : Forest Label A)
      → Branch L.primary (Branch l (Of kind p)) f → Node L.primary T.primary f
  literal l p atoms same f (g, e, (h, d, (a, c, o))) = (
    g,
    e,
    (
      T.literal a,
      ap (without_trailing kind) (d ∙ ap (λ k. branch l k none) c)
          ∙ ap (λ k. branch l k none) (lone kind a)
          ∙ ap (λ k. branch k (leaf a none) none) (sym (same (kind a) o)),
      within_at p is_atom atoms (kind a) o,
    ),
  )

  named : (p : Kind → Bool) → IsTrue (within p is_atom) → (f : Forest Label A)
      → Branch L.primary (Branch L.name (Branch L.ident (Of kind p))) f → Node L.primary T.primary f
  named p atoms f (g, e, (h, d, (i, c, (a, b, o)))) = (
    g,
    e,
    (
      T.named (T.name_one a),
      ap (without_trailing kind) (d
          ∙ ap (λ k. branch L.name k none) (c ∙ ap (λ k. branch L.ident k none) b))
          ∙ ap (λ k. branch L.name (branch L.ident k none) none) (lone kind a),
      within_at p is_atom atoms (kind a) o,
    ),
  )

  -- a member that stands alone as an operand
  pub operand : (X : Lang A) → ((f : Forest Label A) → X f → Typed kind T.member f)
      → (f : Forest Label A) → G.Operand kind X f → Node L.add T.add f
  operand X x f (a, e, (b, d, (c, g, (h, i, y)))) =
      let t = x h y in (
        a,
        e,
        (
          T.add_of (T.sums_one (T.mult_of (T.products_one (T.unsigned t.0)))),
          ap (without_trailing kind) (d
              ∙ ap (λ k. branch L.mult k none) (g ∙ ap (λ k. branch L.unary k none) i))
              ∙ ap (λ k. branch L.mult (branch L.unary (branch L.member k none) none) none) t.1,
          t.2,
        ),
      )

  pub alone : (f : Forest Label A) → Node L.primary T.primary f → Typed kind T.member f
  alone f (g, e, t) = (
    T.member_of t.0 T.no_access,
    ap (without_trailing kind) e ∙ ap (λ k. branch L.primary k none) t.1,
    (t.2, tt),
  )

  -- `&&` and `||`
  module _ (X : Lang A) (typed : (f : Forest Label A) → X f → Typed kind T.relation f) where
    ands : (f : Forest Label A)
        → (Branch L.relation X ⋄ Many (G.One kind K.And ⋄ Branch L.relation X)) f
        → Typed kind T.ands f
    ands = chain kind L.relation T.relation T.ands X (is K.And) T.ands_one T.ands_more (λ t. refl)
        (λ t a r. refl) (λ t h. h) (λ t a r h k. (h, k)) typed

    pub ors : (f : Forest Label A)
        → (Branch L.and (Branch L.relation X ⋄ Many (G.One kind K.And ⋄ Branch L.relation X))
        ⋄ Many (G.One kind K.Or
        ⋄ Branch L.and (Branch L.relation X ⋄ Many (G.One kind K.And ⋄ Branch L.relation X)))) f
        → Typed kind T.ors f
    ors = chain kind L.and T.ands T.ors
        (Branch L.relation X ⋄ Many (G.One kind K.And ⋄ Branch L.relation X)) (is K.Or) T.ors_one
        T.ors_more (λ t. refl) (λ t a r. refl) (λ t h. h) (λ t a r h k. (h, k)) ands

  module _ (Sum : Lang A) (sum : (f : Forest Label A) → Sum f → Node L.add T.add f) where
    -- a relation: one operand, or an operator and what follows it
    pub operator_kept : (p : Kind → Bool) (X : Lang A) (l k : Label) (f : Forest Label A)
        → ((g : Forest Label A) → X g → Node L.add T.add g) → Branch k (Of kind p ⋄ X) f
        → (a : A) × (t : T.Tree A T.add) × (without_trailing kind f
        ≡ branch k (leaf a (branch L.add (parts kind t) none)) none) × Fits kind t
    operator_kept p X l k f typed (g, e, (u, v, d, (a, b, o), y)) =
        let n = typed v y in (
          a,
          n.2.0,
          ap (without_trailing kind)
              (e ∙ ap (λ z. branch k z none) (d ∙ ap (λ z. join z v) b ∙ ap (leaf a) n.1))
              ∙ ap (λ z. branch k z none) (kept kind a L.add n.0 none
              ∙ ap (λ z. leaf a (branch L.add z none)) n.2.1),
          n.2.2,
        )

  module _ (room : Bool) (E : Lang A)
      (typed_expr : (f : Forest Label A) → E f → Node L.expr T.expr f) where
    parens : (q : Forest Label A) → (G.One kind K.LParen ⋄ E ⋄ G.One kind K.RParen) q
        → Typed kind T.primary (branch L.parens q none)
    parens q (u, v, c, (a, b, h), (x, y, g, ex, (r, j, k))) =
        let n = typed_expr x ex in (
          T.parens a n.2.0 r,
          ap (λ z. branch L.parens (without_trailing kind z) none) (c ∙ ap (λ z. join z v) b
              ∙ ap (leaf a) (g ∙ ap (λ z. join z y) n.1 ∙ ap (branch L.expr n.0) j))
              ∙ ap (λ z. branch L.parens z none) (kept kind a L.expr n.0 (leaf r none)
              ∙ ap (λ z. leaf a (branch L.expr z (without_trailing kind (leaf r none)))) n.2.1
              ∙ ap (λ z. leaf a (branch L.expr (parts kind n.2.0) z)) (lone kind r)),
          (h, n.2.2, k),
        )

    -- brackets with items or with nothing
    module _ (l : Label) (k c : NodeKind) (X : Lang A) (one : T.Tree A k → T.Tree A c)
        (more : T.Tree A k → A → T.Tree A c → T.Tree A c)
        (one_is : (t : T.Tree A k) → parts kind (one t) ≡ branch l (parts kind t) none)
        (more_is : (t : T.Tree A k) (a : A) (r : T.Tree A c)
        → parts kind (more t a r) ≡ branch l (parts kind t) (leaf a (parts kind r)))
        (one_fits : (t : T.Tree A k) → Fits kind t → Fits kind (one t))
        (more_fits : (t : T.Tree A k) (a : A) (r : T.Tree A c) → IsTrue (is K.Comma (kind a))
        → Fits kind t → Fits kind r → Fits kind (more t a r))
        (typed : (f : Forest Label A) → X f → Node l k f) (left right : Kind)
        (not_sep : nat_eq (code left) (code K.Comma) ≡ false)
        (ends : IsTrue (within (is right) is_closing)) where
      bracketed : (q : Forest Label A)
          → (G.One kind left ⋄ Maybe (G.Items kind X) ⋄ G.One kind right) q
          → (a : A) × (r : A) × IsTrue (is left (kind a)) × IsTrue (is right (kind r))
          × ((without_trailing kind q ≡ leaf a (leaf r none)) ⊎ ((t : T.Tree A c)
          × (without_trailing kind q ≡ leaf a (join (parts kind t) (leaf r none))) × Fits kind t))
      bracketed q (u, v, d, (a, b, h), (x, y, g, inl i, (r, j, o))) =
          let t = items kind l k c X one more one_is more_is one_fits more_fits typed r
          (within_at (is right) is_closing ends (kind r) o) x i in (
            a,
            r,
            h,
            o,
            inr (
              t.0,
              ap (without_trailing kind) (d ∙ ap (λ z. join z v) b
                  ∙ ap (leaf a) (g ∙ ap (join x) j))
                  ∙ opening_kept kind a (join x (leaf r none)) (not_comma kind left a h not_sep)
                  ∙ ap (leaf a) t.1,
              t.2,
            ),
          )
      bracketed q (u, v, d, (a, b, h), (x, y, g, inr i, (r, j, o))) = (
        a,
        r,
        h,
        o,
        inl (ap (without_trailing kind) (d ∙ ap (λ z. join z v) b
            ∙ ap (leaf a) (g ∙ ap (λ z. join z y) i ∙ j)) ∙ opening_kept kind a (leaf r none)
            (not_comma kind left a h not_sep) ∙ ap (leaf a) (lone kind r)),
      )

    arguments : (left right : Kind) → nat_eq (code left) (code K.Comma) ≡ false
        → IsTrue (within (is right) is_closing) → (q : Forest Label A)
        → (G.One kind left ⋄ Maybe (G.Items kind E) ⋄ G.One kind right) q
        → (a : A) × (r : A) × IsTrue (is left (kind a)) × IsTrue (is right (kind r))
        × ((without_trailing kind q ≡ leaf a (leaf r none)) ⊎ ((t : T.Tree A T.args)
        × (without_trailing kind q ≡ leaf a (join (parts kind t) (leaf r none))) × Fits kind t))
    arguments left right n w q x = bracketed L.expr T.expr T.args E T.args_one T.args_more (λ t.
        refl) (λ t a r. refl) (λ t h. h) (λ t a r c h k. (h, c, k)) typed_expr left right n w q x

    pub list : (q : Forest Label A)
        → (G.One kind K.LBracket ⋄ Maybe (G.Items kind E) ⋄ G.One kind K.RBracket) q
        → Typed kind T.primary (branch L.list q none)
    list q x = go (arguments K.LBracket K.RBracket refl refl q x)
      where
        go : (a : A) × (r : A) × IsTrue (is K.LBracket (kind a)) × IsTrue (is K.RBracket (kind r))
            × ((without_trailing kind q ≡ leaf a (leaf r none)) ⊎ ((t : T.Tree A T.args)
            × (without_trailing kind q ≡ leaf a (join (parts kind t) (leaf r none))) × Fits kind t))
            → Typed kind T.primary (branch L.list q none)
        go (a, r, h, k, inl e) = (T.list_empty a r, ap (λ z. branch L.list z none) e, (h, k))
        go (a, r, h, k, inr (t, e, f)) =
            (T.list_of a t r, ap (λ z. branch L.list z none) e, (h, f, k))

    call_before : (q m : Forest Label A)
        → (G.One kind K.LParen ⋄ Maybe (G.Items kind E) ⋄ G.One kind K.RParen) q
        → Typed kind T.accesses m → Typed kind T.accesses (branch L.access q m)
    call_before q m x s = go (arguments K.LParen K.RParen refl refl q x)
      where
        go : (a : A) × (r : A) × IsTrue (is K.LParen (kind a)) × IsTrue (is K.RParen (kind r))
            × ((without_trailing kind q ≡ leaf a (leaf r none)) ⊎ ((t : T.Tree A T.args)
            × (without_trailing kind q ≡ leaf a (join (parts kind t) (leaf r none))) × Fits kind t))
            → Typed kind T.accesses (branch L.access q m)
        go (a, r, h, k, inl e) = (
          T.call_empty a r s.0,
          ap (λ z. branch L.access z (without_trailing kind m)) e
              ∙ ap (branch L.access (leaf a (leaf r none))) s.1,
          (h, k, s.2),
        )
        go (a, r, h, k, inr (t, e, f)) = (
          T.call a t r s.0,
          ap (λ z. branch L.access z (without_trailing kind m)) e
              ∙ ap (branch L.access (leaf a (join (parts kind t) (leaf r none)))) s.1,
          (h, f, k, s.2),
        )

    field_before : (f m : Forest Label A) → Branch L.access (G.One kind K.Dot ⋄ G.Ident kind) f
        → Typed kind T.accesses m → Typed kind T.accesses (join f m)
    field_before f m (g, e, (u, v, d, (a, b, o), (w, c, (i, j, h)))) s = (
      T.field a i s.0,
      ap (λ z. without_trailing kind (join z m)) (e ∙ ap (λ z. branch L.access z none) (d
          ∙ ap (λ z. join z v) b ∙ ap (leaf a) (c ∙ ap (λ z. branch L.ident z none) j)))
          ∙ ap (λ z. branch L.access z (without_trailing kind m)) (kept kind a L.ident
          (leaf i none) none ∙ ap (λ z. leaf a (branch L.ident z none)) (lone kind i))
          ∙ ap (branch L.access (leaf a (branch L.ident (leaf i none) none))) s.1,
      (o, within_at is_ident is_atom refl (kind i) h, s.2),
    )

    index_before : (f m : Forest Label A)
        → Branch L.access (G.One kind K.LBracket ⋄ G.STR kind ⋄ G.One kind K.RBracket) f
        → Typed kind T.accesses m → Typed kind T.accesses (join f m)
    index_before f m (g, e, (u, v, d, (a, b, o), (x, y, c, (w, h, (i, j, k)), (r, p, q)))) s = (
      T.index a i r s.0,
      ap (λ z. without_trailing kind (join z m)) (e
          ∙ ap (λ z. branch L.access z none) (d ∙ ap (λ z. join z v) b ∙ ap (leaf a) (c ∙ ap (λ z.
          join z y) (h ∙ ap (λ z. branch L.str z none) j) ∙ ap (branch L.str (leaf i none)) p)))
          ∙ ap (λ z. branch L.access z (without_trailing kind m))
          (kept kind a L.str (leaf i none) (leaf r none)
          ∙ ap (λ z. leaf a (branch L.str z (without_trailing kind (leaf r none)))) (lone kind i)
          ∙ ap (λ z. leaf a (branch L.str (leaf i none) z)) (lone kind r))
          ∙ ap (branch L.access (leaf a (branch L.str (leaf i none) (leaf r none)))) s.1,
      (o, within_at (is K.Str) is_atom refl (kind i) k, q, s.2),
    )

    accesses : (f : Forest Label A) → Many (G.Access kind room E) f → Typed kind T.accesses f
    accesses f (no_more i e) = (T.no_access, ap (without_trailing kind) e, tt)
    accesses f (one_more i u v e (inr x) m) =
        let r = index_before u v x (accesses v m) in (r.0, ap (without_trailing kind) e ∙ r.1, r.2)
    accesses f (one_more i u v e (inl (g, h, d, x, inr y)) m) =
        let r = field_before g v x (accesses v m) in (
          r.0,
          ap (without_trailing kind) (e ∙ ap (λ z. join z v) (d ∙ ap (join g) y ∙ join_none g))
              ∙ r.1,
          r.2,
        )
    accesses f (one_more i u v e (inl (g, h, d, x, inl (q, c, (o, y)))) m) =
        let r = field_before g (branch L.access q v) x (call_before q v y (accesses v m)) in (
          r.0,
          ap (without_trailing kind) (e ∙ ap (λ z. join z v) (d ∙ ap (join g) c)
              ∙ join_assoc g (branch L.access q none) v) ∙ r.1,
          r.2,
        )

    init : (f : Forest Label A) → G.Init kind room E f → Node L.rec_init T.init f
    init f (p, e, (u, v, d, k, (x, y, g, (a, b, o), s))) = go (key u k)
      where
        key : (u : Forest Label A) → (Branch L.primary (Branch L.name (G.Ident kind))
            ∪ Branch L.primary (Branch L.string (G.One kind K.Str))) u → Node L.primary T.primary u
        key u (inl k) = named is_ident refl u k
        key u (inr k) = literal L.string (is K.Str) refl string_label u k

        go : Node L.primary T.primary u → Node L.rec_init T.init f
        go h =
            let n = typed_expr y s in (
              p,
              e,
              (
                T.init_of h.2.0 a n.2.0,
                ap (without_trailing kind) (d ∙ ap (λ z. join z v) h.1
                    ∙ ap (branch L.primary h.0) (g ∙ ap (λ z. join z y) b ∙ ap (leaf a) n.1))
                    ∙ ap (λ z. branch L.primary z
                    (without_trailing kind (leaf a (branch L.expr n.0 none)))) h.2.1
                    ∙ ap (branch L.primary (parts kind h.2.0)) (kept kind a L.expr n.0 none
                    ∙ ap (λ z. leaf a (branch L.expr z none)) n.2.1),
                (h.2.2, o, n.2.2),
              ),
            )

    fields : (q : Forest Label A)
        → (G.One kind K.LBrace ⋄ Maybe (G.Items kind (G.Init kind room E)) ⋄ G.One kind K.RBrace) q
        → Typed kind T.primary (branch L.fields q none)
    fields q x = go (bracketed L.rec_init T.init T.inits
        (G.Init kind room E) T.inits_one T.inits_more (λ t. refl) (λ t a r. refl) (λ t h. h)
        (λ t a r c h k. (h, c, k)) init K.LBrace K.RBrace refl refl q x)
      where
        go : (a : A) × (r : A) × IsTrue (is K.LBrace (kind a)) × IsTrue (is K.RBrace (kind r))
            × ((without_trailing kind q ≡ leaf a (leaf r none)) ⊎ ((t : T.Tree A T.inits)
            × (without_trailing kind q ≡ leaf a (join (parts kind t) (leaf r none))) × Fits kind t))
            → Typed kind T.primary (branch L.fields q none)
        go (a, r, h, k, inl e) = (T.record_empty a r, ap (λ z. branch L.fields z none) e, (h, k))
        go (a, r, h, k, inr (t, e, f)) =
            (T.record_of a t r, ap (λ z. branch L.fields z none) e, (h, f, k))

    boxed : (l : Label) (X : Lang A)
        → ((q : Forest Label A) → X q → Typed kind T.primary (branch l q none))
        → (f : Forest Label A) → Branch L.primary (Branch l X) f → Node L.primary T.primary f
    boxed l X h f (p, e, (q, d, x)) =
        let t = h q x in (p, e, (t.0, ap (without_trailing kind) d ∙ t.1, t.2))

    after_primary : (u v : Forest Label A) → Node L.primary T.primary u → Typed kind T.accesses v
        → Typed kind T.member (join u v)
    after_primary u v n s = (
      T.member_of n.2.0 s.0,
      ap (λ z. without_trailing kind (join z v)) n.1
          ∙ ap (λ z. branch L.primary z (without_trailing kind v)) n.2.1
          ∙ ap (branch L.primary (parts kind n.2.0)) s.1,
      (n.2.2, s.2),
    )

    path_primary : (f : Forest Label A) → Branch L.primary (G.Path kind) f
        → Node L.primary T.primary f
    path_primary f (p, e, (q, d, x)) = let t = names kind q x in (
      p,
      e,
      (T.named t.0, ap (without_trailing kind) d ∙ ap (λ z. branch L.name z none) t.1, t.2),
    )

    item_then : (u v : Forest Label A) → G.Primary kind room E u → Typed kind T.accesses v
        → Typed kind T.member (join u v)
    item_then u v (inl x) s =
        after_primary u v (literal L.boolean is_boolean refl boolean_label u x) s
    item_then u v (inr (inl x)) s =
        after_primary u v (literal L.number (is K.Number) refl number_label u x) s
    item_then u v (inr (inr (inl x))) s =
        after_primary u v (literal L.string (is K.Str) refl string_label u x) s
    item_then u v (inr (inr (inr (inl x)))) s = after_primary u v (boxed L.parens
        (G.Deeper kind room E K.LParen (E ⋄ G.One kind K.RParen)) (λ q y. parens q y.1) u x) s
    item_then u v (inr (inr (inr (inr (inl x))))) s =
        after_primary u v (boxed L.list (G.Deeper kind room E K.LBracket
        (Maybe (G.Items kind E) ⋄ G.One kind K.RBracket)) (λ q y. list q y.1) u x) s
    item_then u v (inr (inr (inr (inr (inr (inl x)))))) s = after_primary u v
        (boxed L.fields (G.Deeper kind room E K.LBrace (Maybe (G.Items kind (G.Init kind room E))
        ⋄ G.One kind K.RBrace)) (λ q y. fields q y.1) u x) s
    item_then u v (inr (inr (inr (inr (inr (inr (inl x))))))) s =
        after_primary u v (named is_variable refl u x) s
    item_then u v (inr (inr (inr (inr (inr (inr (inr (inl x)))))))) s =
        after_primary u v (entity u x) s
    item_then u v (inr (inr (inr (inr (inr (inr (inr (inr (g, h, e, x, (q, d, (o, y))))))))))) s =
        let r = after_primary g (branch L.access q v) (path_primary g x) (call_before q v y s) in (
          r.0,
          ap (λ z. without_trailing kind (join z v)) (e ∙ ap (join g) d)
              ∙ ap (without_trailing kind) (join_assoc g (branch L.access q none) v) ∙ r.1,
          r.2,
        )

    member : (f : Forest Label A) → (G.Primary kind room E ⋄ Many (G.Access kind room E)) f
        → Typed kind T.member f
    member f (u, v, e, x, m) =
        let r = item_then u v x (accesses v m) in (r.0, ap (without_trailing kind) e ∙ r.1, r.2)

    -- signs before what has a typed unary
    abbrev Before : Lang A → Type 0
    Before X = (f g : Forest Label A) → X f → Typed kind T.unary g → Typed kind T.unary (join f g)

    one_sign : (k : Kind) → IsTrue (within (is k) is_sign) → nat_eq (code k) (code K.Comma) ≡ false
        → Before (G.One kind k)
    one_sign k w n f g (a, e, h) t = (
      T.signed a t.0,
      ap (λ z. without_trailing kind (join z g)) e ∙ opening_kept kind a g (not_comma kind k a h n)
          ∙ ap (leaf a) t.1,
      (within_at (is k) is_sign w (kind a) h, t.2),
    )

    sign_then : (k : Kind) → IsTrue (within (is k) is_sign) → nat_eq (code k) (code K.Comma) ≡ false
        → (X : Lang A)
        → ((f g : Forest Label A) → X f → Typed kind T.unary g → Typed kind T.unary (join f g))
        → (f g : Forest Label A) → (G.One kind k ⋄ Maybe X) f → Typed kind T.unary g
        → Typed kind T.unary (join f g)
    sign_then k w n X h f g (u, v, e, x, inr y) t =
        let r = one_sign k w n u g x t in (
          r.0,
          ap (λ z. without_trailing kind (join z g)) (e ∙ ap (join u) y ∙ join_none u) ∙ r.1,
          r.2,
        )
    sign_then k w n X h f g (u, v, e, x, inl y) t =
        let r = one_sign k w n u (join v g) x (h v g y t) in (
          r.0,
          ap (λ z. without_trailing kind (join z g)) e
              ∙ ap (without_trailing kind) (join_assoc u v g) ∙ r.1,
          r.2,
        )

    signs : (k : Kind) → IsTrue (within (is k) is_sign) → nat_eq (code k) (code K.Comma) ≡ false
        → (f g : Forest Label A) → G.Signs kind k f → Typed kind T.unary g
        → Typed kind T.unary (join f g)
    signs k w n =
        sign_then k w n (G.One kind k ⋄ Maybe (G.One kind k ⋄ Maybe (G.One kind k))) (sign_then k w
        n (G.One kind k ⋄ Maybe (G.One kind k)) (sign_then k w n (G.One kind k) (one_sign k w n)))

    unary : (f : Forest Label A)
        → (Maybe (G.Signs kind K.Neg ∪ G.Signs kind K.Dash) ⋄ G.Member kind room E) f
        → Typed kind T.unary f
    unary f (u, v, e, s, (g, d, x)) = go s
      where
        base : Typed kind T.unary v
        base = let t = member g x in (
          T.unsigned t.0,
          ap (without_trailing kind) d ∙ ap (λ z. branch L.member z none) t.1,
          t.2,
        )

        go : Maybe (G.Signs kind K.Neg ∪ G.Signs kind K.Dash) u → Typed kind T.unary f
        go (inl (inl y)) =
            let r = signs K.Neg refl refl u v y base in
            (r.0, ap (without_trailing kind) e ∙ r.1, r.2)
        go (inl (inr y)) =
            let r = signs K.Dash refl refl u v y base in
            (r.0, ap (without_trailing kind) e ∙ r.1, r.2)
        go (inr y) =
            (base.0, ap (without_trailing kind) (e ∙ ap (λ z. join z v) y) ∙ base.1, base.2)

    sum : (f : Forest Label A) → G.Add kind room E f → Node L.add T.add f
    sum f (g, e, x) = (
      g,
      e,
      sums kind (Maybe (G.Signs kind K.Neg ∪ G.Signs kind K.Dash) ⋄ G.Member kind room E) unary g x,
    )

    has_fields : (f : Forest Label A) → Many (G.Field kind) f → Typed kind T.accesses f
    has_fields f (no_more i e) = (T.no_access, ap (without_trailing kind) e, tt)
    has_fields f (one_more i u v e x m) =
        let r = field_before u v x (has_fields v m) in
        (r.0, ap (without_trailing kind) e ∙ r.1, r.2)

    has_operand : (f : Forest Label A) → (G.StrOperand kind ∪ G.HasField kind) f
        → Node L.add T.add f
    has_operand f (inl x) = operand (Branch L.primary (Branch L.string (G.One kind K.Str)))
        (λ f x. alone f (literal L.string (is K.Str) refl string_label f x)) f x
    has_operand f (inr x) = operand
        (Branch L.primary (Branch L.name (G.Ident kind)) ⋄ Many (G.Field kind)) fields_of f x
      where
        fields_of : (f : Forest Label A)
            → (Branch L.primary (Branch L.name (G.Ident kind)) ⋄ Many (G.Field kind)) f
            → Typed kind T.member f
        fields_of f (u, v, e, x, m) =
            let r = after_primary u v (named is_ident refl u x) (has_fields v m) in
            (r.0, ap (without_trailing kind) e ∙ r.1, r.2)

    like_operand : (f : Forest Label A) → G.StrOperand kind f → Node L.add T.add f
    like_operand f x = has_operand f (inl x)

    binary : (u v : Forest Label A) (l : Label)
        (con : T.Tree A T.add → A → T.Tree A T.add → T.Tree A T.relation)
        → ((t : T.Tree A T.add) (a : A) (r : T.Tree A T.add) → parts kind (con t a r)
        ≡ branch L.add (parts kind t) (branch l (leaf a (branch L.add (parts kind r) none)) none))
        → ((t : T.Tree A T.add) (a : A) (r : T.Tree A T.add) → Fits kind t → Fits kind r
        → Fits kind (con t a r))
        → Node L.add T.add u → (a : A) × (t : T.Tree A T.add) × (without_trailing kind v
        ≡ branch l (leaf a (branch L.add (parts kind t) none)) none) × Fits kind t
        → Typed kind T.relation (join u v)
    binary u v l con same fits n r = (
      con n.2.0 r.0 r.1,
      ap (λ z. without_trailing kind (join z v)) n.1
          ∙ ap (λ z. branch L.add z (without_trailing kind v)) n.2.1
          ∙ ap (branch L.add (parts kind n.2.0)) r.2 ∙ sym (same n.2.0 r.0 r.1),
      fits n.2.0 r.0 r.1 n.2.2 r.3,
    )

    is_then : (u v : Forest Label A) → Node L.add T.add u → Branch L.is_type
        (G.One kind K.Is ⋄ G.Path kind ⋄ Maybe (G.One kind K.In ⋄ G.Add kind room E)) v
        → Typed kind T.relation (join u v)
    is_then u v n (g, e, (x, y, d, (a, b, o), (p, q, c, (i, j, w), inr z))) =
        let t = names kind i w in (
          T.is_type n.2.0 a t.0,
          ap (λ z. without_trailing kind (join z v)) n.1
              ∙ ap (λ z. branch L.add z (without_trailing kind v)) n.2.1
              ∙ ap (λ z. branch L.add (parts kind n.2.0) (without_trailing kind z)) (e
              ∙ ap (λ z. branch L.is_type z none) (d ∙ ap (λ z. join z y) b
              ∙ ap (leaf a) (c ∙ ap (λ z. join z q) j ∙ ap (branch L.name i) z)))
              ∙ ap (λ z. branch L.add (parts kind n.2.0) (branch L.is_type z none))
              (kept kind a L.name i none ∙ ap (λ z. leaf a (branch L.name z none)) t.1),
          (n.2.2, t.2),
        )
    is_then u v n (g, e, (x, y, d, (a, b, o), (p, q, c, (i, j, w), inl (k, m, z, (r, s, h), l)))) =
        let t = names kind i w in
        let f = sum m l in (
          T.is_in n.2.0 a t.0 r f.2.0,
          ap (λ z. without_trailing kind (join z v)) n.1
              ∙ ap (λ z. branch L.add z (without_trailing kind v)) n.2.1
              ∙ ap (λ z. branch L.add (parts kind n.2.0) (without_trailing kind z)) (e ∙ ap
              (λ z. branch L.is_type z none) (d ∙ ap (λ z. join z y) b ∙ ap (leaf a) (c ∙ ap (λ z.
              join z q) j ∙ ap (branch L.name i) (z ∙ ap (λ z. join z m) s ∙ ap (leaf r) f.1))))
              ∙ ap (λ z. branch L.add (parts kind n.2.0) (branch L.is_type z none))
              (kept kind a L.name i (leaf r (branch L.add f.0 none))
              ∙ ap (λ z.
              leaf a (branch L.name z (without_trailing kind (leaf r (branch L.add f.0 none))))) t.1
              ∙ ap (λ z. leaf a (branch L.name (parts kind t.0) z)) (kept kind r L.add f.0 none
              ∙ ap (λ z. leaf r (branch L.add z none)) f.2.1)),
          (n.2.2, t.2, f.2.2),
        )

    abbrev RightAfter : Lang A
    RightAfter = Branch L.compare (Of kind is_comparison ⋄ G.Add kind room E)
        ∪ Branch L.has_or_like (G.One kind K.Has ⋄ (G.StrOperand kind ∪ G.HasField kind))
        ∪ Branch L.has_or_like (G.One kind K.Like ⋄ G.StrOperand kind)
        ∪ Branch L.is_type
        (G.One kind K.Is ⋄ G.Path kind ⋄ Maybe (G.One kind K.In ⋄ G.Add kind room E))

    related : (f : Forest Label A) → (G.Add kind room E ⋄ Maybe RightAfter) f
        → Typed kind T.relation f
    related f (u, v, e, x, y) =
        let r = go v (sum u x) y in (r.0, ap (without_trailing kind) e ∙ r.1, r.2)
      where
        go : (v : Forest Label A) → Node L.add T.add u → Maybe RightAfter v
            → Typed kind T.relation (join u v)
        go v n (inl (inl y)) =
            binary u v L.compare T.compare (λ t a r. refl) (λ t a r h k. (h, k)) n (operator_kept
            (G.Add kind room E) sum is_comparison (G.Add kind room E) L.add L.compare v sum y)
        go v n (inl (inr (inl y))) = binary u v L.has_or_like T.has_or_like (λ t a r. refl)
            (λ t a r h k. (h, k)) n (operator_kept (G.Add kind room E) sum (is K.Has)
            (G.StrOperand kind ∪ G.HasField kind) L.add L.has_or_like v has_operand y)
        go v n (inl (inr (inr (inl y)))) = binary u v L.has_or_like T.has_or_like (λ t a r. refl)
            (λ t a r h k. (h, k)) n (operator_kept (G.Add kind room E) sum (is K.Like)
            (G.StrOperand kind) L.add L.has_or_like v like_operand y)
        go v n (inl (inr (inr (inr y)))) = is_then u v n y
        go v n (inr z) = (
          T.single n.2.0,
          ap (without_trailing kind) (ap (λ q. join q v) n.1 ∙ ap (branch L.add n.0) z)
              ∙ ap (λ q. branch L.add q none) n.2.1,
          n.2.2,
        )

    expression : (f : Forest Label A) → G.ExprIn kind room E f → Node L.expr T.expr f
    expression f (g, e, inr (h, d, x)) =
        let t = ors (G.Add kind room E ⋄ Maybe RightAfter) related h x in (
          g,
          e,
          (T.ors_expr t.0, ap (without_trailing kind) d ∙ ap (λ z. branch L.or z none) t.1, t.2),
        )
    expression f
        (g, e, inl (o, (u, v, d, (a, b, h), (x, y, c, p, (i, j, k, (l, m, n), (q, r, s, w, (i2, j2, k2, (l2, m2, n2), p2))))))) =
        let e1 = typed_expr x p in
        let e2 = typed_expr q w in
        let e3 = typed_expr j2 p2 in (
          g,
          e,
          (
            T.if_expr a e1.2.0 l e2.2.0 l2 e3.2.0,
            ap (without_trailing kind) (d ∙ ap (λ z. join z v) b
                ∙ ap (leaf a) (c ∙ ap (λ z. join z y) e1.1 ∙ ap (branch L.expr e1.0) (k
                ∙ ap (λ z. join z j) m ∙ ap (leaf l) (s ∙ ap (λ z. join z r) e2.1
                ∙ ap (branch L.expr e2.0) (k2 ∙ ap (λ z. join z j2) m2 ∙ ap (leaf l2) e3.1)))))
                ∙ kept kind a L.expr e1.0
                (leaf l (branch L.expr e2.0 (leaf l2 (branch L.expr e3.0 none))))
                ∙ ap (λ z. leaf a (branch L.expr z (without_trailing kind
                (leaf l (branch L.expr e2.0 (leaf l2 (branch L.expr e3.0 none))))))) e1.2.1
                ∙ ap (λ z. leaf a (branch L.expr (parts kind e1.2.0) z))
                (kept kind l L.expr e2.0 (leaf l2 (branch L.expr e3.0 none))
                ∙ ap (λ z. leaf l (branch L.expr z
                (without_trailing kind (leaf l2 (branch L.expr e3.0 none))))) e2.2.1
                ∙ ap (λ z. leaf l (branch L.expr (parts kind e2.2.0) z))
                (kept kind l2 L.expr e3.0 none ∙ ap (λ z. leaf l2 (branch L.expr z none)) e3.2.1)),
            (within_at (is K.If) is_atom refl (kind a) h, e1.2.2, e2.2.2, e3.2.2),
          ),
        )

  -- Each expression of the grammar, without trailing commas, is that of a typed tree.
  pub typed_expression : (d : ℕ) (f : Forest Label A) → G.Expr kind d f → Node L.expr T.expr f
  typed_expression zero f x = expression false (λ f. ⊥) (λ f y. absurd y) f x
  typed_expression (suc d) f x = expression true (G.Expr kind d) (λ f y. typed_expression d f y) f x
