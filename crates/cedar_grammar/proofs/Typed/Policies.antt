-- Each policy of the grammar, without trailing commas, is that of a typed tree.
use Rattle.std.specs.Prelude.{◌≡◌, ℕ, false, IsTrue, List, [], ◌∷◌}
use Rattle.std.proofs.Common.{refl, ap, ◌∙◌, inl, inr}
use Rattle.cedar_tokens.specs.declared.kind.Kind.{Kind}
use Rattle.cedar_tokens.specs.declared.kind.Kind.TheVariants as K
use Rattle.cedar_tokens.specs.Kinds.{is, is_closing}
use Rattle.cedar_grammar.specs.Trees.{Label, Forest, none, leaf, branch, join}
use Rattle.cedar_grammar.specs.Trees as L
use Rattle.cedar_grammar.specs.Languages.{◌⋄◌, ◌∪◌, Empty, Many, no_more, one_more, Maybe, Branch}
use Rattle.cedar_grammar.specs.KindGrammar as G
use Rattle.cedar_grammar.specs.TrailingCommas.{without_trailing}
use Rattle.cedar_grammar.specs.TypedTrees as T
use Rattle.cedar_grammar.specs.TypedTrees.{PartKind, Clause, parts, part_parts, policy_trees, set_tree}
use Rattle.cedar_tokens.specs.Kinds.{is_any_word, is_effect, is_cond_word}
use Rattle.cedar_grammar.proofs.Typed.FittingLeaves.{PartFits, is_atom}
use Rattle.std.specs.List.{AllByRecursion}
use Rattle.cedar_grammar.proofs.KindSets.{within, within_at}
use Rattle.cedar_grammar.proofs.Typed.Chains.{Typed, kept, lone, not_comma, opening_kept, names}
use Rattle.cedar_grammar.proofs.Typed.Expressions.{Node, entity, alone, operand, list, typed_expression}

module _ {A : Type 0} (kind : A → Kind) where
  -- typed parts whose forest is the row without trailing commas
  abbrev pub TypedPart : PartKind → Forest Label A → Type 0
  TypedPart k f = (t : Clause A k) × (without_trailing kind f ≡ part_parts kind t) × PartFits kind t

  abbrev pub PartNode : Label → PartKind → Forest Label A → Type 0
  PartNode l k f = (g : Forest Label A) × (f ≡ branch l g none) × TypedPart k g

  entity_operand : (f : Forest Label A) → G.Operand kind (G.Entity kind) f → Node kind L.add T.add f
  entity_operand = operand kind (G.Entity kind) (λ f x. alone kind f (entity kind f x))

  slot : (s : Kind) → IsTrue (within (is s) is_atom) → (f : Forest Label A)
      → Branch L.primary (Branch L.slot (G.One kind s)) f → Node kind L.primary T.primary f
  slot s w f (g, e, (h, d, (a, c, o))) = (
    g,
    e,
    (
      T.slot a,
      rw (d, c) (ap (λ z. branch L.slot z none) (lone kind a)),
      within_at (is s) is_atom w (kind a) o,
    ),
  )

  entity_or : (s : Kind) → IsTrue (within (is s) is_atom) → (f : Forest Label A)
      → G.EntityOr kind s f → Node kind L.add T.add f
  entity_or s w = operand kind (Branch L.primary (Branch L.slot (G.One kind s)) ∪ G.Entity kind) go
    where
      go : (f : Forest Label A)
          → (Branch L.primary (Branch L.slot (G.One kind s)) ∪ G.Entity kind) f
          → Typed kind T.member f
      go f (inl x) = alone kind f (slot s w f x)
      go f (inr x) = alone kind f (entity kind f x)

  -- a row that begins with a token, a word, a node
  one_then : (w p q : Forest Label A) (o : A) → w ≡ join p q → p ≡ leaf o none → w ≡ leaf o q
  one_then w p q o d b = d ∙ ap (λ z. join z q) b

  word_then : (w p q i : Forest Label A) (k : A) → w ≡ join p q → p ≡ branch L.ident i none
      → i ≡ leaf k none → w ≡ branch L.ident (leaf k none) q
  word_then w p q i k d j m = d ∙ ap (λ z. join z q) (j ∙ ap (λ z. branch L.ident z none) m)

  node_then : (w p q h : Forest Label A) (l : Label) → w ≡ join p q → p ≡ branch l h none
      → w ≡ branch l h q
  node_then w p q h l d b = d ∙ ap (λ z. join z q) b

  entity_item : (f : Forest Label A) → G.EntityItem kind f → Node kind L.expr T.expr f
  entity_item f (p, e, (q, d, (r, c, (s, b, x)))) =
      let n = entity_operand s x in (
        p,
        e,
        (
          T.ors_expr (T.ors_one (T.ands_one (T.single n.2.0))),
          ap (without_trailing kind) (d ∙ ap (λ z. branch L.or z none) (c
              ∙ ap (λ z. branch L.and z none) (b ∙ ap (λ z. branch L.relation z none) n.1)))
              ∙ ap (λ z. branch L.or
              (branch L.and (branch L.relation (branch L.add z none) none) none) none) n.2.1,
          n.2.2,
        ),
      )

  list_operand : (f : Forest Label A) → G.Operand kind (Branch L.primary (Branch L.list
      (G.One kind K.LBracket ⋄ Maybe (G.Items kind (G.EntityItem kind)) ⋄ G.One kind K.RBracket))) f
      → Node kind L.add T.add f
  list_operand = operand kind (Branch L.primary (Branch L.list (G.One kind K.LBracket
      ⋄ Maybe (G.Items kind (G.EntityItem kind)) ⋄ G.One kind K.RBracket))) go
    where
      go : (f : Forest Label A) → Branch L.primary (Branch L.list (G.One kind K.LBracket ⋄ Maybe
          (G.Items kind (G.EntityItem kind)) ⋄ G.One kind K.RBracket)) f → Typed kind T.member f
      go f (p, e, (q, d, x)) =
          let t = list kind false (G.EntityItem kind) entity_item q x in
          alone kind f (p, e, (t.0, ap (without_trailing kind) d ∙ t.1, t.2))

  -- a word and what follows it
  following : (k : A) (v : Forest Label A) → without_trailing kind (branch L.ident (leaf k none) v)
      ≡ branch L.ident (leaf k none) (without_trailing kind v)
  following k v = ap (λ z. branch L.ident z (without_trailing kind v)) (lone kind k)

  -- an operator and its operand
  operated : (a : A) (g : Forest Label A) (t : T.Tree A T.add)
      → without_trailing kind g ≡ parts kind t → without_trailing kind (leaf a
      (branch L.add g none)) ≡ leaf a (branch L.add (parts kind t) none)
  operated a g t e = kept kind a L.add g none ∙ ap (λ z. leaf a (branch L.add z none)) e

  -- a variable with an operator and its operand
  with_operand : (g u w i p q : Forest Label A) (k o : A) → IsTrue (is_atom (kind k)) → g ≡ join u w
      → u ≡ branch L.ident i none → i ≡ leaf k none → w ≡ join p q → p ≡ leaf o none
      → Node kind L.add T.add q → TypedPart T.variable g
  with_operand g u w i p q k o a d j m r b n = (
    T.variable_op k o n.2.0,
    ap (without_trailing kind) (word_then g u w i k d j m
        ∙ ap (branch L.ident (leaf k none)) (one_then w p q o r b ∙ ap (leaf o) n.1))
        ∙ following k (leaf o (branch L.add n.0 none))
        ∙ ap (branch L.ident (leaf k none)) (operated o n.0 n.2.0 n.2.1),
    (a, n.2.2),
  )

  bare : (g u w i : Forest Label A) (k : A) → IsTrue (is_atom (kind k)) → g ≡ join u w
      → u ≡ branch L.ident i none → i ≡ leaf k none → w ≡ none → TypedPart T.variable g
  bare g u w i k a d j m z = (
    T.variable_bare k,
    ap (without_trailing kind) (word_then g u w i k d j m ∙ ap (branch L.ident (leaf k none)) z)
        ∙ following k none,
    a,
  )

  scoped : (v s : Kind) → IsTrue (within (is v) is_atom) → IsTrue (within (is s) is_atom)
      → (f : Forest Label A) → G.Scoped kind v s f → PartNode L.variable T.variable f
  scoped v s va sa f (g, e, (u, w, d, (i, j, (k, m, n)), inr z)) =
      (g, e, bare g u w i k (within_at (is v) is_atom va (kind k) n) d j m z)
  scoped v s va sa f (g, e, (u, w, d, (i, j, (k, m, n)), inl (inl (p, q, r, (o, b, h), x)))) = (
    g,
    e,
    with_operand g u w i p q k o (within_at (is v) is_atom va (kind k) n) d j m r b
        (entity_or s sa q x),
  )
  scoped v s va sa f
      (g, e, (u, w, d, (i, j, (k, m, n)), inl (inr (inr (p, q, r, (o, b, h), x))))) = (
        g,
        e,
        with_operand g u w i p q k o (within_at (is v) is_atom va (kind k) n) d j m r b
            (entity_or s sa q x),
      )
  scoped v s va sa f (
    g,
    e,
    (
      u,
      w,
      d,
      (i, j, (k, m, n)),
      inl (inr (inl (p, q, r, (o, b, h), (x, y, c, (l, l', path), inr z)))),
    ),
  ) =
      let t = names kind l path in (
        g,
        e,
        (
          T.variable_is k o t.0,
          ap (without_trailing kind) (word_then g u w i k d j m
              ∙ ap (branch L.ident (leaf k none)) (one_then w p q o r b
              ∙ ap (leaf o) (node_then q x y l L.name c l' ∙ ap (branch L.name l) z)))
              ∙ following k (leaf o (branch L.name l none))
              ∙ ap (branch L.ident (leaf k none)) (kept kind o L.name l none
              ∙ ap (λ z. leaf o (branch L.name z none)) t.1),
          (within_at (is v) is_atom va (kind k) n, t.2),
        ),
      )
  scoped v s va sa f (
    g,
    e,
    (
      u,
      w,
      d,
      (i, j, (k, m, n)),
      inl (inr (inl (
        p,
        q,
        r,
        (o, b, h),
        (x, y, c, (l, l', path), inl (p', q', r', (o', b', h'), x')),
      ))),
    ),
  ) =
      let t = names kind l path in
      let a = entity_or s sa q' x' in (
        g,
        e,
        (
          T.variable_is_op k o t.0 o' a.2.0,
          ap (without_trailing kind)
              (word_then g u w i k d j m ∙ ap (branch L.ident (leaf k none)) (one_then w p q o r b
              ∙ ap (leaf o) (node_then q x y l L.name c l'
              ∙ ap (branch L.name l) (one_then y p' q' o' r' b' ∙ ap (leaf o') a.1))))
              ∙ following k (leaf o (branch L.name l (leaf o' (branch L.add a.0 none))))
              ∙ ap (branch L.ident (leaf k none))
              (kept kind o L.name l (leaf o' (branch L.add a.0 none))
              ∙ ap (λ z. leaf o
              (branch L.name z (without_trailing kind (leaf o' (branch L.add a.0 none))))) t.1
              ∙ ap (λ z. leaf o (branch L.name (parts kind t.0) z)) (operated o' a.0 a.2.0 a.2.1)),
          (within_at (is v) is_atom va (kind k) n, t.2, a.2.2),
        ),
      )

  action : (f : Forest Label A) → G.Action kind f → PartNode L.variable T.variable f
  action f (g, e, (u, w, d, (i, j, (k, m, n)), inr z)) =
      (g, e, bare g u w i k (within_at (is K.Action) is_atom refl (kind k) n) d j m z)
  action f (g, e, (u, w, d, (i, j, (k, m, n)), inl (inl (p, q, r, (o, b, h), x)))) = (
    g,
    e,
    with_operand g u w i p q k o (within_at (is K.Action) is_atom refl (kind k) n) d j m r b
        (entity_operand q x),
  )
  action f (g, e, (u, w, d, (i, j, (k, m, n)), inl (inr (p, q, r, (o, b, h), inl x)))) = (
    g,
    e,
    with_operand g u w i p q k o (within_at (is K.Action) is_atom refl (kind k) n) d j m r b
        (list_operand q x),
  )
  action f (g, e, (u, w, d, (i, j, (k, m, n)), inl (inr (p, q, r, (o, b, h), inr x)))) = (
    g,
    e,
    with_operand g u w i p q k o (within_at (is K.Action) is_atom refl (kind k) n) d j m r b
        (entity_operand q x),
  )

  annotation : (f : Forest Label A) → G.Annotation kind f → PartNode L.annotation T.annotation f
  annotation f (g, e, (u, v, d, (a, b, o), (w, y, c, (i, j, (k, m, n)), inr z))) = (
    g,
    e,
    (
      T.annotation_bare a k,
      ap (without_trailing kind) (one_then g u v a d b
          ∙ ap (leaf a) (word_then v w y i k c j m ∙ ap (branch L.ident (leaf k none)) z))
          ∙ kept kind a L.ident (leaf k none) none
          ∙ ap (λ z. leaf a (branch L.ident z none)) (lone kind k),
      (o, within_at is_any_word is_atom refl (kind k) n),
    ),
  )
  annotation f (
    g,
    e,
    (
      u,
      v,
      d,
      (a, b, o),
      (
        w,
        y,
        c,
        (i, j, (k, m, n)),
        inl (p, q, r, (l, l', h), (p', q', r', (x, x', (s, s', h')), (t, t', h''))),
      ),
    ),
  ) =
      let value : y ≡ leaf l (branch L.str (leaf s none) (leaf t none)) =
      one_then y p q l r l' ∙ ap (leaf l) (node_then q p' q' x L.str r' x'
      ∙ ap (λ z. branch L.str z q') s' ∙ ap (branch L.str (leaf s none)) t') in (
        g,
        e,
        (
          T.annotation_value a k l s t,
          ap (without_trailing kind) (one_then g u v a d b
              ∙ ap (leaf a) (word_then v w y i k c j m ∙ ap (branch L.ident (leaf k none)) value))
              ∙ kept kind a L.ident (leaf k none)
              (leaf l (branch L.str (leaf s none) (leaf t none)))
              ∙ ap (λ z. leaf a (branch L.ident z (without_trailing kind
              (leaf l (branch L.str (leaf s none) (leaf t none)))))) (lone kind k)
              ∙ ap (λ z. leaf a (branch L.ident (leaf k none) z))
              (kept kind l L.str (leaf s none) (leaf t none)
              ∙ ap (λ z. leaf l (branch L.str z (without_trailing kind (leaf t none))))
              (lone kind s) ∙ ap (λ z. leaf l (branch L.str (leaf s none) z)) (lone kind t)),
          (
            o,
            within_at is_any_word is_atom refl (kind k) n,
            h,
            within_at (is K.Str) is_atom refl (kind s) h',
            h'',
          ),
        ),
      )

  cond : (d : ℕ) (f : Forest Label A) → G.Cond kind d f → PartNode L.condition T.cond f
  cond d f (g, e, (u, v, c, (i, j, (k, m, n)), (p, q, r, (l, l', h), (x, y, s, ex, (t, t', h'))))) =
      let b = typed_expression kind d x ex in (
        g,
        e,
        (
          T.cond_of k l b.2.0 t,
          ap (without_trailing kind) (word_then g u v i k c j m
              ∙ ap (branch L.ident (leaf k none)) (one_then v p q l r l'
              ∙ ap (leaf l) (node_then q x y b.0 L.expr s b.1 ∙ ap (branch L.expr b.0) t')))
              ∙ following k (leaf l (branch L.expr b.0 (leaf t none)))
              ∙ ap (branch L.ident (leaf k none)) (kept kind l L.expr b.0 (leaf t none)
              ∙ ap (λ z. leaf l (branch L.expr z (without_trailing kind (leaf t none)))) b.2.1
              ∙ ap (λ z. leaf l (branch L.expr (parts kind b.2.0) z)) (lone kind t)),
          (within_at is_cond_word is_atom refl (kind k) n, h, b.2.2, h'),
        ),
      )

  annotations : (f g : Forest Label A) → Many (G.Annotation kind) f
      → (t : Clause A T.annotations) × (without_trailing kind (join f g)
      ≡ join (part_parts kind t) (without_trailing kind g)) × PartFits kind t
  annotations f g (no_more i e) =
      (T.no_annotation, ap (λ z. without_trailing kind (join z g)) e, tt)
  annotations f g (one_more i u v e x m) =
      let a = annotation u x in
      let r = annotations v g m in (
        T.annotations_more a.2.0 r.0,
        ap (λ z. without_trailing kind (join z g)) (e ∙ ap (λ z. join z v) a.1)
            ∙ ap (λ z. branch L.annotation z (without_trailing kind (join v g))) a.2.1
            ∙ ap (branch L.annotation (part_parts kind a.2.0)) r.1,
        (a.2.2, r.2),
      )

  conds : (d : ℕ) (f g : Forest Label A) → Many (G.Cond kind d) f
      → (t : Clause A T.conds) × (without_trailing kind (join f g)
      ≡ join (part_parts kind t) (without_trailing kind g)) × PartFits kind t
  conds d f g (no_more i e) = (T.no_cond, ap (λ z. without_trailing kind (join z g)) e, tt)
  conds d f g (one_more i u v e x m) =
      let a = cond d u x in
      let r = conds d v g m in (
        T.conds_more a.2.0 r.0,
        ap (λ z. without_trailing kind (join z g)) (e ∙ ap (λ z. join z v) a.1)
            ∙ ap (λ z. branch L.condition z (without_trailing kind (join v g))) a.2.1
            ∙ ap (branch L.condition (part_parts kind a.2.0)) r.1,
        (a.2.2, r.2),
      )

  -- a comma before the bracket is dropped
  before_bracket : (q : A) (f rest : Forest Label A) → IsTrue (is K.RParen (kind q))
      → (G.One kind K.Comma ∪ Empty) f
      → without_trailing kind (join f (leaf q rest)) ≡ leaf q (without_trailing kind rest)
  before_bracket q f rest h (inr e) = ap (λ z. without_trailing kind (join z (leaf q rest))) e
      ∙ opening_kept kind q rest (not_comma kind K.RParen q h refl)
  before_bracket q f rest h (inl (a, e, o)) =
      ap (λ z. without_trailing kind (join z (leaf q rest))) e
      ∙ rw (o, within_at (is K.RParen) is_closing refl (kind q) h)
      (opening_kept kind q rest (not_comma kind K.RParen q h refl))

  -- a token and the scope variable after it
  before_variable : (a : A) (g rest : Forest Label A) (t : Clause A T.variable)
      → without_trailing kind g ≡ part_parts kind t
      → without_trailing kind (leaf a (branch L.variable g rest))
      ≡ leaf a (branch L.variable (part_parts kind t) (without_trailing kind rest))
  before_variable a g rest t e = kept kind a L.variable g rest
      ∙ ap (λ z. leaf a (branch L.variable z (without_trailing kind rest))) e

  policy : (d : ℕ) (f : Forest Label A) → G.Policy kind d f → PartNode L.policy T.policy f
  policy d f
      (g, e, (u1, v1, d1, ns, (u2, v2, d2, (i, j, (k, m, n)), (u3, v3, d3, (l, l', hl), (u4, v4, d4, p, (u5, v5, d5, (c, c', hc), (u6, v6, d6, a, (u7, v7, d7, (o, o', ho), (u8, v8, d8, r, (u9, v9, d9, w, (u10, v10, d10, (q, q', hq), (u11, v11, d11, cs, (s, s', hs))))))))))))) =
      let tp = scoped K.Principal K.PrincipalSlot refl refl u4 p in
      let ta = action u6 a in
      let tr = scoped K.Resource K.ResourceSlot refl refl u8 r in
      let tc = conds d u11 (leaf s none) cs in
      let after_scope : v8 ≡ join u9 (leaf q (join u11 (leaf s none))) =
      d9 ∙ ap (join u9) (d10 ∙ ap (λ z. join z v10) q' ∙ ap (leaf q) (d11 ∙ ap (join u11) s')) in
      let scope : v2 ≡ leaf l (branch L.variable tp.0
      (leaf c (branch L.variable ta.0 (leaf o (branch L.variable tr.0 v8))))) =
      one_then v2 u3 v3 l d3 l' ∙ ap (leaf l) (node_then v3 u4 v4 tp.0 L.variable d4 tp.1
      ∙ ap (branch L.variable tp.0) (one_then v4 u5 v5 c d5 c'
      ∙ ap (leaf c) (node_then v5 u6 v6 ta.0 L.variable d6 ta.1 ∙ ap (branch L.variable ta.0)
      (one_then v6 u7 v7 o d7 o' ∙ ap (leaf o) (node_then v7 u8 v8 tr.0 L.variable d8 tr.1))))) in
      let word = word_then v1 u2 v2 i k d2 j m in
      let tn = annotations u1 v1 ns in
      let last : without_trailing kind v8 ≡ leaf q (join (part_parts kind tc.0) (leaf s none)) =
      ap (without_trailing kind) after_scope ∙ before_bracket q u9 (join u11 (leaf s none)) hq w
      ∙ ap (leaf q) (tc.1 ∙ ap (join (part_parts kind tc.0)) (lone kind s)) in
      let inside : without_trailing kind v2 ≡ leaf l (branch L.variable (part_parts kind tp.2.0)
      (leaf c (branch L.variable (part_parts kind ta.2.0) (leaf o (branch L.variable
      (part_parts kind tr.2.0) (leaf q (join (part_parts kind tc.0) (leaf s none)))))))) =
      ap (without_trailing kind) scope ∙ before_variable l tp.0
      (leaf c (branch L.variable ta.0 (leaf o (branch L.variable tr.0 v8)))) tp.2.0 tp.2.1
      ∙ ap (λ z. leaf l (branch L.variable (part_parts kind tp.2.0) z))
      (before_variable c ta.0 (leaf o (branch L.variable tr.0 v8)) ta.2.0 ta.2.1
      ∙ ap (λ z. leaf c (branch L.variable (part_parts kind ta.2.0) z))
      (before_variable o tr.0 v8 tr.2.0 tr.2.1
      ∙ ap (λ z. leaf o (branch L.variable (part_parts kind tr.2.0) z)) last)) in (
        g,
        e,
        (
          T.policy_of tn.0 k l tp.2.0 c ta.2.0 o tr.2.0 q tc.0 s,
          ap (without_trailing kind) d1 ∙ tn.1
              ∙ ap (λ z. join (part_parts kind tn.0) (without_trailing kind z)) word ∙ ap (join
              (part_parts kind tn.0)) (following k v2 ∙ ap (branch L.ident (leaf k none)) inside),
          (
            tn.2,
            within_at is_effect is_atom refl (kind k) n,
            hl,
            tp.2.2,
            hc,
            ta.2.2,
            ho,
            tr.2.2,
            hq,
            tc.2,
            hs,
          ),
        ),
      )

  policies : (d : ℕ) (f : Forest Label A) → Many (G.Policy kind d) f
      → (ps : List (Clause A T.policy)) × (without_trailing kind f ≡ policy_trees kind ps)
      × AllByRecursion (PartFits kind) ps
  policies d f (no_more i e) = ([], ap (without_trailing kind) e, tt)
  policies d f (one_more i u v e x m) =
      let p = policy d u x in
      let r = policies d v m in (
        p.2.0 ∷ r.0,
        ap (without_trailing kind) (e ∙ ap (λ z. join z v) p.1)
            ∙ ap (λ z. branch L.policy z (without_trailing kind v)) p.2.1
            ∙ ap (branch L.policy (part_parts kind p.2.0)) r.1,
        (p.2.2, r.2),
      )

  -- Each tree of the grammar, without trailing commas, is that of typed policies, whose leaves fit.
  pub typed_set : (d : ℕ) (f : Forest Label A) → G.PolicySet kind d f
      → (ps : List (Clause A T.policy)) × (without_trailing kind f ≡ set_tree kind ps)
      × AllByRecursion (PartFits kind) ps
  typed_set d f (g, e, m) =
      let r = policies d g m in
      (r.0, ap (without_trailing kind) e ∙ ap (λ z. branch L.policies z none) r.1, r.2)
