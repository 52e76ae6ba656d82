-- Rows, grouped differently.
use Rattle.std.proofs.Common.{◌≡◌, ℕ, Bool, true, false, ◌&&◌, not, List, [], ◌∷◌, ◌++◌, refl, ap, sym, ◌∙◌, subst, inl, inr, append_assoc}
use Rattle.std.specs.Prelude.{IsTrue}
use Rattle.cedar_tokens.specs.Listing.{Decorated}
use Rattle.cedar_tokens.specs.declared.kind.Kind.{Kind}
use Rattle.cedar_tokens.specs.Kinds.{is_ident, is_variable}
use Rattle.cedar_layout.specs.Layout.{Doc, ◌·◌}
use Rattle.cedar_layout.proofs.Values.{dot_assoc}
use Rattle.cedar_grammar.specs.Laws.{kind_of_decorated}
use Rattle.cedar_grammar.proofs.KindSets.{within_at}
use Rattle.cedar_grammar.proofs.Booleans.{and_first}
use Rattle.cedar_laws.specs.Table as T
use Rattle.cedar_laws.specs.Table.{bare_token}
use Rattle.cedar_written.specs.Languages.{◌⋄◌ as ◌⊙◌, ◌∪◌ as ◌⊕◌}
use Rattle.cedar_written.specs.Languages as W
use Rattle.cedar_print.specs.WrittenMarks.{Mark, begin, end_group, end_nothing}
use Rattle.cedar_writer.specs.Lines.{is_name}
use Rattle.cedar_writer.specs.Languages.{Lang, ◌⋄◌, ◌∪◌, Put, Token, Lifted}
use Rattle.cedar_writer.proofs.SameRows.{Same, Between, written, group as group_same, ungrouped, ◌then◌, ◌or◌, Led}

-- ---- rows with marks
abbrev pub Into : Lang → Lang → Type 0
Into X Y = (ts : List Decorated) (ms : List Mark) → X ts ms → Y ts ms

pub assoc : (X Y Z : Lang) → Into ((X ⋄ Y) ⋄ Z) (X ⋄ Y ⋄ Z)
assoc X Y Z ts ms (us, vs, e, f, s, c, (us', vs', e', f', s', c', x, y), z) = (
  us',
  vs' ++ vs,
  e',
  f' ++ f,
  s ∙ (ap (λ w. w ++ vs) s' ∙ append_assoc us' vs' vs),
  c ∙ (ap (λ w. w ++ f) c' ∙ append_assoc e' f' f),
  x,
  (vs', vs, f', f, refl, refl, y, z),
)

pub unassoc : (X Y Z : Lang) → Into (X ⋄ Y ⋄ Z) ((X ⋄ Y) ⋄ Z)
unassoc X Y Z ts ms (us, vs, e, f, s, c, x, (us', vs', e', f', s', c', y, z)) = (
  us ++ us',
  vs',
  e ++ e',
  f',
  s ∙ (ap (λ w. us ++ w) s' ∙ sym (append_assoc us us' vs')),
  c ∙ (ap (λ w. e ++ w) c' ∙ sym (append_assoc e e' f')),
  (us, us', e, e', refl, refl, x, y),
  z,
)

pub second : (X Y Y' : Lang) → Into Y Y' → Into (X ⋄ Y) (X ⋄ Y')
second X Y Y' g ts ms (us, vs, e, f, s, c, x, y) = (us, vs, e, f, s, c, x, g vs f y)

-- ---- a variable of the scope
abbrev Begin : Lang
Begin = Put (begin ∷ [])

abbrev End : Lang
End = Put (end_group ∷ [])

abbrev Undo : Lang
Undo = Put (end_nothing ∷ [])

abbrev pub Opened : Lang → Lang
Opened X = Begin ⋄ Begin ⋄ X

pub grouped : (V O K : Lang) → Into (Between begin end_group (Between begin end_group (V ⋄ O) ⋄ K))
    (Opened (V ⋄ O ⋄ End ⋄ K ⋄ End))
grouped V O K = second Begin _ _ (λ ts ms x. second Begin _ _
    (λ us e y. assoc V O (End ⋄ K ⋄ End) us e
    (assoc (V ⋄ O) End (K ⋄ End) us e y)) ts ms
    (assoc Begin ((V ⋄ O) ⋄ End) (K ⋄ End) ts ms (assoc (Between begin end_group (V ⋄ O)) K End ts
    ms x)))

pub grouped_back : (V O K : Lang) → Into (Opened (V ⋄ O ⋄ End ⋄ K ⋄ End))
    (Between begin end_group (Between begin end_group (V ⋄ O) ⋄ K))
grouped_back V O K = second Begin _ _ (λ ts ms x. unassoc (Between begin end_group (V ⋄ O)) K End ts
    ms
    (unassoc Begin ((V ⋄ O) ⋄ End) (K ⋄ End) ts ms (second Begin _ _
    (λ us e y. unassoc (V ⋄ O) End (K ⋄ End) us e
    (unassoc V O (End ⋄ K ⋄ End) us e y)) ts ms x)))

pub alone : (V : Lang) → Into (Between begin end_nothing (Between begin end_nothing V))
    (Opened (V ⋄ Undo ⋄ Undo))
alone V = second Begin _ _ (λ ts ms x. second Begin _ _ (λ us e y. assoc V Undo Undo us e y) ts ms
    (assoc Begin (V ⋄ Undo) Undo ts ms x))

pub alone_back : (V : Lang) → Into (Opened (V ⋄ Undo ⋄ Undo))
    (Between begin end_nothing (Between begin end_nothing V))
alone_back V = second Begin _ _ (λ ts ms x. unassoc Begin (V ⋄ Undo) Undo ts ms
    (second Begin _ _ (λ us e y. unassoc V Undo Undo us e y) ts ms x))

pub lifted_into : (X Y : Lang) → Into X Y → Into (Lifted X) (Lifted Y)
lifted_into X Y g ts ms (t, us, e, s, c, x) = (t, us, e, s, c, g (bare_token t ∷ us) e x)

-- with a type, or without
module _ (V T E I N : Lang) where
  pub typed : Into (Lifted (Opened ((V ⋄ T) ⋄ N)) ∪ Lifted (Opened (V ⋄ E)) ∪ Lifted
      (Opened ((V ⋄ T) ⋄ I)))
      (Lifted (Opened (V ⋄ (E ∪ T ⋄ (I ∪ N)))))
  typed ts ms (inl x) = lifted_into _ _ (second _ _ _ (second _ _ _ (λ us e y.
      second V _ _ (λ vs f z. inr (second T _ _ (λ ws g w. inr w) vs f z)) us e
      (assoc V T N us e y)))) ts ms x
  typed ts ms (inr (inl x)) = lifted_into _ _ (second _ _ _ (second _ _ _
      (second V _ _ (λ vs f z. inl z)))) ts ms x
  typed ts ms (inr (inr x)) = lifted_into _ _ (second _ _ _ (second _ _ _ (λ us e y.
      second V _ _ (λ vs f z. inr (second T _ _ (λ ws g w. inl w) vs f z)) us e
      (assoc V T I us e y)))) ts ms x

  pub typed_back : Into (Lifted (Opened (V ⋄ (E ∪ T ⋄ (I ∪ N)))))
      (Lifted (Opened ((V ⋄ T) ⋄ N)) ∪ Lifted (Opened (V ⋄ E)) ∪ Lifted (Opened ((V ⋄ T) ⋄ I)))
  typed_back ts ms (
    t,
    us,
    e,
    s,
    c,
    (
      u1,
      v1,
      e1,
      f1,
      s1,
      c1,
      b1,
      (u2, v2, e2, f2, s2, c2, b2, (u3, v3, e3, f3, s3, c3, v, x)),
    ),
  ) =
      elim x [
        | inl y ↦ inr (inl (
          t,
          us,
          e,
          s,
          c,
          (
            u1,
            v1,
            e1,
            f1,
            s1,
            c1,
            b1,
            (u2, v2, e2, f2, s2, c2, b2, (u3, v3, e3, f3, s3, c3, v, y)),
          ),
        ))
        | inr (u4, v4, e4, f4, s4, c4, w, y) ↦ elim y [
          | inl z ↦ inr (inr (
            t,
            us,
            e,
            s,
            c,
            (
              u1,
              v1,
              e1,
              f1,
              s1,
              c1,
              b1,
              (
                u2,
                v2,
                e2,
                f2,
                s2,
                c2,
                b2,
                unassoc V T I v2 f2 (u3, v3, e3, f3, s3, c3, v, (u4, v4, e4, f4, s4, c4, w, z)),
              ),
            ),
          ))
          | inr z ↦ inl (
            t,
            us,
            e,
            s,
            c,
            (
              u1,
              v1,
              e1,
              f1,
              s1,
              c1,
              b1,
              (
                u2,
                v2,
                e2,
                f2,
                s2,
                c2,
                b2,
                unassoc V T N v2 f2 (u3, v3, e3, f3, s3, c3, v, (u4, v4, e4, f4, s4, c4, w, z)),
              ),
            ),
          )
        ]
      ]

module _ (V E I N : Lang) where
  pub untyped : Into (Lifted (Opened (V ⋄ N)) ∪ Lifted (Opened (V ⋄ E)) ∪ Lifted (Opened (V ⋄ I)))
      (Lifted (Opened (V ⋄ (E ∪ I ∪ N))))
  untyped ts ms (inl x) = lifted_into _ _ (second _ _ _ (second _ _ _
      (second V _ _ (λ vs f z. inr (inr z))))) ts ms x
  untyped ts ms (inr (inl x)) = lifted_into _ _ (second _ _ _ (second _ _ _
      (second V _ _ (λ vs f z. inl z)))) ts ms x
  untyped ts ms (inr (inr x)) = lifted_into _ _ (second _ _ _ (second _ _ _
      (second V _ _ (λ vs f z. inr (inl z))))) ts ms x

  pub untyped_back : Into (Lifted (Opened (V ⋄ (E ∪ I ∪ N))))
      (Lifted (Opened (V ⋄ N)) ∪ Lifted (Opened (V ⋄ E)) ∪ Lifted (Opened (V ⋄ I)))
  untyped_back ts ms (
    t,
    us,
    e,
    s,
    c,
    (
      u1,
      v1,
      e1,
      f1,
      s1,
      c1,
      b1,
      (u2, v2, e2, f2, s2, c2, b2, (u3, v3, e3, f3, s3, c3, v, x)),
    ),
  ) =
      elim x [
        | inl y ↦ inr (inl (
          t,
          us,
          e,
          s,
          c,
          (
            u1,
            v1,
            e1,
            f1,
            s1,
            c1,
            b1,
            (u2, v2, e2, f2, s2, c2, b2, (u3, v3, e3, f3, s3, c3, v, y)),
          ),
        ))
        | inr y ↦ elim y [
          | inl z ↦ inr (inr (
            t,
            us,
            e,
            s,
            c,
            (
              u1,
              v1,
              e1,
              f1,
              s1,
              c1,
              b1,
              (u2, v2, e2, f2, s2, c2, b2, (u3, v3, e3, f3, s3, c3, v, z)),
            ),
          ))
          | inr z ↦ inl (
            t,
            us,
            e,
            s,
            c,
            (
              u1,
              v1,
              e1,
              f1,
              s1,
              c1,
              b1,
              (u2, v2, e2, f2, s2, c2, b2, (u3, v3, e3, f3, s3, c3, v, z)),
            ),
          )
        ]
      ]

-- ---- a member: a variable may be the first word of a path

both_true : (a b : Bool) → a ≡ true → b ≡ true → (a && b) ≡ true
both_true true b p q = q
both_true false b p q = absurd cc

name_of : (k : Kind) → IsTrue (is_ident k) → is_variable k ≡ false → IsTrue (is_name k)
name_of k h e = both_true (is_ident k) (not (is_variable k)) h (ap not e)

variable_is_ident : (k : Kind) → IsTrue (is_variable k) → IsTrue (is_ident k)
variable_is_ident k h = within_at is_variable is_ident refl k h

name_is_ident : (k : Kind) → IsTrue (is_name k) → IsTrue (is_ident k)
name_is_ident k h = and_first (is_ident k) (not (is_variable k)) h

module _ (L A R : Lang) where
  abbrev Idents : Lang
  Idents = Token is_ident [] []

  abbrev Variables : Lang
  Variables = Token is_variable [] []

  abbrev Names : Lang
  Names = Token is_name [] []

  pub words : Into (L ⋄ A ∪ Variables ⋄ A ∪ Idents ⋄ R) (L ⋄ A ∪ Variables ⋄ (R ∪ A) ∪ Names ⋄ R)
  words ts ms (inl x) = inl x
  words ts ms (inr (inl x)) = inr (inl (second Variables _ _ (λ us e y. inr y) ts ms x))
  words ts ms (inr (inr (us, vs, e, f, s, c, (t, h, k, p), r))) =
      go (is_variable (kind_of_decorated t)) refl
    where
      go : (b : Bool) → is_variable (kind_of_decorated t) ≡ b
          → (L ⋄ A ∪ Variables ⋄ (R ∪ A) ∪ Names ⋄ R) ts ms
      go true q = inr (inl (us, vs, e, f, s, c, (t, h, k, q), inl r))
      go false q = inr (inr (us, vs, e, f, s, c, (t, h, k, name_of (kind_of_decorated t) p q), r))

  pub words_back : Into (L ⋄ A ∪ Variables ⋄ (R ∪ A) ∪ Names ⋄ R)
      (L ⋄ A ∪ Variables ⋄ A ∪ Idents ⋄ R)
  words_back ts ms (inl x) = inl x
  words_back ts ms (inr (inl (us, vs, e, f, s, c, (t, h, k, p), inr a))) =
      inr (inl (us, vs, e, f, s, c, (t, h, k, p), a))
  words_back ts ms (inr (inl (us, vs, e, f, s, c, (t, h, k, p), inl r))) =
      inr (inr (us, vs, e, f, s, c, (t, h, k, variable_is_ident (kind_of_decorated t) p), r))
  words_back ts ms (inr (inr (us, vs, e, f, s, c, (t, h, k, p), r))) =
      inr (inr (us, vs, e, f, s, c, (t, h, k, name_is_ident (kind_of_decorated t) p), r))

-- ---- rows with documents
abbrev pub To : W.Lang → W.Lang → Type 0
To X Y = (ts : List Decorated) (d : Doc) → X ts d → Y ts d

pub right : (X Y Z : W.Lang) → To ((X ⊙ Y) ⊙ Z) (X ⊙ Y ⊙ Z)
right X Y Z ts d (us, vs, e, f, s, c, (us', vs', e', f', s', c', x, y), z) = (
  us',
  vs' ++ vs,
  e',
  f' · f,
  s ∙ (ap (λ w. w ++ vs) s' ∙ append_assoc us' vs' vs),
  c ∙ (ap (λ w. w · f) c' ∙ dot_assoc e' f' f),
  x,
  (vs', vs, f', f, refl, refl, y, z),
)

pub left : (X Y Z : W.Lang) → To (X ⊙ Y ⊙ Z) ((X ⊙ Y) ⊙ Z)
left X Y Z ts d (us, vs, e, f, s, c, x, (us', vs', e', f', s', c', y, z)) = (
  us ++ us',
  vs',
  e · e',
  f',
  s ∙ (ap (λ w. us ++ w) s' ∙ sym (append_assoc us us' vs')),
  c ∙ (ap (λ w. e · w) c' ∙ sym (dot_assoc e e' f')),
  (us, us', e, e', refl, refl, x, y),
  z,
)

pub after : (X Y Y' : W.Lang) → To Y Y' → To (X ⊙ Y) (X ⊙ Y')
after X Y Y' g ts d (us, vs, e, f, s, c, x, y) = (us, vs, e, f, s, c, x, g vs f y)

-- a token first, whose leading lines are before the rest
module _ (P : List ℕ → Type 0) (next : Doc) where
  pub led : (X : W.Lang) → To (W.Token P next ⊙ X) (Led (W.Token P next ⊙ X))
  led X ts d (us, vs, e, f, s, c, (t, h, k, p), x) = (
    t,
    vs,
    (T.tok t · T.trail t next) · f,
    s ∙ ap (λ z. z ++ vs) h,
    c ∙ (ap (λ z. z · f) k ∙ dot_assoc (T.lead t) (T.tok t · T.trail t next) f),
    (
      bare_token t ∷ [],
      vs,
      T.tok t · T.trail t next,
      f,
      refl,
      refl,
      (bare_token t, refl, refl, p),
      x,
    ),
  )

  pub led_back : (X : W.Lang) → To (Led (W.Token P next ⊙ X)) (W.Token P next ⊙ X)
  led_back X ts d (t, us, e, s, c, (us', vs', e', f', s', c', (u, h, k, p), x)) =
      let q : bare_token t ∷ us ≡ u ∷ vs' = s' ∙ ap (λ z. z ++ vs') h in
      let a : bare_token t ≡ u = cc in
      let b : us ≡ vs' = cc in (
        t ∷ [],
        vs',
        T.C t next,
        f',
        s ∙ ap (λ z. t ∷ z) b,
        c ∙ (ap (λ z. T.lead t · z) (c' ∙ ap (λ z. z · f') (k ∙ ap (λ z. T.C z next) (sym a)))
            ∙ sym (dot_assoc (T.lead t) (T.tok t · T.trail t next) f')),
        (t, refl, refl, subst (λ z. P z.text) (sym a) p),
        x,
      )

  pub led_alone : To (W.Token P next) (Led (W.Token P next))
  led_alone ts d (t, h, k, p) = (
    t,
    [],
    T.tok t · T.trail t next,
    h,
    k,
    (bare_token t, refl, refl, p),
  )

  pub led_alone_back : To (Led (W.Token P next)) (W.Token P next)
  led_alone_back ts d (t, us, e, s, c, (u, h, k, p)) =
      let a : bare_token t ≡ u = cc in
      let b : us ≡ [] = cc in (
        t,
        s ∙ ap (λ z. t ∷ z) b,
        c ∙ ap (λ z. T.lead t · z) (k ∙ ap (λ z. T.C z next) (sym a)),
        subst (λ z. P z.text) (sym a) p,
      )

-- literals, variables, entities and called paths
module _ (A B C D E F V I M S N Q K : W.Lang) where
  abbrev pub Primaries : W.Lang
  Primaries = A ⊕ B ⊕ C ⊕ D ⊕ E ⊕ F ⊕ V ⊕ (I ⊙ M) ⊙ S ⊙ N

  abbrev pub Literals : W.Lang
  Literals = A ⊕ B ⊕ C ⊕ D ⊕ E ⊕ F

  abbrev pub Regular : W.Lang
  Regular = Literals ⊙ Q ⊕ V ⊙ Q ⊕ I ⊙ M ⊙ (S ⊙ N ⊙ Q ⊕ K)

  primary : (ts us vs : List Decorated) (d e f : Doc) → ts ≡ us ++ vs → d ≡ e · f → Q vs f
      → Primaries us e → Regular ts d
  primary ts us vs d e f s c q (inl x) = inl (us, vs, e, f, s, c, inl x, q)
  primary ts us vs d e f s c q (inr (inl x)) = inl (us, vs, e, f, s, c, inr (inl x), q)
  primary ts us vs d e f s c q (inr (inr (inl x))) = inl (us, vs, e, f, s, c, inr (inr (inl x)), q)
  primary ts us vs d e f s c q (inr (inr (inr (inl x)))) =
      inl (us, vs, e, f, s, c, inr (inr (inr (inl x))), q)
  primary ts us vs d e f s c q (inr (inr (inr (inr (inl x))))) =
      inl (us, vs, e, f, s, c, inr (inr (inr (inr (inl x)))), q)
  primary ts us vs d e f s c q (inr (inr (inr (inr (inr (inl x)))))) =
      inl (us, vs, e, f, s, c, inr (inr (inr (inr (inr x)))), q)
  primary ts us vs d e f s c q (inr (inr (inr (inr (inr (inr (inl x))))))) =
      inr (inl (us, vs, e, f, s, c, x, q))
  primary ts us vs d e f s c q (inr (inr (inr (inr (inr (inr (inr x))))))) =
      let a : ((I ⊙ M) ⊙ (S ⊙ N) ⊙ Q) ts d = right (I ⊙ M) (S ⊙ N) Q ts d (us, vs, e, f, s, c, x, q)
      in
      let b : ((I ⊙ M) ⊙ S ⊙ N ⊙ Q) ts d = after (I ⊙ M) _ _ (right S N Q) ts d a in
      inr (inr (after I _ _ (after M _ _ (λ ws g y. inl y)) ts d (right I M (S ⊙ N ⊙ Q) ts d b)))

  pub members : To (W.Group (Primaries ⊙ Q) ⊕ W.Group ((I ⊙ M) ⊙ K)) (W.Group Regular)
  members ts d (inl (e, c, (us, vs, x, y, s, h, p, q))) = (e, c, primary ts us vs e x y s h q p)
  members ts d (inr (e, c, x)) = (
    e,
    c,
    inr (inr (after I _ _ (after M _ _ (λ ws g y. inr y)) ts e
        (right I M K ts e x))),
  )

  literal : (ts us vs : List Decorated) (d e f : Doc) → ts ≡ us ++ vs → d ≡ e · f → Q vs f
      → Literals us e → (Primaries ⊙ Q) ts d
  literal ts us vs d e f s c q (inl x) = (us, vs, e, f, s, c, inl x, q)
  literal ts us vs d e f s c q (inr (inl x)) = (us, vs, e, f, s, c, inr (inl x), q)
  literal ts us vs d e f s c q (inr (inr (inl x))) = (us, vs, e, f, s, c, inr (inr (inl x)), q)
  literal ts us vs d e f s c q (inr (inr (inr (inl x)))) =
      (us, vs, e, f, s, c, inr (inr (inr (inl x))), q)
  literal ts us vs d e f s c q (inr (inr (inr (inr (inl x))))) =
      (us, vs, e, f, s, c, inr (inr (inr (inr (inl x)))), q)
  literal ts us vs d e f s c q (inr (inr (inr (inr (inr x))))) =
      (us, vs, e, f, s, c, inr (inr (inr (inr (inr (inl x))))), q)

  pub members_back : To (W.Group Regular) (W.Group (Primaries ⊙ Q) ⊕ W.Group ((I ⊙ M) ⊙ K))
  members_back ts d (e, c, inl (us, vs, x, y, s, h, l, q)) =
      inl (e, c, literal ts us vs e x y s h q l)
  members_back ts d (e, c, inr (inl (us, vs, x, y, s, h, v, q))) =
      inl (e, c, (us, vs, x, y, s, h, inr (inr (inr (inr (inr (inr (inl v)))))), q))
  members_back ts d (e, c, inr (inr (us, vs, x, y, s, h, i, (us', vs', x', y', s', h', m, inr k))))
      =
      inr (e, c, left I M K ts e (us, vs, x, y, s, h, i, (us', vs', x', y', s', h', m, k)))
  members_back ts d (e, c, inr (inr (us, vs, x, y, s, h, i, (us', vs', x', y', s', h', m, inl r))))
      =
      let a : ((I ⊙ M) ⊙ S ⊙ N ⊙ Q) ts e = left I M (S ⊙ N ⊙ Q) ts e
      (us, vs, x, y, s, h, i, (us', vs', x', y', s', h', m, r)) in
      let b : ((I ⊙ M) ⊙ (S ⊙ N) ⊙ Q) ts e = after (I ⊙ M) _ _ (left S N Q) ts e a in
      inl (e, c, after_first ts e (left (I ⊙ M) (S ⊙ N) Q ts e b))
    where
      after_first : To (((I ⊙ M) ⊙ S ⊙ N) ⊙ Q) (Primaries ⊙ Q)
      after_first ts e (us, vs, x, y, s, h, p, q) = (
        us,
        vs,
        x,
        y,
        s,
        h,
        inr
            (inr (inr (inr (inr (inr (inr p)))))),
        q,
      )

-- relations
module _ (A B C D E : W.Lang) where
  pub relations : To (A ⊙ B ⊕ W.Group (A ⊙ C) ⊕ W.Group (A ⊙ D) ⊕ W.Group (A ⊙ E))
      (A ⊙ B ⊕ W.Group (A ⊙ (C ⊕ D ⊕ E)))
  relations ts d (inl x) = inl x
  relations ts d (inr (inl (e, c, x))) = inr (e, c, after A _ _ (λ us f y. inl y) ts e x)
  relations ts d (inr (inr (inl (e, c, x)))) = inr (
    e,
    c,
    after A _ _ (λ us f y. inr (inl y)) ts e
        x,
  )
  relations ts d (inr (inr (inr (e, c, x)))) = inr (
    e,
    c,
    after A _ _ (λ us f y. inr (inr y)) ts e
        x,
  )

  pub relations_back : To (A ⊙ B ⊕ W.Group (A ⊙ (C ⊕ D ⊕ E)))
      (A ⊙ B ⊕ W.Group (A ⊙ C) ⊕ W.Group (A ⊙ D) ⊕ W.Group (A ⊙ E))
  relations_back ts d (inl x) = inl x
  relations_back ts d (inr (e, c, (us, vs, x, y, s, h, a, inl z))) =
      inr (inl (e, c, (us, vs, x, y, s, h, a, z)))
  relations_back ts d (inr (e, c, (us, vs, x, y, s, h, a, inr (inl z)))) =
      inr (inr (inl (e, c, (us, vs, x, y, s, h, a, z))))
  relations_back ts d (inr (e, c, (us, vs, x, y, s, h, a, inr (inr z)))) =
      inr (inr (inr (e, c, (us, vs, x, y, s, h, a, z))))

-- a with c, or in a group with b
module _ (X Y Z : Lang) where
  abbrev pub Told : Lang
  Told = Put (begin ∷ []) ⋄ X ⋄ (Y ⋄ Put (end_group ∷ []) ∪ Z ⋄ Put (end_nothing ∷ []))

  late_there : Into (Between begin end_nothing (X ⋄ Z) ∪ Between begin end_group (X ⋄ Y)) Told
  late_there ts ms (inl r) = second _ _ _ (λ us e s. second X _ _ (λ vs f t. inr t) us e
      (assoc X Z _ us e s)) ts ms r
  late_there ts ms (inr r) = second _ _ _ (λ us e s. second X _ _ (λ vs f t. inl t) us e
      (assoc X Y _ us e s)) ts ms r

  late_back : Into Told (Between begin end_nothing (X ⋄ Z) ∪ Between begin end_group (X ⋄ Y))
  late_back ts ms (us, vs, e, f, s, c, b, (us', vs', e', f', s', c', m, inl r)) =
      inr (us, vs, e, f, s, c, b, unassoc X Y _ vs f (us', vs', e', f', s', c', m, r))
  late_back ts ms (us, vs, e, f, s, c, b, (us', vs', e', f', s', c', m, inr r)) =
      inl (us, vs, e, f, s, c, b, unassoc X Z _ vs f (us', vs', e', f', s', c', m, r))

pub late : {A B C : W.Lang} {X Y Z : Lang} → Same A X → Same B Y → Same C Z
    → Same (A ⊙ C ⊕ W.Group (A ⊙ B)) (Told X Y Z)
late {X = X} {Y = Y} {Z = Z} x y z = written (late_back X Y Z) (late_there X Y Z)
    (ungrouped (x then z) or group_same (x then y))

-- the end of a policy
module _ (M C D E N S : W.Lang) where
  pub ends : To (M ⊙ (C ⊕ D ⊙ E ⊙ N) ⊙ S) (M ⊙ (D ⊙ E ⊙ N ⊙ S ⊕ C ⊙ S))
  ends = after M _ _ go
    where
      go : To ((C ⊕ D ⊙ E ⊙ N) ⊙ S) (D ⊙ E ⊙ N ⊙ S ⊕ C ⊙ S)
      go ts d (us, vs, e, f, s, c, inl x, y) = inr (us, vs, e, f, s, c, x, y)
      go ts d (us, vs, e, f, s, c, inr x, y) =
          inl (after D _ _ (right E N S) ts d (right D (E ⊙ N) S ts d (us, vs, e, f, s, c, x, y)))

  pub ends_back : To (M ⊙ (D ⊙ E ⊙ N ⊙ S ⊕ C ⊙ S)) (M ⊙ (C ⊕ D ⊙ E ⊙ N) ⊙ S)
  ends_back = after M _ _ go
    where
      wide : To ((D ⊙ E ⊙ N) ⊙ S) ((C ⊕ D ⊙ E ⊙ N) ⊙ S)
      wide ts d (us, vs, e, f, s, c, x, y) = (us, vs, e, f, s, c, inr x, y)

      go : To (D ⊙ E ⊙ N ⊙ S ⊕ C ⊙ S) ((C ⊕ D ⊙ E ⊙ N) ⊙ S)
      go ts d (inl x) = wide ts d (left D (E ⊙ N) S ts d (after D _ _ (left E N S) ts d x))
      go ts d (inr (us, vs, e, f, s, c, x, y)) = (us, vs, e, f, s, c, inl x, y)
