-- Rows of trees, grouped differently.
use Rattle.std.proofs.Common.{refl, ap, sym, ◌∙◌, inl, inr, subst}
use Rattle.cedar_grammar.specs.Trees.{Label, Forest, none, join}
use Rattle.cedar_grammar.specs.Languages.{Lang, ◌⋄◌, ◌∪◌, Many, no_more, one_more, Maybe, Empty}
use Rattle.cedar_grammar.specs.Languages.{Branch}
use Rattle.cedar_grammar.specs.Grammar as T
use Rattle.std.specs.Prelude.{Bool, List, ℕ}
use Rattle.cedar_grammar.proofs.Readers.Equations.{join_none, join_assoc}

module _ {A : Type 0} where
  -- (X Y) Z for X Y Z
  pub assoc : (X Y Z : Lang A) (f : Forest Label A) → (X ⋄ Y ⋄ Z) f → ((X ⋄ Y) ⋄ Z) f
  assoc X Y Z f (g, h, e, x, (u, v, d, y, z)) =
      (join g u, v, e ∙ (ap (λ q. join g q) d ∙ sym (join_assoc g u v)), (g, u, refl, x, y), z)

  pub unassoc : (X Y Z : Lang A) (f : Forest Label A) → ((X ⋄ Y) ⋄ Z) f → (X ⋄ Y ⋄ Z) f
  unassoc X Y Z f (g, h, e, (u, v, d, x, y), z) =
      (u, join v h, e ∙ (ap (λ q. join q h) d ∙ join_assoc u v h), x, (v, h, refl, y, z))

  pub alone : (X : Lang A) (f : Forest Label A) → X f → (X ⋄ Empty) f
  alone X f x = (f, none, sym (join_none f), x, refl)

  pub only : (X : Lang A) (f : Forest Label A) → (X ⋄ Empty) f → X f
  only X f (g, h, e, x, d) = subst X (sym (e ∙ (ap (λ q. join g q) d ∙ join_none g))) x

  pub seq_map : (X X' Y Y' : Lang A) → ((f : Forest Label A) → X f → X' f)
      → ((f : Forest Label A) → Y f → Y' f) → (f : Forest Label A) → (X ⋄ Y) f → (X' ⋄ Y') f
  seq_map X X' Y Y' a b f (g, h, e, x, y) = (g, h, e, a g x, b h y)

  -- [X] {X} for {X}
  pub unrolled : (X : Lang A) (f : Forest Label A) → Many X f → Maybe (X ⋄ Many X) f
  unrolled X f (no_more _ e) = inr e
  unrolled X f (one_more _ g h e x m) = inl (g, h, e, x, m)

  pub rolled : (X : Lang A) (f : Forest Label A) → Maybe (X ⋄ Many X) f → Many X f
  rolled X f (inr e) = no_more f e
  rolled X f (inl (g, h, e, x, m)) = one_more f g h e x m

  pub peeled : (X Y P C : Lang A) → ((f : Forest Label A) → Y f → (P ∪ C) f) → (f : Forest Label A)
      → (X ∪ Y) f → ((X ∪ P) ∪ C) f
  peeled X Y P C k f (inl x) = inl (inl x)
  peeled X Y P C k f (inr y) = elim (k f y) [ inl p ↦ inl (inr p) | inr c ↦ inr c ]

  unpeeled : (X Y P C : Lang A) → ((f : Forest Label A) → (P ∪ C) f → Y f) → (f : Forest Label A)
      → ((X ∪ P) ∪ C) f → (X ∪ Y) f
  unpeeled X Y P C k f (inl (inl x)) = inl x
  unpeeled X Y P C k f (inl (inr p)) = inr (k f (inl p))
  unpeeled X Y P C k f (inr c) = inr (k f (inr c))

  -- the primaries but a called path
  module _ (text : A → List ℕ) (room : Bool) (Inner : Lang A) where
    abbrev pub Primaries : Lang A
    Primaries = Branch Label.primary (Branch Label.boolean (T.Tok text "true" ∪ T.Tok text "false"))
        ∪ Branch Label.primary (Branch Label.number (T.NUMBER text))
        ∪ Branch Label.primary (Branch Label.string (T.Literal text))
        ∪ Branch Label.primary (Branch Label.parens
        (T.Deeper text room Inner "(" (Inner ⋄ T.Tok text ")")))
        ∪ Branch Label.primary (Branch Label.list
        (T.Deeper text room Inner "[" (Maybe (T.Exprs text room Inner) ⋄ T.Tok text "]")))
        ∪ Branch Label.primary (Branch Label.fields
        (T.Deeper text room Inner "{" (Maybe (T.Items text (T.Init text room Inner))
        ⋄ T.Tok text "}")))
        ∪ Branch Label.primary (Branch Label.name
        (Branch Label.ident (T.Tok text "principal" ∪ T.Tok text "action"
        ∪ T.Tok text "resource" ∪ T.Tok text "context")))
        ∪ T.Entity text

    abbrev pub PathCall : Lang A
    PathCall = Branch Label.primary (T.Path text) ⋄ T.Call text room Inner

    pub primaries : (f : Forest Label A) → T.Primary text room Inner f → (Primaries ∪ PathCall) f
    primaries =
        peeled _ _ _ _ (peeled _ _ _ _
        (peeled _ _ _ _ (peeled _ _ _ _
        (peeled _ _ _ _ (peeled _ _ _ _ (peeled _ _ _ _ (λ f x. x)))))))

    pub primaries_back : (f : Forest Label A) → (Primaries ∪ PathCall) f
        → T.Primary text room Inner f
    primaries_back = unpeeled _ _ _ _
        (unpeeled _ _ _ _ (unpeeled _ _ _ _
        (unpeeled _ _ _ _ (unpeeled _ _ _ _ (unpeeled _ _ _ _ (unpeeled _ _ _ _ (λ f x. x)))))))

  -- a member: a primary with accesses, or a call with accesses
  pub members : (Q P N C S : Lang A) → ((f : Forest Label A) → Q f → (P ∪ N ⋄ C) f)
      → (f : Forest Label A) → (Q ⋄ Many S) f → (P ⋄ Many S ∪ N ⋄ C ⋄ Many S) f
  members Q P N C S k f (g, h, e, q, m) = elim (k g q) [
    | inl p ↦ inl (g, h, e, p, m)
    | inr (u, v, d, n, c) ↦ inr (
      u,
      join v h,
      e ∙ (ap (λ z. join z h) d ∙ join_assoc u v h),
      n,
      (v, h, refl, c, m),
    )
  ]

  pub members_back : (Q P N C S : Lang A) → ((f : Forest Label A) → (P ∪ N ⋄ C) f → Q f)
      → (f : Forest Label A) → (P ⋄ Many S ∪ N ⋄ C ⋄ Many S) f → (Q ⋄ Many S) f
  members_back Q P N C S k f (inl (g, h, e, p, m)) = (g, h, e, k g (inl p), m)
  members_back Q P N C S k f (inr (g, h, e, n, (u, v, d, c, m))) = (
    join g u,
    v,
    e ∙ (ap (λ z. join g z) d ∙ sym (join_assoc g u v)),
    k (join g u) (inr (g, u, refl, n, c)),
    m,
  )

  pub relations_back : (X B C D E : Lang A) (f : Forest Label A)
      → (X ⋄ Maybe B ∪ X ⋄ C ∪ X ⋄ D ∪ X ⋄ E) f → (X ⋄ Maybe (B ∪ C ∪ D ∪ E)) f
  relations_back X B C D E f (inl (g, h, e, x, inr n)) = (g, h, e, x, inr n)
  relations_back X B C D E f (inl (g, h, e, x, inl b)) = (g, h, e, x, inl (inl b))
  relations_back X B C D E f (inr (inl (g, h, e, x, c))) = (g, h, e, x, inl (inr (inl c)))
  relations_back X B C D E f (inr (inr (inl (g, h, e, x, d)))) =
      (g, h, e, x, inl (inr (inr (inl d))))
  relations_back X B C D E f (inr (inr (inr (g, h, e, x, y)))) =
      (g, h, e, x, inl (inr (inr (inr y))))

  -- relations and variables
  pub relations : (X B C D E : Lang A) (f : Forest Label A) → (X ⋄ Maybe (B ∪ C ∪ D ∪ E)) f
      → (X ⋄ Maybe B ∪ X ⋄ C ∪ X ⋄ D ∪ X ⋄ E) f
  relations X B C D E f (g, h, e, x, inr n) = inl (g, h, e, x, inr n)
  relations X B C D E f (g, h, e, x, inl (inl b)) = inl (g, h, e, x, inl b)
  relations X B C D E f (g, h, e, x, inl (inr (inl c))) = inr (inl (g, h, e, x, c))
  relations X B C D E f (g, h, e, x, inl (inr (inr (inl d)))) = inr (inr (inl (g, h, e, x, d)))
  relations X B C D E f (g, h, e, x, inl (inr (inr (inr y)))) = inr (inr (inr (g, h, e, x, y)))

  pub variables : (V E O I P N : Lang A) (f : Forest Label A)
      → (V ⋄ Maybe (E ⋄ O ∪ I ⋄ P ⋄ Maybe (N ⋄ O) ∪ N ⋄ O)) f
      → (V ⋄ Maybe (I ⋄ P) ∪ (V ⋄ E) ⋄ O ∪ ((V ⋄ Maybe (I ⋄ P)) ⋄ N) ⋄ O) f
  variables V E O I P N f (g, h, e, v, inr n) = inl (g, h, e, v, inr n)
  variables V E O I P N f (g, h, e, v, inl (inl o)) = inr (inl (assoc V E O f (g, h, e, v, o)))
  variables V E O I P N f (g, h, e, v, inl (inr (inl (j, k, d, i, (m, n, c, p, inr b))))) =
      inl (g, h, e, v, inl (only (I ⋄ P) h (assoc I P Empty h (j, k, d, i, (m, n, c, p, b)))))
  variables V E O I P N f (g, h, e, v, inl (inr (inl (j, k, d, i, (m, n, c, p, inl b))))) =
      let a = assoc I P (N ⋄ O) h (j, k, d, i, (m, n, c, p, b)) in
      let r = assoc V (I ⋄ P) (N ⋄ O) f (g, h, e, v, a) in
      inr (inr (assoc (V ⋄ Maybe (I ⋄ P)) N O f
      (seq_map (V ⋄ I ⋄ P) (V ⋄ Maybe (I ⋄ P)) (N ⋄ O) (N ⋄ O)
      (seq_map V V (I ⋄ P) (Maybe (I ⋄ P)) (λ f x. x) (λ f x. inl x)) (λ f x. x) f r)))
  variables V E O I P N f (g, h, e, v, inl (inr (inr b))) =
      inr (inr (assoc (V ⋄ Maybe (I ⋄ P)) N O f (
        g,
        h,
        e,
        seq_map V V Empty (Maybe (I ⋄ P)) (λ f x. x) (λ f x. inr x) g (alone V g v),
        b,
      )))

  pub actions : (V E O N L : Lang A) (f : Forest Label A) → (V ⋄ Maybe (E ⋄ O ∪ N ⋄ L)) f
      → (V ∪ (V ⋄ E) ⋄ O ∪ (V ⋄ N) ⋄ L) f
  actions V E O N L f (g, h, e, v, inr n) = inl (only V f (g, h, e, v, n))
  actions V E O N L f (g, h, e, v, inl (inl o)) = inr (inl (assoc V E O f (g, h, e, v, o)))
  actions V E O N L f (g, h, e, v, inl (inr n)) = inr (inr (assoc V N L f (g, h, e, v, n)))

  -- the second part by this, and then grouped to the left
  right : (X Y Z : Lang A) → ((f : Forest Label A) → Y f → Z f) → (f : Forest Label A) → (X ⋄ Y) f
      → (X ⋄ Z) f
  right X Y Z k f (g, h, e, x, y) = (g, h, e, x, k h y)

  pulled : (X Y Y' Z : Lang A) → ((f : Forest Label A) → Y f → (Y' ⋄ Z) f) → (f : Forest Label A)
      → (X ⋄ Y) f → ((X ⋄ Y') ⋄ Z) f
  pulled X Y Y' Z k f x = assoc X Y' Z f (right X Y (Y' ⋄ Z) k f x)

  ends : (Q S Z : Lang A) (f : Forest Label A) → (Q ⋄ Many S ⋄ Z) f → ((Q ∪ Q ⋄ S ⋄ Many S) ⋄ Z) f
  ends Q S Z f (g, h, e, q, (u, v, d, m, z)) = elim (unrolled S u m) [
    | inl y ↦ (let r = assoc Q (S ⋄ Many S) Z f (g, h, e, q, (u, v, d, y, z)) in
        (r.0, r.1, r.2, inr r.3, r.4))
    | inr n ↦ (g, v, e ∙ ap (λ x. join g x) (d ∙ ap (λ x. join x v) n), inl q, z)
  ]

  -- a policy: its head, its scope and its conditions
  pub policies : (M F L P C X D R K Q S Z : Lang A) (f : Forest Label A)
      → (M ⋄ F ⋄ L ⋄ P ⋄ C ⋄ X ⋄ D ⋄ R ⋄ K ⋄ Q ⋄ Many S ⋄ Z) f
      → (M ⋄ (F ⋄ L) ⋄ (P ⋄ C ⋄ X ⋄ D ⋄ R) ⋄ K ⋄ (Q ∪ Q ⋄ S ⋄ Many S) ⋄ Z) f
  policies M F L P C X D R K Q S Z =
      right M _ _ (pulled F _ L _ (right L _ _ (pulled P _ (C ⋄ X ⋄ D ⋄ R) _
      (pulled C _ (X ⋄ D ⋄ R) _ (pulled X _ (D ⋄ R) _
      (pulled D _ R _ (right R _ _ (right K _ _ (ends Q S Z)))))))))

  -- ---- back
  pub variables_back : (V E O I P N : Lang A) (f : Forest Label A)
      → (V ⋄ Maybe (I ⋄ P) ∪ (V ⋄ E) ⋄ O ∪ ((V ⋄ Maybe (I ⋄ P)) ⋄ N) ⋄ O) f
      → (V ⋄ Maybe (E ⋄ O ∪ I ⋄ P ⋄ Maybe (N ⋄ O) ∪ N ⋄ O)) f
  variables_back V E O I P N f (inl (g, h, e, v, inr n)) = (g, h, e, v, inr n)
  variables_back V E O I P N f (inl (g, h, e, v, inl y)) = (
    g,
    h,
    e,
    v,
    inl (inr (inl (unassoc I P (Maybe (N ⋄ O)) h
        (seq_map (I ⋄ P) (I ⋄ P) Empty (Maybe (N ⋄ O)) (λ f x. x) (λ f x. inr x) h
        (alone (I ⋄ P) h y))))),
  )
  variables_back V E O I P N f (inr (inl y)) = let r = unassoc V E O f y in
      (r.0, r.1, r.2, r.3, inl (inl r.4))
  variables_back V E O I P N f (inr (inr y)) =
      back (unassoc V (Maybe (I ⋄ P)) (N ⋄ O) f (unassoc (V ⋄ Maybe (I ⋄ P)) N O f y))
    where
      back : (V ⋄ Maybe (I ⋄ P) ⋄ N ⋄ O) f → (V ⋄ Maybe (E ⋄ O ∪ I ⋄ P ⋄ Maybe (N ⋄ O) ∪ N ⋄ O)) f
      back (g, h, e, v, (u, w, d, inr m, o)) =
          (g, w, e ∙ (ap (λ z. join g z) d ∙ ap (λ z. join g (join z w)) m), v, inl (inr (inr o)))
      back (g, h, e, v, (u, w, d, inl m, o)) =
          (g, h, e, v, inl (inr (inl (unassoc I P (Maybe (N ⋄ O)) h (u, w, d, m, inl o)))))

  pub actions_back : (V E O N L : Lang A) (f : Forest Label A) → (V ∪ (V ⋄ E) ⋄ O ∪ (V ⋄ N) ⋄ L) f
      → (V ⋄ Maybe (E ⋄ O ∪ N ⋄ L)) f
  actions_back V E O N L f (inl v) = let r = alone V f v in (r.0, r.1, r.2, r.3, inr r.4)
  actions_back V E O N L f (inr (inl y)) = let r = unassoc V E O f y in
      (r.0, r.1, r.2, r.3, inl (inl r.4))
  actions_back V E O N L f (inr (inr y)) = let r = unassoc V N L f y in
      (r.0, r.1, r.2, r.3, inl (inr r.4))

  pushed : (X Y Y' Z : Lang A) → ((f : Forest Label A) → (Y' ⋄ Z) f → Y f) → (f : Forest Label A)
      → ((X ⋄ Y') ⋄ Z) f → (X ⋄ Y) f
  pushed X Y Y' Z k f x = right X (Y' ⋄ Z) Y k f (unassoc X Y' Z f x)

  ends_back : (Q S Z : Lang A) (f : Forest Label A) → ((Q ∪ Q ⋄ S ⋄ Many S) ⋄ Z) f
      → (Q ⋄ Many S ⋄ Z) f
  ends_back Q S Z f (g, h, e, inl q, z) = (g, h, e, q, (none, h, refl, no_more none refl, z))
  ends_back Q S Z f (g, h, e, inr y, z) = let r = unassoc Q (S ⋄ Many S) Z f (g, h, e, y, z) in
      right Q _ _ (λ f (u, v, d, m, z). (u, v, d, rolled S u (inl m), z)) f r

  pub policies_back : (M F L P C X D R K Q S Z : Lang A) (f : Forest Label A)
      → (M ⋄ (F ⋄ L) ⋄ (P ⋄ C ⋄ X ⋄ D ⋄ R) ⋄ K ⋄ (Q ∪ Q ⋄ S ⋄ Many S) ⋄ Z) f
      → (M ⋄ F ⋄ L ⋄ P ⋄ C ⋄ X ⋄ D ⋄ R ⋄ K ⋄ Q ⋄ Many S ⋄ Z) f
  policies_back M F L P C X D R K Q S Z =
      right M _ _ (pushed F _ L _ (right L _ _ (pushed P _ (C ⋄ X ⋄ D ⋄ R) _
      (pushed C _ (X ⋄ D ⋄ R) _ (pushed X _ (D ⋄ R) _
      (pushed D _ R _ (right R _ _ (right K _ _ (ends_back Q S Z)))))))))

  -- an operand of two kinds
  module _ (text : A → List ℕ) where
    pub operands : (X Y : Lang A) (f : Forest Label A) → (T.Operand text Y ∪ T.Operand text X) f
        → T.Operand text (X ∪ Y) f
    operands X Y f (inl (g, e, (h, d, (k, c, (l, b, y))))) = (g, e, (h, d, (k, c, (l, b, inr y))))
    operands X Y f (inr (g, e, (h, d, (k, c, (l, b, x))))) = (g, e, (h, d, (k, c, (l, b, inl x))))

    pub operands_back : (X Y : Lang A) (f : Forest Label A) → T.Operand text (X ∪ Y) f
        → (T.Operand text Y ∪ T.Operand text X) f
    operands_back X Y f (g, e, (h, d, (k, c, (l, b, inr y)))) =
        inl (g, e, (h, d, (k, c, (l, b, y))))
    operands_back X Y f (g, e, (h, d, (k, c, (l, b, inl x)))) =
        inr (g, e, (h, d, (k, c, (l, b, x))))
