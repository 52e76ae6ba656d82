-- The variables of a scope are five tokens if and only if they begin as three bare variables do, with
-- what follows them.
use Rattle.std.proofs.Common.{◌≡◌, ℕ, ℤ, pos, ◌≤◌, Bool, true, false, ◌||◌, ◌&&◌, List, [], ◌∷◌, ◌++◌, length, length-append, refl, ap, sym, ◌∙◌, subst, inl, inr, ◌⊎◌, arith}
use Rattle.std.specs.Prelude.{codes}
use Prim.Native.String.{String}
use Rattle.cedar_tokens.specs.Listing.{Decorated}
use Rattle.cedar_tokens.specs.declared.kind.Kind.{Kind}
use Rattle.cedar_tokens.specs.declared.kind.Kind.TheVariants as K
use Rattle.cedar_tokens.specs.Kinds.{is}
use Rattle.cedar_tokens.specs.TokenKinds.{kind_of}
use Rattle.cedar_layout.specs.Layout.{Doc, nil, ◌·◌}
use Rattle.cedar_layout.specs.Layout as D
use Rattle.cedar_grammar.proofs.Booleans.{neither_first}
use Rattle.cedar_laws.specs.Table.{bare_token}
use Rattle.cedar_written.specs.Languages.{◌⋄◌ as ◌⊙◌, ◌∪◌ as ◌⊕◌}
use Rattle.cedar_written.specs.Languages as L
use Rattle.cedar_written.specs.Written as W
use Rattle.cedar_writer.specs.Languages.{looks}
use Rattle.cedar_writer.specs.Lines.{bare}
use Rattle.cedar_writer.proofs.Regrouped.{To}
use Rattle.cedar_writer.proofs.Regrouped as G

-- what may follow three bare variables
abbrev pub follows : Kind → Bool
follows k = is K.Comma k || is K.RParen k

-- rows that begin with a token that may not
record Opens (X : List Decorated → Doc → Type 0) : Type 0 where
  pub first : (ts : List Decorated) (d : Doc) → X ts d
      → (w : Decorated) × (rest : List Decorated) × (ts ≡ w ∷ rest)
      × (follows (kind_of w.text) ≡ false)

tok_opens : (s : String) → follows (kind_of (codes s)) ≡ false → Opens (W.Tok s)
tok_opens s h = record {
  first = λ ts d (t, e, c, p). (
    t,
    [],
    e,
    ap (λ z. follows (kind_of z)) p
        ∙ h,
  );
}

first_opens : {X Y : L.Lang} → Opens X → Opens (X ⊙ Y)
first_opens x = record {
  first = λ ts d (us, vs, e, f, s, c, m, n).
      (let a = x.first us e m in (a.0, a.1 ++ vs, s ∙ ap (λ z. z ++ vs) a.2, a.3));
}

put_opens : {X : L.Lang} (e : Doc) → Opens X → Opens (L.Put e ⊙ X)
put_opens e x = record {
  first = λ ts d (us, vs, g, f, s, c, m, n).
      (let a = x.first vs f n in (a.0, a.1, s ∙ (ap (λ z. z ++ vs) m.0 ∙ a.2), a.3));
}

mapped_opens : {g : Doc → Doc} {X : L.Lang} → Opens X → Opens (L.Mapped g X)
mapped_opens x = record { first = λ ts d (e, c, y). x.first ts e y }

maybe_opens : {X Y : L.Lang} → Opens X → Opens Y → Opens (L.Maybe X ⊙ Y)
maybe_opens {X} {Y} x y = record { first = go }
  where
    go : (ts : List Decorated) (d : Doc) → (L.Maybe X ⊙ Y) ts d
        → (w : Decorated) × (rest : List Decorated) × (ts ≡ w ∷ rest)
        × (follows (kind_of w.text) ≡ false)
    go ts d (us, vs, e, f, s, c, inl m, n) =
        let a = x.first us e m in (a.0, a.1 ++ vs, s ∙ ap (λ z. z ++ vs) a.2, a.3)
    go ts d (us, vs, e, f, s, c, inr m, n) =
        let a = y.first vs f n in (a.0, a.1, s ∙ (ap (λ z. z ++ vs) m.0 ∙ a.2), a.3)

-- a token and one that may not follow
record Longer (ts : List Decorated) : Type 0 where
  pub head : Decorated
  pub next : Decorated
  pub rest : List Decorated
  pub split : ts ≡ head ∷ next ∷ rest
  pub other : follows (kind_of next.text) ≡ false

-- a variable alone
record Alone (k : Kind) (ts : List Decorated) : Type 0 where
  pub head : Decorated
  pub split : ts ≡ head ∷ []
  pub kind : is k (kind_of head.text) ≡ true

record Longers (X : List Decorated → Doc → Type 0) : Type 0 where
  pub row : (ts : List Decorated) (d : Doc) → X ts d → Longer ts

tok_longers : (P : List ℕ → Type 0) (next : Doc) (X : L.Lang) → Opens X
    → Longers (L.Token P next ⊙ X)
tok_longers P next X x = record {
  row = λ ts d (us, vs, e, f, s, c, (t, h, k, p), y).
      (let a = x.first vs f y in
      record {
        head = t;
        next = a.0;
        rest = a.1;
        split = s
            ∙ (ap (λ z. z ++ vs) h ∙ ap (λ z. t ∷ z) a.2);
        other = a.3;
      });
}

first_longers : {X Y : L.Lang} → Longers X → Longers (X ⊙ Y)
first_longers x = record {
  row = λ ts d (us, vs, e, f, s, c, m, n).
      (let a = x.row us e m in
      record {
        head = a.head;
        next = a.next;
        rest = a.rest ++ vs;
        split = s
            ∙ ap (λ z. z ++ vs) a.split;
        other = a.other;
      });
}

mapped_longers : {g : Doc → Doc} {X : L.Lang} → Longers X → Longers (L.Mapped g X)
mapped_longers x = record { row = λ ts d (e, c, y). x.row ts e y }

led_longers : {X : L.Lang} → Longers X → Longers (L.LedGroup X)
led_longers {X} x = record { row = go }
  where
    go : (ts : List Decorated) (d : Doc) → L.LedGroup X ts d → Longer ts
    go [] d y = absurd y
    go (t ∷ ts) d (e, c, y) =
        let a = x.row (bare_token t ∷ ts) e y in
        let b : bare_token t ∷ ts ≡ a.head ∷ a.next ∷ a.rest = a.split in
        let q : ts ≡ a.next ∷ a.rest = cc in
        record {
          head = t;
          next = a.next;
          rest = a.rest;
          split = ap (λ z. t ∷ z) q;
          other =
              a.other;
        }

module _ (i : ℤ) where
  type_opens : Opens (W.TypePart i)
  type_opens = mapped_opens (mapped_opens (first_opens (mapped_opens
      (put_opens D.line (tok_opens "is" refl)))))

  -- a variable that is compared
  compared_longers : (P : List ℕ → Type 0) (next : Doc) (Y : L.Lang) (op : String)
      → follows (kind_of (codes op)) ≡ false
      → Longers (W.Compared i (L.Token P next) op Y)
  compared_longers P next Y op h = led_longers (first_longers
      (mapped_longers (tok_longers P next (L.Put D.line ⊙ W.Tok op)
      (put_opens D.line (tok_opens op h)))))

  typed_longers : (P : List ℕ → Type 0) (next : Doc) (Y : L.Lang) (op : String)
      → follows (kind_of (codes op)) ≡ false
      → Longers (W.Compared i (L.Token P next ⊙ L.Maybe (W.TypePart i)) op Y)
  typed_longers P next Y op h = led_longers (first_longers (mapped_longers (record {
    row = λ ts d y. (tok_longers P next (L.Maybe (W.TypePart i) ⊙ L.Put D.line ⊙ W.Tok op)
        (maybe_opens type_opens (put_opens D.line (tok_opens op h)))).row ts d (right ts d y);
  })))
    where
      right : To ((L.Token P next ⊙ L.Maybe (W.TypePart i)) ⊙ L.Put D.line ⊙ W.Tok op)
          (L.Token P next ⊙ L.Maybe (W.TypePart i) ⊙ L.Put D.line ⊙ W.Tok op)
      right = G.right _ _ _

  scoped_rows : (v slot : String) (k : Kind) → is k (kind_of (codes v)) ≡ true
      → (ts : List Decorated) (d : Doc)
      → W.Scoped i v slot ts d → Alone k ts ⊎ Longer ts
  scoped_rows v slot k h ts d (inl (us, vs, e, f, s, c, (t, p, q, r), inl y)) =
      inr ((tok_longers (λ t. t ≡ codes v) nil (W.TypePart i) type_opens).row ts d
      (us, vs, e, f, s, c, (t, p, q, r), y))
  scoped_rows v slot k h ts d (inl (us, vs, e, f, s, c, (t, p, q, r), inr (y, z))) = inl (record {
    head = t;
    split = s ∙ (ap (λ w. w ++ vs) p ∙ ap (λ w. t ∷ w) y);
    kind = ap (λ w. is k (kind_of w)) r ∙ h;
  })
  scoped_rows v slot k h ts d (inr (inl y)) = inr ((compared_longers (λ t. t ≡ codes v) nil
      (W.Operand i (W.Tok slot ⊕ W.Entity)) "==" refl).row ts d y)
  scoped_rows v slot k h ts d (inr (inr y)) = inr ((typed_longers (λ t. t ≡ codes v) nil
      (W.Operand i (W.Tok slot ⊕ W.Entity)) "in" refl).row ts d y)

  action_rows : (ts : List Decorated) (d : Doc) → W.Action i ts d → Alone K.Action ts ⊎ Longer ts
  action_rows ts d (inl (t, p, q, r)) = inl (record {
    head = t;
    split = p;
    kind =
        ap (λ w. is K.Action (kind_of w)) r;
  })
  action_rows ts d (inr (inl y)) = inr ((compared_longers (λ t. t ≡ codes "action") nil
      (W.Operand i W.Entity) "==" refl).row ts d y)
  action_rows ts d (inr (inr y)) = inr ((compared_longers (λ t. t ≡ codes "action") nil
      (W.Operand i (W.Entity ⊕ W.Tok "[" ⊙ L.Nested (pos 1)
      (L.Maybe (W.Items (W.Operand i W.Entity))) ⊙ W.Tok "]")) "in" refl).row ts d y)

-- ---- the first tokens of three variables

both_true : (a b : Bool) → a ≡ true → b ≡ true → (a && b) ≡ true
both_true true b p q = q
both_true false b p q = absurd cc

first_false : (a b : Bool) → a ≡ false → (a && b) ≡ false
first_false true b p = absurd cc
first_false false b p = refl

second_false : (a b : Bool) → b ≡ false → (a && b) ≡ false
second_false true b p = p
second_false false b p = refl

no_comma : (w : Decorated) → follows (kind_of w.text) ≡ false → is K.Comma (kind_of w.text) ≡ false
no_comma w h = neither_first (is K.Comma (kind_of w.text)) (is K.RParen (kind_of w.text)) h

comma_is : (t : Decorated) → t.text ≡ codes "," → is K.Comma (kind_of t.text) ≡ true
comma_is t h = ap (λ z. is K.Comma (kind_of z)) h

-- what follows a list
abbrev pub Ends : List Decorated → Type 0
Ends vs = (v : Decorated) × (rest : List Decorated) × (vs ≡ v ∷ rest)
    × (follows (kind_of v.text) ≡ true)

abbrev pub Told : List Decorated → List Decorated → Type 0
Told us vs = ((length us ≡ 5) × (looks bare (us ++ vs) ≡ true))
    ⊎ (¬ (length us ≡ 5) × (looks bare (us ++ vs) ≡ false))

filled : (k : Kind) (ts : List Decorated) → Alone k ts ⊎ Longer ts → 1 ≤ length ts
filled k ts (inl x) = let e = ap length x.split in omega (arith, e)
filled k ts (inr x) = let e = ap length x.split in omega (arith, e)

decide : (p a r vs : List Decorated) (b c : Decorated) → Alone K.Principal p ⊎ Longer p
    → Alone K.Action a ⊎ Longer a
    → Alone K.Resource r ⊎ Longer r → b.text ≡ codes "," → c.text ≡ codes "," → Ends vs
    → Told (p ++ (b ∷ (a ++ (c ∷ r)))) vs
decide p a r vs b c (inr x) y z hb hc e = subst (λ q. Told (q ++ (b ∷ (a ++ (c ∷ r)))) vs)
    (sym x.split) (inr (
      λ n. (let m = length-append x.rest (b ∷ (a ++ (c ∷ r))) in
          let o = length-append a (c ∷ r) in
          let f = filled K.Action a y in
          let g = filled K.Resource r z in
          omega (arith, n, m, o, f, g)),
      second_false (is K.Principal (kind_of x.head.text)) _
          (first_false (is K.Comma (kind_of x.next.text)) _ (no_comma x.next x.other)),
    ))
decide p a r vs b c (inl x) (inr y) z hb hc e =
    subst (λ q. Told (q ++ (b ∷ (a ++ (c ∷ r)))) vs) (sym x.split)
    (subst (λ q. Told (x.head ∷ b ∷ (q ++ (c ∷ r))) vs) (sym y.split) (inr (
      λ n. (let m = length-append y.rest (c ∷ r) in let g = filled K.Resource r z in
          omega (arith, n, m, g)),
      second_false (is K.Principal (kind_of x.head.text)) _
          (second_false (is K.Comma (kind_of b.text)) _
          (second_false (is K.Action (kind_of y.head.text)) _
          (first_false (is K.Comma (kind_of y.next.text)) _ (no_comma y.next y.other)))),
    )))
decide p a r vs b c (inl x) (inl y) (inr z) hb hc e =
    subst (λ q. Told (q ++ (b ∷ (a ++ (c ∷ r)))) vs) (sym x.split)
    (subst (λ q. Told (x.head ∷ b ∷ (q ++ (c ∷ r))) vs) (sym y.split)
    (subst (λ q. Told (x.head ∷ b ∷ y.head ∷ c ∷ q) vs) (sym z.split) (inr (
      λ n. omega (arith, n),
      second_false (is K.Principal (kind_of x.head.text)) _
          (second_false (is K.Comma (kind_of b.text)) _
          (second_false (is K.Action (kind_of y.head.text)) _
          (second_false (is K.Comma (kind_of c.text)) _
          (second_false (is K.Resource (kind_of z.head.text)) _
          (first_false (follows (kind_of z.next.text)) _ z.other))))),
    ))))
decide p a r vs b c (inl x) (inl y) (inl z) hb hc (v, rest, e, h) =
    subst (λ q. Told (q ++ (b ∷ (a ++ (c ∷ r)))) vs) (sym x.split)
    (subst (λ q. Told (x.head ∷ b ∷ (q ++ (c ∷ r))) vs) (sym y.split)
    (subst (λ q. Told (x.head ∷ b ∷ y.head ∷ c ∷ q) vs) (sym z.split) (inl (
      refl,
      both_true (is K.Principal (kind_of x.head.text)) _ x.kind
          (both_true (is K.Comma (kind_of b.text)) _ (comma_is b hb)
          (both_true (is K.Action (kind_of y.head.text)) _ y.kind
          (both_true (is K.Comma (kind_of c.text)) _ (comma_is c hc)
          (both_true (is K.Resource (kind_of z.head.text)) _ z.kind
          (ap (looks (follows ∷ [])) e ∙ both_true (follows (kind_of v.text)) true h refl))))),
    ))))

pub variables_told : (i : ℤ) (next : Doc) (us vs : List Decorated) (d : Doc)
    → W.Variables i next us d → Ends vs → Told us vs
variables_told i next us vs d (
  p,
  q1,
  d1,
  f1,
  s1,
  c1,
  x,
  (
    bs,
    q2,
    d2,
    f2,
    s2,
    c2,
    (b, be, bc, bt),
    (a, q3, d3, f3, s3, c3, y, (cs, r, d4, f4, s4, c4, (c, ce, cc1, ct), z)),
  ),
) e =
    let split : us ≡ p ++ (b ∷ (a ++ (c ∷ r))) = s1 ∙ ap (λ w. p ++ w) (s2 ∙ (ap (λ w. w ++ q2) be
    ∙ ap (λ w. b ∷ w) (s3 ∙ ap (λ w. a ++ w) (s4 ∙ ap (λ w. w ++ r) ce)))) in
    subst (λ w. Told w vs) (sym split) (decide p a r vs b c
    (scoped_rows i "principal" "?principal" K.Principal refl p d1 x)
    (action_rows i a d3 y) (scoped_rows i "resource" "?resource" K.Resource refl r f4 z) bt ct e)
