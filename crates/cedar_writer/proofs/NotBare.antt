-- No operand of an expression begins as a bare one does; and a bare one that doesn't begin so is that of an expression.
use Rattle.std.proofs.Common.{◌≡◌, ℕ, ℤ, Bool, true, false, ◌||◌, ◌&&◌, not, List, [], ◌∷◌, ◌++◌, refl, ap, sym, ◌∙◌, inl, inr, ◌⊎◌, append_assoc, append-nil}
use Rattle.std.specs.Prelude.{IsTrue, codes}
use Prim.Native.String.{String}
use Rattle.std.proofs.lemmas.Bool.{or_left, or_right, or_cases, or_parts, or_from, and_from, and_left, and_right}
use Rattle.cedar_tokens.specs.Listing.{Decorated}
use Rattle.cedar_tokens.specs.declared.kind.Kind.{Kind}
use Rattle.cedar_tokens.specs.declared.kind.Kind.TheVariants as K
use Rattle.cedar_tokens.specs.Kinds.{is, is_ident, is_variable}
use Rattle.cedar_tokens.specs.TokenKinds.{kind_of}
use Rattle.cedar_layout.specs.Layout.{Doc, nil, line_or_nil}
use Rattle.cedar_layout.proofs.Values.{dot-nil}
use Rattle.cedar_grammar.specs.Laws.{kind_of_decorated}
use Rattle.cedar_grammar.specs.Grammar.{is_identifier}
use Rattle.cedar_grammar.proofs.KindSets.{apart, apart_at, within, within_at}
use Rattle.cedar_grammar.proofs.Texts.Tests.{has_text, number_agrees, string_agrees, ident_agrees, number_is_token, string_is_token, ident_is_token}
use Rattle.cedar_laws.specs.Table.{C}
use Rattle.cedar_written.specs.Languages.{Lang, ◌⋄◌, ◌∪◌, Put, Maybe, Many, no_more, one_more, Token, Mapped, Group}
use Rattle.cedar_written.specs.Written as W
use Rattle.cedar_written.specs.NodeLines as N
use Rattle.cedar_writer.specs.Lines.{is_name}
use Rattle.cedar_writer.specs.Bare.{is_slot, refers, is_bare}
use Rattle.cedar_writer.proofs.SameRows.{kind_is, text_is}

-- how a bare operand may begin
abbrev begins : Kind → Bool
begins k = is_slot k || is_name k

-- what goes on with a path
abbrev goes_on : Kind → Bool
goes_on k = is K.DoubleColon k || is K.LParen k

ident_kind : (t : List ℕ) → IsTrue (is_identifier t) → IsTrue (is_ident (kind_of t))
ident_kind t h = ident_agrees t (ident_is_token t h) ∙ h

-- ---- rows that don't begin as a bare operand does, whatever follows
record NotBare (X : List Decorated → Doc → Type 0) : Type 0 where
  pub never : (ts : List Decorated) (d : Doc) → X ts d → (vs : List Decorated)
      → is_bare (ts ++ vs) ≡ false

-- rows that begin with a `::` or a `(`
record Refers (X : List Decorated → Doc → Type 0) : Type 0 where
  pub always : (ts : List Decorated) (d : Doc) → X ts d → (vs : List Decorated)
      → refers (ts ++ vs) ≡ true

token : (P : List ℕ → Type 0) (next : Doc) (p : Kind → Bool) → IsTrue (apart p begins)
    → ((t : List ℕ) → P t → IsTrue (p (kind_of t))) → NotBare (Token P next)
token P next p h f = record {
  never = λ ts d (t, e, c, x) vs.
      (let k = kind_of_decorated t in
      let b = or_parts (is_slot k) (is_name k) (apart_at p begins h k (f t.text x)) in
      ap (λ z. is_bare (z ++ vs)) e ∙ or_from (is_slot k) (is_name k && not (refers vs)) b.0
      (and_left (is_name k) (not (refers vs)) b.1));
}

tok : (s : String) (k : Kind) → has_text k (codes s) ≡ true → IsTrue (apart (is k) begins)
    → NotBare (W.Tok s)
tok s k h a = token (λ t. t ≡ codes s) nil (is k) a (kind_is s k h)

first : {X Y : Lang} → NotBare X → NotBare (X ⋄ Y)
first x = record {
  never = λ ts d (us, ws, e, f, s, c, a, b) vs. ap (λ z. is_bare (z ++ vs)) s
      ∙ (ap is_bare (append_assoc us ws vs) ∙ x.never us e a (ws ++ vs));
}

infixr 22 ◌or◌
◌or◌ : {X Y : Lang} → NotBare X → NotBare Y → NotBare (X ∪ Y)
x or y = record {
  never = λ ts d c vs. elim c [ inl a ↦ x.never ts d a vs | inr b ↦ y.never ts d b vs ];
}

mapped : {X : Lang} {g : Doc → Doc} → NotBare X → NotBare (Mapped g X)
mapped x = record { never = λ ts d (e, c, a) vs. x.never ts e a vs }

with_room : {X : Lang} {room : Bool} → NotBare X → NotBare (λ ts d. IsTrue room × X ts d)
with_room x = record { never = λ ts d (r, a) vs. x.never ts d a vs }

put_first : {X : Lang} (e : Doc) → NotBare X → NotBare (Put e ⋄ X)
put_first e x = record {
  never = λ ts d (us, ws, g, f, s, c, a, b) vs. ap (λ z. is_bare (z ++ vs))
      (s ∙ ap (λ z. z ++ ws) a.0) ∙ x.never ws f b vs;
}

maybe_first : {X Y : Lang} → NotBare X → NotBare Y → NotBare (Maybe X ⋄ Y)
maybe_first {X} {Y} x y = record {
  never = λ ts d (us, ws, e, f, s, c, a, b) vs. elim a [
    | inl z ↦ (first {Y = Y} x).never ts d (us, ws, e, f, s, c, z, b) vs
    | inr z ↦ (put_first nil y).never ts d (us, ws, e, f, s, c, z, b) vs
  ];
}

-- ---- paths that go on
tok_refers : (s : String) (k : Kind) → has_text k (codes s) ≡ true → IsTrue (within (is k) goes_on)
    → Refers (W.Tok s)
tok_refers s k h a = record {
  always = λ ts d (t, e, c, x) vs. ap (λ z. refers (z ++ vs)) e
      ∙ within_at (is k) goes_on a (kind_of_decorated t) (kind_is s k h t.text x);
}

first_refers : {X Y : Lang} → Refers X → Refers (X ⋄ Y)
first_refers x = record {
  always = λ ts d (us, ws, e, f, s, c, a, b) vs. ap (λ z. refers (z ++ vs)) s
      ∙ (ap refers (append_assoc us ws vs) ∙ x.always us e a (ws ++ vs));
}

mapped_refers : {X : Lang} {g : Doc → Doc} → Refers X → Refers (Mapped g X)
mapped_refers x = record { always = λ ts d (e, c, a) vs. x.always ts e a vs }

room_refers : {X : Lang} {room : Bool} → Refers X → Refers (λ ts d. IsTrue room × X ts d)
room_refers x = record { always = λ ts d (r, a) vs. x.always ts d a vs }

colons : Refers (W.Tok "::")
colons = tok_refers "::" K.DoubleColon refl refl

names_refer : (ts : List Decorated) (d : Doc) → Many (W.Tok "::" ⋄ W.Ident) ts d
    → (vs : List Decorated) → refers vs ≡ true → refers (ts ++ vs) ≡ true
names_refer _ _ no_more vs h = h
names_refer _ _ (one_more us ws e f x m) vs h =
    ap refers (append_assoc us ws vs) ∙ (first_refers colons).always us e x (ws ++ vs)

path_first : {X : Lang} → Refers X → NotBare (W.Path ⋄ X)
path_first x = record {
  never = λ ts d (us, ws, e, f, s, c, (ns, bs, g, h, s2, c2, (t, q, c3, p), m), y) vs.
      (let k = kind_of_decorated t in
      let r = names_refer bs h m (ws ++ vs) (x.always ws f y vs) in
      ap (λ z. is_bare (z ++ vs)) (s ∙ ap (λ z. z ++ ws) (s2 ∙ ap (λ z. z ++ bs) q))
      ∙ (ap is_bare (append_assoc (t ∷ bs) ws vs)
      ∙ or_from (is_slot k) (is_name k && not (refers (bs ++ (ws ++ vs))))
      (apart_at is_ident is_slot refl k (ident_kind t.text p))
      (and_right (is_name k) (not (refers (bs ++ (ws ++ vs)))) (ap not r))));
}

-- ---- operands of expressions
number : NotBare W.NUMBER
number = token _ nil (is K.Number) refl (λ t h. number_agrees t (number_is_token t h) ∙ h)

str : NotBare W.STR
str = token _ nil (is K.Str) refl (λ t h. string_agrees t (string_is_token t h) ∙ h)

-- principal action resource context
abbrev Variable : Lang
Variable = W.Tok "principal" ∪ W.Tok "action" ∪ W.Tok "resource" ∪ W.Tok "context"

module _ (i : ℤ) (room : Bool) (Inner : Lang) where
  primary : NotBare (W.Primary i room Inner)
  primary = (tok "true" K.True refl refl or tok "false" K.False refl refl) or number or str
      or with_room (mapped (first (tok "(" K.LParen refl refl)))
      or with_room (first (tok "[" K.LBracket refl refl))
      or with_room (first (tok "{" K.LBrace refl refl))
      or (tok "principal" K.Principal refl refl or tok "action" K.Action refl refl
      or tok "resource" K.Resource refl refl or tok "context" K.Context refl refl)
      or path_first (first_refers colons)

  member : NotBare (W.Member i room Inner)
  member = mapped (first primary) or mapped (path_first (mapped_refers
      (first_refers (room_refers (first_refers (tok_refers "(" K.LParen refl refl))))))

  unary : NotBare (W.Unary i room Inner)
  unary = maybe_first (first (tok "!" K.Neg refl refl) or first (tok "-" K.Dash refl refl)) member

  mult : NotBare (W.Mult i room Inner)
  mult = mapped (first unary)

  add : NotBare (W.Add i room Inner)
  add = mapped (first mult)

not_bare : {X : Lang} → NotBare X → (ts : List Decorated) (d : Doc) → X ts d → is_bare ts ≡ false
not_bare x ts d y = ap is_bare (sym (append-nil ts)) ∙ x.never ts d y []

module _ (i : ℤ) (room : Bool) (Inner : Lang) (ts : List Decorated) (d : Doc) where
  pub member_not_bare : W.Member i room Inner ts d → is_bare ts ≡ false
  member_not_bare y = not_bare (member i room Inner) ts d y

  pub unary_not_bare : W.Unary i room Inner ts d → is_bare ts ≡ false
  unary_not_bare y = not_bare (unary i room Inner) ts d y

  pub mult_not_bare : W.Mult i room Inner ts d → is_bare ts ≡ false
  mult_not_bare y = not_bare (mult i room Inner) ts d y

  pub add_not_bare : W.Add i room Inner ts d → is_bare ts ≡ false
  add_not_bare y = not_bare (add i room Inner) ts d y

-- ---- bare operands
slot_is_bare : (us vs : List Decorated) (d : Doc) → N.Slot us d → is_bare (us ++ vs) ≡ true
slot_is_bare us vs d (inl (t, e, c, p)) =
    let k = kind_of_decorated t in
    ap (λ z. is_bare (z ++ vs)) e ∙ or_left (is_slot k) (is_name k && not (refers vs))
    (or_left (is K.PrincipalSlot k) (is K.ResourceSlot k)
    (kind_is "?principal" K.PrincipalSlot refl t.text p))
slot_is_bare us vs d (inr (t, e, c, p)) =
    let k = kind_of_decorated t in
    ap (λ z. is_bare (z ++ vs)) e ∙ or_left (is_slot k) (is_name k && not (refers vs))
    (or_right (is K.PrincipalSlot k) (is K.ResourceSlot k)
    (kind_is "?resource" K.ResourceSlot refl t.text p))

-- {X} after the first part of a member
abbrev Accesses : Lang → Lang
Accesses X = Maybe (X ⋄ Many (Put line_or_nil ⋄ X))

fields_end : (vs : List Decorated) (d : Doc) → Accesses W.Field vs d → refers vs ≡ false
fields_end vs d (inl (us, ws, e, f, s, c, (ns, bs, g, h, s2, c2, (t, q, c3, p), x), m)) =
    ap refers (s ∙ ap (λ z. z ++ ws) (s2 ∙ ap (λ z. z ++ bs) q))
    ∙ apart_at (is K.Dot) goes_on refl (kind_of_decorated t) (kind_is "." K.Dot refl t.text p)
fields_end vs d (inr (p, q)) = ap refers p

name_is_bare : (t : Decorated) (vs : List Decorated) → IsTrue (is_ident (kind_of_decorated t))
    → is_variable (kind_of_decorated t) ≡ false → refers vs ≡ false → is_bare (t ∷ vs) ≡ true
name_is_bare t vs h v r =
    let k = kind_of_decorated t in
    or_right (is_slot k) (is_name k && not (refers vs)) (and_from (is_name k) (not (refers vs))
    (and_from (is_ident k) (not (is_variable k)) h (ap not v)) (ap not r))

-- a variable by its kind
variable : (us : List Decorated) (d : Doc) (t : Decorated) → us ≡ t ∷ [] → d ≡ C t nil
    → IsTrue (is_variable (kind_of_decorated t)) → Variable us d
variable us d t e c v =
    let k = kind_of_decorated t in
    elim (or_cases (is K.Principal k || is K.Action k || is K.Resource k) (is K.Context k) v) [
      | inl a ↦ elim (or_cases (is K.Principal k || is K.Action k) (is K.Resource k) a) [
        | inl b ↦ elim (or_cases (is K.Principal k) (is K.Action k) b) [
          | inl w ↦ inl (t, e, c, text_is "principal" K.Principal refl t.text w)
          | inr w ↦ inr (inl (t, e, c, text_is "action" K.Action refl t.text w))
        ]
        | inr w ↦ inr (inr (inl (t, e, c, text_is "resource" K.Resource refl t.text w)))
      ]
      | inr w ↦ inr (inr (inr (t, e, c, text_is "context" K.Context refl t.text w)))
    ]

-- what is followed by nothing
alone : {X Y : Lang} (ts : List Decorated) (d : Doc) → X ts d → Y [] nil → (X ⋄ Y) ts d
alone ts d x y = (ts, [], d, nil, sym (append-nil ts), sym (dot-nil d), x, y)

module _ (i : ℤ) (room : Bool) (Inner : Lang) where
  field : (ts : List Decorated) (d : Doc) → W.Field ts d → W.Access i room Inner ts d
  field ts d x = inl (alone ts d x (inr (refl, refl)))

  fields : (ts : List Decorated) (d : Doc) → Many (Put line_or_nil ⋄ W.Field) ts d
      → Many (Put line_or_nil ⋄ W.Access i room Inner) ts d
  fields _ _ no_more = no_more
  fields _ _ (one_more us ws e f (ns, bs, g, h, s, c, p, x) m) =
      one_more us ws e f (ns, bs, g, h, s, c, p, field bs h x) (fields ws f m)

  accesses : (ts : List Decorated) (d : Doc) → Accesses W.Field ts d
      → Accesses (W.Access i room Inner) ts d
  accesses ts d (inl (us, ws, e, f, s, c, x, m)) =
      inl (us, ws, e, f, s, c, field us e x, fields ws f m)
  accesses ts d (inr x) = inr x

  pub bare_or_member : (ts : List Decorated) (d : Doc) → N.Bare i ts d
      → (is_bare ts ≡ true) ⊎ W.Member i room Inner ts d
  bare_or_member ts d (inl (e, c, (us, vs, f, g, s, c2, x, y))) =
      inl (ap is_bare s ∙ slot_is_bare us vs f x)
  bare_or_member ts d (inr (e, c, (us, vs, f, g, s, c2, (t, q, c3, p), (h, c4, m)))) =
      go (is_variable (kind_of_decorated t)) refl
    where
      go : (b : Bool) → is_variable (kind_of_decorated t) ≡ b
          → (is_bare ts ≡ true) ⊎ W.Member i room Inner ts d
      go true v = inr (inl (
        e,
        c,
        (
          us,
          vs,
          f,
          g,
          s,
          c2,
          inr (inr (inr (inr (inr (inr (inl (variable us f t q c3 v))))))),
          (h, c4, accesses vs h m),
        ),
      ))
      go false v = inl (ap is_bare (s ∙ ap (λ z. z ++ vs) q)
          ∙ name_is_bare t vs (ident_kind t.text p) v (fields_end vs h m))

  pub bare_or_unary : (ts : List Decorated) (d : Doc) → N.Bare i ts d
      → (is_bare ts ≡ true) ⊎ W.Unary i room Inner ts d
  bare_or_unary ts d x = elim (bare_or_member ts d x) [
    | inl h ↦ inl h
    | inr y ↦ inr ([], ts, nil, d, refl, refl, inr (refl, refl), y)
  ]

  pub bare_or_mult : (ts : List Decorated) (d : Doc) → Group (N.Bare i) ts d
      → (is_bare ts ≡ true) ⊎ W.Mult i room Inner ts d
  bare_or_mult ts d (e, c, x) = elim (bare_or_unary ts e x) [
    | inl h ↦ inl h
    | inr y ↦ inr (e, c, alone ts e y no_more)
  ]

  pub bare_or_add : (ts : List Decorated) (d : Doc) → Group (Group (N.Bare i)) ts d
      → (is_bare ts ≡ true) ⊎ W.Add i room Inner ts d
  bare_or_add ts d (e, c, x) = elim (bare_or_mult ts e x) [
    | inl h ↦ inl h
    | inr y ↦ inr (e, c, alone ts e y no_more)
  ]
