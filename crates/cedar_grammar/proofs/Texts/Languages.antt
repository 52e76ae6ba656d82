-- Languages over texts that are languages over kinds.
use Rattle.std.proofs.Common.{◌≡◌, ℕ, Bool, true, ◌||◌, inl, inr, List, [], ◌∷◌, ◌++◌, refl, ap, sym, ◌∙◌, subst, append_assoc}
use Rattle.std.specs.Prelude.{IsTrue, codes}
use Prim.Native.String.{String}
use Rattle.std.proofs.lemmas.Slice.Eq.{bytes_eq-Decides}
use Rattle.std.proofs.lemmas.Bool.{or_left, or_right, or_cases}
use Rattle.cedar_tokens.specs.Units.{IsToken}
use Rattle.cedar_tokens.specs.declared.kind.Kind.{Kind}
use Rattle.cedar_tokens.specs.Kinds.{is}
use Rattle.cedar_grammar.specs.Trees.{Label, Forest, none, leaf, branch, yield, join}
use Rattle.cedar_grammar.specs.Languages.{Lang, ◌⋄◌, ◌∪◌, Many, no_more, one_more, Maybe, Branch, Never, Empty, Of}
use Rattle.cedar_tokens.specs.TokenKinds.{kind_of}
use Rattle.cedar_grammar.proofs.KindSets.{within, within_at}
use Rattle.cedar_grammar.specs.Grammar.{Leaf, Tok}
use Rattle.cedar_grammar.specs.Laws.{AreTokens}
use Rattle.cedar_grammar.proofs.Texts.Tests.{has_text, text_agrees, text_is_fixed, fixed_is_token}

yield_join : {A : Type 0} (f g : Forest Label A) → yield (join f g) ≡ yield f ++ yield g
yield_join none g = refl
yield_join (leaf a f) g = ap (λ z. a ∷ z) (yield_join f g)
yield_join (branch l f h) g =
    ap (λ z. yield f ++ z) (yield_join h g) ∙ sym (append_assoc (yield f) (yield h) (yield g))

module _ {A : Type 0} (text : A → List ℕ) where
  abbrev kind : A → Kind
  kind a = kind_of (text a)

  abbrev All : Forest Label A → Type 0
  All f = AreTokens text (yield f)

  parts : (xs ys : List A) → AreTokens text (xs ++ ys) → AreTokens text xs × AreTokens text ys
  parts [] ys h = (tt, h)
  parts (x ∷ xs) ys h = let r = parts xs ys h.1 in ((h.0, r.0), r.1)

  pub whole : (xs ys : List A) → AreTokens text xs → AreTokens text ys → AreTokens text (xs ++ ys)
  whole [] ys h k = k
  whole (x ∷ xs) ys h k = (h.0, whole xs ys h.1 k)

  joined : (f g h : Forest Label A) → f ≡ join g h → All g → All h → All f
  joined f g h e a b =
      subst (AreTokens text) (sym (ap yield e ∙ yield_join g h)) (whole (yield g) (yield h) a b)

  split : (f g h : Forest Label A) → f ≡ join g h → All f → All g × All h
  split f g h e a =
      parts (yield g) (yield h) (subst (AreTokens text) (ap yield e ∙ yield_join g h) a)

  below : (f g : Forest Label A) (l : Label) → f ≡ branch l g none → All f → All g
  below f g l e a = (parts (yield g) [] (subst (AreTokens text) (ap yield e) a)).0

  above : (f g : Forest Label A) (l : Label) → f ≡ branch l g none → All g → All f
  above f g l e a = subst (AreTokens text) (sym (ap yield e)) (whole (yield g) [] a tt)

  -- The language over texts has exactly those of the other's trees whose leaves are tokens: its
  -- trees have no other leaves, and each of its trees is one of the other's.
  pub record Same (X Y : Lang A) : Type 0 where
    pub tokens : (f : Forest Label A) → X f → All f
    pub kinds : (f : Forest Label A) → X f → Y f
    pub texts : (f : Forest Label A) → All f → Y f → X f

  -- ---- leaves

  leaf_all : (f : Forest Label A) (a : A) → f ≡ leaf a none → IsToken (text a) → All f
  leaf_all f a e t = subst (AreTokens text) (sym (ap yield e)) (t, tt)

  leaf_is : (f : Forest Label A) (a : A) → f ≡ leaf a none → All f → IsToken (text a)
  leaf_is f a e t = (subst (AreTokens text) (ap yield e) t).0

  pub same_leaf : (p : Kind → Bool) (q : List ℕ → Bool) → ((t : List ℕ) → q t ≡ true → IsToken t)
      → ((t : List ℕ) → IsToken t → p (kind_of t) ≡ q t)
      → Same (Leaf text (λ t. IsTrue (q t))) (Of kind p)
  same_leaf p q tokens agree = record {
    tokens = λ f (a, e, x). leaf_all f a e (tokens (text a) x);
    kinds = λ f (a, e, x). (a, e, agree (text a) (tokens (text a) x) ∙ x);
    texts = λ f all (a, e, x). (a, e, sym (agree (text a) (leaf_is f a e all)) ∙ x);
  }

  -- the token of this text
  pub same_tok : (s : String) (k : Kind) → has_text k (codes s) ≡ true
      → Same (Tok text s) (Of kind (is k))
  same_tok s k h = record {
    tokens = λ f (a, e, x). leaf_all f a e
        (subst IsToken (sym x) (fixed_is_token (codes s) (text_is_fixed k (codes s) h)));
    kinds = λ f (a, e, x). (
      a,
      e,
      text_agrees k (codes s) h (text a) ∙ (bytes_eq-Decides (codes s) (text a)).1 (sym x),
    );
    texts = λ f all (a, e, x). (
      a,
      e,
      sym ((bytes_eq-Decides (codes s) (text a)).0 (sym (text_agrees k (codes s) h (text a)) ∙ x)),
    );
  }

  -- the trees of the language are the tokens whose kind is in the set
  pub record IsSet (X : Lang A) (p : Kind → Bool) : Type 0 where
    pub same : Same X (Of kind p)

  pub one : (s : String) (k : Kind) → has_text k (codes s) ≡ true → IsSet (Tok text s) (is k)
  one s k h = record { same = same_tok s k h }

-- one token or another
infixr 22 ◌either◌
pub ◌either◌ : {A : Type 0} {text : A → List ℕ} {X Y : Lang A} {p q : Kind → Bool} → IsSet text X p
    → IsSet text Y q → IsSet text (X ∪ Y) (λ k. p k || q k)
◌either◌ {text = text} {p = p} {q = q} s r = record {
  same = record {
    tokens = λ f x. elim x [ inl y ↦ s.same.tokens f y | inr y ↦ r.same.tokens f y ];
    kinds = λ f x. elim x [
      | inl y ↦ (let z = s.same.kinds f y in
          (z.0, z.1, or_left (p (kind text z.0)) (q (kind text z.0)) z.2))
      | inr y ↦ (let z = r.same.kinds f y in
          (z.0, z.1, or_right (p (kind text z.0)) (q (kind text z.0)) z.2))
    ];
    texts = λ f all (a, e, x). elim (or_cases (p (kind text a)) (q (kind text a)) x) [
      | inl i ↦ inl (s.same.texts f all (a, e, i))
      | inr i ↦ inr (r.same.texts f all (a, e, i))
    ];
  };
}

-- the same set, written differently
pub same_set : {A : Type 0} {text : A → List ℕ} {X : Lang A} {p : Kind → Bool} → IsSet text X p
    → (q : Kind → Bool) → IsTrue (within p q) → IsTrue (within q p) → Same text X (Of (kind text) q)
same_set {text = text} {p = p} s q h k = record {
  tokens = s.same.tokens;
  kinds = λ f x. (let z = s.same.kinds f x in (z.0, z.1, within_at p q h (kind text z.0) z.2));
  texts = λ f all (a, e, x). s.same.texts f all (a, e, within_at q p k (kind text a) x);
}

-- ---- the building blocks of grammars

infixr 24 ◌then◌
pub ◌then◌ : {A : Type 0} {text : A → List ℕ} {X X' Y Y' : Lang A} → Same text X X' → Same text Y Y'
    → Same text (X ⋄ Y) (X' ⋄ Y')
◌then◌ {text = text} s r = record {
  tokens = λ f (g, h, e, x, y). joined text f g h e (s.tokens g x) (r.tokens h y);
  kinds = λ f (g, h, e, x, y). (g, h, e, s.kinds g x, r.kinds h y);
  texts = λ f all (g, h, e, x, y).
      (let a = split text f g h e all in (g, h, e, s.texts g a.0 x, r.texts h a.1 y));
}

infixr 22 ◌or◌
pub ◌or◌ : {A : Type 0} {text : A → List ℕ} {X X' Y Y' : Lang A} → Same text X X' → Same text Y Y'
    → Same text (X ∪ Y) (X' ∪ Y')
s or r = record {
  tokens = λ f x. elim x [ inl y ↦ s.tokens f y | inr y ↦ r.tokens f y ];
  kinds = λ f x. elim x [ inl y ↦ inl (s.kinds f y) | inr y ↦ inr (r.kinds f y) ];
  texts = λ f all x. elim x [ inl y ↦ inl (s.texts f all y) | inr y ↦ inr (r.texts f all y) ];
}

module _ {A : Type 0} {text : A → List ℕ} where
  same_empty : Same text Empty Empty
  same_empty = record {
    tokens = λ f e. subst (AreTokens text) (sym (ap yield e)) tt;
    kinds = λ f e. e;
    texts = λ f all e. e;
  }

  pub maybe : {X Y : Lang A} → Same text X Y → Same text (Maybe X) (Maybe Y)
  maybe s = s or same_empty

  pub same_branch : {X Y : Lang A} (l : Label) → Same text X Y → Same text (Branch l X) (Branch l Y)
  same_branch l s = record {
    tokens = λ f (g, e, x). above text f g l e (s.tokens g x);
    kinds = λ f (g, e, x). (g, e, s.kinds g x);
    texts = λ f all (g, e, x). (g, e, s.texts g (below text f g l e all) x);
  }

  pub same_never : Same text Never Never
  same_never = record { tokens = λ f x. absurd x; kinds = λ f x. x; texts = λ f all x. x }

  module _ (X Y : Lang A) (s : Same text X Y) where
    many_tokens : (f : Forest Label A) → Many X f → All text f
    many_tokens f (no_more _ e) = subst (AreTokens text) (sym (ap yield e)) tt
    many_tokens f (one_more _ g h e x m) = joined text f g h e (s.tokens g x) (many_tokens h m)

    many_kinds : (f : Forest Label A) → Many X f → Many Y f
    many_kinds f (no_more _ e) = no_more f e
    many_kinds f (one_more _ g h e x m) = one_more f g h e (s.kinds g x) (many_kinds h m)

    many_texts : (f : Forest Label A) → All text f → Many Y f → Many X f
    many_texts f all (no_more _ e) = no_more f e
    many_texts f all (one_more _ g h e x m) =
        let a = split text f g h e all in one_more f g h e (s.texts g a.0 x) (many_texts h a.1 m)

  pub many : {X Y : Lang A} → Same text X Y → Same text (Many X) (Many Y)
  many {X} {Y} s =
      record { tokens = many_tokens X Y s; kinds = many_kinds X Y s; texts = many_texts X Y s }

  -- where there is room
  pub same_room : {X Y : Lang A} (room : Bool) → Same text X Y
      → Same text (λ f. IsTrue room × X f) (λ f. IsTrue room × Y f)
  same_room room s = record {
    tokens = λ f (i, x). s.tokens f x;
    kinds = λ f (i, x). (i, s.kinds f x);
    texts = λ f all (i, x). (i, s.texts f all x);
  }
