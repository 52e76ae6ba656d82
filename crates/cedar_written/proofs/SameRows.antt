-- The rows of trees of a language are those of the documents of another: the building blocks.
use Rattle.std.proofs.Common.{◌≡◌, ℕ, Bool, List, [], ◌∷◌, ◌++◌, map, refl, ap, sym, ◌∙◌, subst, inl, inr, append-nil}
use Rattle.std.proofs.lemmas.List.{map-append}
use Rattle.std.specs.Prelude.{IsTrue}
use Rattle.cedar_tokens.specs.Listing.{Decorated}
use Rattle.cedar_layout.specs.Layout.{Doc, nil, ◌·◌}
use Rattle.cedar_laws.specs.Table.{bare_token}
use Rattle.cedar_grammar.specs.Trees.{Label, Forest, none, leaf, branch, join, yield}
use Rattle.cedar_grammar.specs.Languages.{◌⋄◌, ◌∪◌}
use Rattle.cedar_grammar.specs.Languages as G
use Rattle.cedar_grammar.specs.Grammar as T
use Rattle.cedar_grammar.proofs.Readers.Languages.{yield_join}
use Rattle.cedar_written.specs.Languages.{◌⋄◌ as ◌⊙◌, ◌∪◌ as ◌⊕◌}
use Rattle.cedar_written.specs.Languages as W

-- the texts of tokens
abbrev pub texts : List Decorated → List (List ℕ)
texts ts = map (λ t. t.text) ts

-- a text that is a leaf is its own text
abbrev pub text : List ℕ → List ℕ
text t = t

-- tokens whose texts are in two parts
pub cut : (xs ys : List (List ℕ)) (ts : List Decorated) → texts ts ≡ xs ++ ys
    → (us vs : List Decorated) × (ts ≡ us ++ vs) × (texts us ≡ xs) × (texts vs ≡ ys)
cut [] ys ts e = ([], ts, refl, refl, e)
cut (x ∷ xs) ys [] e = absurd cc
cut (x ∷ xs) ys (t ∷ ts) e =
    let h : t.text ≡ x = cc in
    let a : texts ts ≡ xs ++ ys = cc in go h (cut xs ys ts a)
  where
    go : t.text ≡ x
        → (us vs : List Decorated) × (ts ≡ us ++ vs) × (texts us ≡ xs) × (texts vs ≡ ys)
        → (us vs : List Decorated) × (t ∷ ts ≡ us ++ vs) × (texts us ≡ x ∷ xs) × (texts vs ≡ ys)
    go h (us, vs, s, a, b) = (t ∷ us, vs, ap (λ z. t ∷ z) s, cc, b)

-- Y and X have the same rows: each row of trees of Y has a document in X, for any tokens with the
-- texts of its leaves, and each row of X is one of these
pub record Matches (Y : Forest Label (List ℕ) → Type 0)
    (X : List Decorated → Doc → Type 0) : Type 0 where
  pub some : (f : Forest Label (List ℕ)) (ts : List Decorated) → Y f → texts ts ≡ yield f
      → (d : Doc) × X ts d
  pub back : (ts : List Decorated) (d : Doc) → X ts d
      → (f : Forest Label (List ℕ)) × Y f × (texts ts ≡ yield f)

-- tokens for a row of trees in two parts, and for one put together
pub parts : (ts : List Decorated) (f g h : Forest Label (List ℕ)) → f ≡ join g h
    → texts ts ≡ yield f
    → (us vs : List Decorated) × (ts ≡ us ++ vs) × (texts us ≡ yield g) × (texts vs ≡ yield h)
parts ts f g h e s = cut (yield g) (yield h) ts (s ∙ (ap yield e ∙ yield_join g h))

pub whole : (ts us vs : List Decorated) (g h : Forest Label (List ℕ)) → ts ≡ us ++ vs
    → texts us ≡ yield g → texts vs ≡ yield h → texts ts ≡ yield (join g h)
whole ts us vs g h s a b = ap texts s
    ∙ (map-append (λ t. t.text) us vs
    ∙ (ap (λ z. z ++ texts vs) a ∙ (ap (λ z. yield g ++ z) b ∙ sym (yield_join g h))))

pub leaf_matches : (P : List ℕ → Type 0) (next : Doc) → Matches (T.Leaf text P) (W.Token P next)
leaf_matches P next = record {
  some = go;
  back = λ ts d (t, e, c, p). (leaf t.text none, (t.text, refl, p), ap texts e);
}
  where
    one : (ts : List Decorated) (x : List ℕ) → texts ts ≡ x ∷ []
        → (t : Decorated) × (ts ≡ t ∷ []) × (x ≡ t.text)
    one [] x e = absurd cc
    one (t ∷ []) x e = (t, refl, cc)
    one (t ∷ (u ∷ ts)) x e = absurd cc

    go : (f : Forest Label (List ℕ)) (ts : List Decorated) → T.Leaf text P f → texts ts ≡ yield f
        → (d : Doc) × W.Token P next ts d
    go f ts (a, e, p) s = found (one ts a (s ∙ ap yield e))
      where
        found : (t : Decorated) × (ts ≡ t ∷ []) × (a ≡ t.text) → (d : Doc) × W.Token P next ts d
        found (t, u, h) = (_, (t, u, refl, subst P h p))

pub branch_matches : {Y : G.Lang (List ℕ)} {X : W.Lang} (l : Label) → Matches Y X
    → Matches (G.Branch l Y) X
branch_matches l x = record {
  some = λ f ts (g, e, y) s. x.some g ts y (s ∙ (ap yield e ∙ append-nil (yield g)));
  back = λ ts d y. (let r = x.back ts d y in
      (branch l r.0 none, (r.0, refl, r.1), r.2 ∙ sym (append-nil (yield r.0))));
}

infixr 24 ◌then◌
pub ◌then◌ : {Y Y' : G.Lang (List ℕ)} {X X' : W.Lang} → Matches Y X → Matches Y' X'
    → Matches (Y ⋄ Y') (X ⊙ X')
x then x' = record {
  some = λ f ts (g, h, e, y, z) s.
      (let c = parts ts f g h e s in
      let a = x.some g c.0 y c.3 in
      let b = x'.some h c.1 z c.4 in
      (a.0 · b.0, (c.0, c.1, a.0, b.0, c.2, refl, a.1, b.1)));
  back = λ ts d (us, vs, e, f, s, c, m, n).
      (let a = x.back us e m in
      let b = x'.back vs f n in
      (join a.0 b.0, (a.0, b.0, refl, a.1, b.1), whole ts us vs a.0 b.0 s a.2 b.2));
}

infixr 22 ◌or◌
pub ◌or◌ : {Y Y' : G.Lang (List ℕ)} {X X' : W.Lang} → Matches Y X → Matches Y' X'
    → Matches (Y ∪ Y') (X ⊕ X')
x or x' = record {
  some = λ f ts y s. elim y [
    | inl z ↦ (let a = x.some f ts z s in (a.0, inl a.1))
    | inr z ↦ (let a = x'.some f ts z s in (a.0, inr a.1))
  ];
  back = λ ts d y. elim y [
    | inl z ↦ (let r = x.back ts d z in (r.0, inl r.1, r.2))
    | inr z ↦ (let r = x'.back ts d z in (r.0, inr r.1, r.2))
  ];
}

-- ---- what stands between tokens
pub put_matches : (e : Doc) → Matches G.Empty (W.Put e)
put_matches e = record {
  some = λ f ts h s. (e, (none_left ts (s ∙ ap yield h), refl));
  back = λ ts d y. (none, refl, ap texts y.0);
}
  where
    none_left : (ts : List Decorated) → texts ts ≡ [] → ts ≡ []
    none_left [] e = refl
    none_left (t ∷ ts) e = absurd cc

pub after_put : {Y : G.Lang (List ℕ)} {X : W.Lang} (e : Doc) → Matches Y X → Matches Y (W.Put e ⊙ X)
after_put {X = X} e x = record {
  some = λ f ts y s. (let a = x.some f ts y s in
      (e · a.0, ([], ts, e, a.0, refl, refl, (refl, refl), a.1)));
  back = λ ts d (us, vs, g, f, s, c, m, n). x.back ts f
      (subst (λ z. X z f) (sym (s ∙ ap (λ z. z ++ vs) m.0)) n);
}

pub before_put : {Y : G.Lang (List ℕ)} {X : W.Lang} (e : Doc) → Matches Y X
    → Matches Y (X ⊙ W.Put e)
before_put {X = X} e x = record {
  some = λ f ts y s. (let a = x.some f ts y s in
      (a.0 · e, (ts, [], a.0, e, sym (append-nil ts), refl, a.1, (refl, refl))));
  back = λ ts d (us, vs, g, f, s, c, m, n). x.back ts g
      (subst (λ z. X z g) (sym (s ∙ (ap (λ z. us ++ z) n.0 ∙ append-nil us))) m);
}

pub mapped_matches : {Y : G.Lang (List ℕ)} {X : W.Lang} (g : Doc → Doc) → Matches Y X
    → Matches Y (W.Mapped g X)
mapped_matches g x = record {
  some = λ f ts y s. (let a = x.some f ts y s in (g a.0, (a.0, refl, a.1)));
  back = λ ts d (e, c, y). x.back ts e y;
}

pub maybe_matches : {Y : G.Lang (List ℕ)} {X : W.Lang} → Matches Y X
    → Matches (G.Maybe Y) (W.Maybe X)
maybe_matches x = x or put_matches nil

module _ (Y : G.Lang (List ℕ)) (X : W.Lang) (x : Matches Y X) where
  many_some : (f : Forest Label (List ℕ)) (ts : List Decorated) → G.Many Y f → texts ts ≡ yield f
      → (d : Doc) × W.Many X ts d
  many_some f ts (G.no_more _ h) s =
      let e = (put_matches nil).some f ts h s in
      (nil, subst (λ z. W.Many X z nil) (sym e.1.0) W.no_more)
  many_some f ts (G.one_more _ g h e y m) s =
      let c = parts ts f g h e s in
      let a = x.some g c.0 y c.3 in
      let b = many_some h c.1 m c.4 in (
        a.0 · b.0,
        subst (λ z. W.Many X z (a.0 · b.0)) (sym c.2)
            (W.one_more c.0 c.1 a.0 b.0 a.1 b.1),
      )

  many_back : (ts : List Decorated) (d : Doc) → W.Many X ts d
      → (f : Forest Label (List ℕ)) × G.Many Y f × (texts ts ≡ yield f)
  many_back _ _ W.no_more = (none, G.no_more none refl, refl)
  many_back _ _ (W.one_more us vs e f y m) =
      let a = x.back us e y in
      let b = many_back vs f m in
      (join a.0 b.0, G.one_more _ a.0 b.0 refl a.1 b.1, whole (us ++ vs) us vs a.0 b.0 refl a.2 b.2)

pub many_matches : {Y : G.Lang (List ℕ)} {X : W.Lang} → Matches Y X → Matches (G.Many Y) (W.Many X)
many_matches {Y} {X} x = record { some = many_some Y X x; back = many_back Y X x }

pub room_matches : {Y : G.Lang (List ℕ)} {X : W.Lang} (room : Bool) → Matches Y X
    → Matches (λ f. IsTrue room × Y f) (λ ts d. IsTrue room × X ts d)
room_matches room x = record {
  some = λ f ts (i, y) s. (let a = x.some f ts y s in (a.0, (i, a.1)));
  back = λ ts d (i, y). (let r = x.back ts d y in (r.0, (i, r.1), r.2));
}

-- the rows of Z are those of Y
pub within_matches : {Z Y : G.Lang (List ℕ)} {X : W.Lang}
    → ((f : Forest Label (List ℕ)) → Z f → Y f) → ((f : Forest Label (List ℕ)) → Y f → Z f)
    → Matches Y X → Matches Z X
within_matches i j x = record {
  some = λ f ts z s. x.some f ts (i f z) s;
  back = λ ts d y. (let r = x.back ts d y in (r.0, j r.0 r.1, r.2));
}

-- an alternative without rows
pub or_never : {Y : G.Lang (List ℕ)} {X X' : W.Lang}
    → ((ts : List Decorated) (d : Doc) → X' ts d → ⊥) → Matches Y X → Matches Y (X' ⊕ X)
or_never n x = record {
  some = λ f ts y s. (let a = x.some f ts y s in (a.0, inr a.1));
  back = λ ts d y. elim y [ inl z ↦ absurd (n ts d z) | inr z ↦ x.back ts d z ];
}

-- a group that begins after the leading lines of its first token
pub led_group_matches : {Y : G.Lang (List ℕ)} {X : W.Lang} → ((d : Doc) → X [] d → ⊥) → Matches Y X
    → Matches Y (W.LedGroup X)
led_group_matches {Y} {X} full x = record { some = go; back = back }
  where
    go : (f : Forest Label (List ℕ)) (ts : List Decorated) → Y f → texts ts ≡ yield f
        → (d : Doc) × W.LedGroup X ts d
    go f [] y s = let a = x.some f [] y s in absurd (full a.0 a.1)
    go f (t ∷ ts) y s = let a = x.some f (bare_token t ∷ ts) y s in (_, (a.0, refl, a.1))

    back : (ts : List Decorated) (d : Doc) → W.LedGroup X ts d
        → (f : Forest Label (List ℕ)) × Y f × (texts ts ≡ yield f)
    back [] d y = absurd y
    back (t ∷ ts) d (e, c, y) = x.back (bare_token t ∷ ts) e y

pub never_matches : Matches G.Never W.Never
never_matches = record { some = λ f ts y s. absurd y; back = λ ts d y. absurd y }
