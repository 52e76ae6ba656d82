-- The rows with documents of a language are the rows with marks of another: the building blocks.
use Rattle.std.proofs.Common.{◌≡◌, ℕ, ℤ, Bool, true, ◌||◌, List, [], ◌∷◌, ◌++◌, refl, ap, sym, ◌∙◌, subst, inl, inr, append-nil}
use Rattle.std.specs.Prelude.{IsTrue, codes}
use Prim.Native.String.{String}
use Rattle.std.proofs.lemmas.Slice.Eq.{bytes_eq-Decides}
use Rattle.std.proofs.lemmas.Bool.{or_left, or_right, or_cases}
use Rattle.cedar_tokens.specs.Units.{IsToken}
use Rattle.cedar_tokens.specs.Listing.{Decorated, token_value}
use Rattle.cedar_tokens.specs.declared.kind.Kind.{Kind}
use Rattle.cedar_tokens.specs.Kinds.{is}
use Rattle.cedar_tokens.specs.TokenKinds.{kind_of}
use Rattle.cedar_layout.specs.Layout.{Doc, nil, ◌·◌}
use Rattle.cedar_layout.specs.Layout as D
use Rattle.cedar_layout.specs.Comments as C
use Rattle.cedar_grammar.specs.Laws.{AreTokens, kind_of_decorated}
use Rattle.cedar_grammar.proofs.KindSets.{within as is_within, within_at}
use Rattle.cedar_grammar.proofs.Texts.Tests.{has_text, text_agrees}
use Rattle.cedar_laws.specs.Table as T
use Rattle.cedar_laws.specs.Table.{bare_token}
use Rattle.cedar_written.specs.Languages.{◌⋄◌ as ◌⊙◌, ◌∪◌ as ◌⊕◌}
use Rattle.cedar_written.specs.Languages as W
use Rattle.cedar_written.specs.Written as G
use Rattle.cedar_print.specs.WrittenMarks.{Mark, AreMarks, none, both, a_text, a_hard, a_nest, a_group, no_group, begin, end_group, end_nothing, end_nest}
use Rattle.cedar_print.specs.WrittenMarks as M
use Rattle.cedar_writer.specs.Languages.{Lang, ◌⋄◌, ◌∪◌, Many, no_more, one_more, Never, Put, Token, Deeper, Lifted}

abbrev pub Tokens : List Decorated → Type 0
Tokens ts = AreTokens (λ t. t.text) ts

pub tokens_parts : (us vs : List Decorated) → Tokens (us ++ vs) → Tokens us × Tokens vs
tokens_parts [] vs h = (tt, h)
tokens_parts (u ∷ us) vs h = let r = tokens_parts us vs h.1 in ((h.0, r.0), r.1)

pub record Same (X : List Decorated → Doc → Type 0) (Y : List Decorated → List Mark
    → Type 0) : Type 0 where
  -- each document of a row has marks of this row
  pub there : (ts : List Decorated) (d : Doc) → X ts d → (ms : List Mark) × AreMarks ms d × Y ts ms
  -- the marks of a row of tokens are those of a document of this row
  pub back : (ts : List Decorated) (ms : List Mark) → Tokens ts → Y ts ms
      → (d : Doc) × AreMarks ms d × X ts d

-- ---- the marks of tokens
pub lines_marks : (ls : List (List ℕ)) → AreMarks (M.broken_lines ls) (C.broken_lines ls)
lines_marks [] = none
lines_marks (l ∷ ls) = both (M.text l ∷ []) (M.hard ∷ M.broken_lines ls) (D.text l) _ (a_text l)
    (both (M.hard ∷ []) (M.broken_lines ls) D.hard _ a_hard (lines_marks ls))

pub lead_marks : (ls : List (List ℕ)) → AreMarks (M.lead_of ls) (C.lead_of ls)
lead_marks [] = none
lead_marks (l ∷ ls) =
    both (M.hard ∷ []) (M.broken_lines (l ∷ ls)) D.hard _ a_hard (lines_marks (l ∷ ls))

pub trail_marks : (c : List ℕ) (ms : List Mark) (d : Doc) → AreMarks ms d
    → AreMarks (M.trail_of c ms) (C.trail_of c d)
trail_marks [] ms d h = h
trail_marks (c ∷ cs) ms d h = both (M.space ∷ []) _ C.space _ (a_text _)
    (both (M.text (c ∷ cs) ∷ []) (M.hard ∷ []) (D.text (c ∷ cs)) _ (a_text (c ∷ cs)) a_hard)

pub token_marks : (t : Decorated) (ms : List Mark) (d : Doc) → AreMarks ms d
    → AreMarks (M.marks_of t [] ms) (T.C t d)
token_marks t ms d h = both (M.lead_of t.leading) _ (T.lead t) _ (lead_marks t.leading)
    (both (M.text (token_value t.text) ∷ []) (M.trail_of t.trailing ms) (T.tok t) _ (a_text _)
    (trail_marks t.trailing ms d h))

-- ---- languages
pub token_same : (P : List ℕ → Type 0) (p : Kind → Bool) (ms : List Mark) (next : Doc)
    → AreMarks ms next
    → ((t : List ℕ) → P t → IsTrue (p (kind_of t)))
    → ((t : List ℕ) → IsToken t → IsTrue (p (kind_of t)) → P t)
    → Same (W.Token P next) (Token p [] ms)
token_same P p ms next h f g = record {
  there = λ ts d (t, e, c, x). (
    M.marks_of t [] ms,
    subst (AreMarks (M.marks_of t [] ms)) (sym c) (token_marks t ms next h),
    (t, e, refl, f t.text x),
  );
  back = λ ts z k (t, e, c, x). (
    T.C t next,
    subst (λ w. AreMarks w (T.C t next)) (sym c) (token_marks t ms next h),
    (t, e, refl, g t.text (subst Tokens e k).0 x),
  );
}

-- a token has this text if and only if it has this kind
pub kind_is : (s : String) (k : Kind) → has_text k (codes s) ≡ true → (t : List ℕ) → t ≡ codes s
    → IsTrue (is k (kind_of t))
kind_is s k h t e = text_agrees k (codes s) h t ∙ (bytes_eq-Decides (codes s) t).1 (sym e)

pub text_is : (s : String) (k : Kind) → has_text k (codes s) ≡ true → (t : List ℕ)
    → IsTrue (is k (kind_of t)) → t ≡ codes s
text_is s k h t e = sym ((bytes_eq-Decides (codes s) t).0 (sym (text_agrees k (codes s) h t) ∙ e))

-- the token with this text
pub tok_then : (s : String) (k : Kind) (ms : List Mark) (next : Doc) → AreMarks ms next
    → has_text k (codes s) ≡ true → Same (G.TokThen s next) (Token (is k) [] ms)
tok_then s k ms next a h = token_same (λ t. t ≡ codes s) (is k) ms next a
    (kind_is s k h) (λ t y. text_is s k h t)

pub tok : (s : String) (k : Kind) → has_text k (codes s) ≡ true
    → Same (G.Tok s) (Token (is k) [] [])
tok s k h = tok_then s k [] nil none h

-- a token of a set of kinds
pub record TokenSame (X : List Decorated → Doc → Type 0) (p : Kind
    → Bool) (ms ns : List Mark) : Type 0 where
  pub same : Same X (Token p ms ns)

pub word_then : (s : String) (k : Kind) (ms : List Mark) (next : Doc) → AreMarks ms next
    → has_text k (codes s) ≡ true → TokenSame (G.TokThen s next) (is k) [] ms
word_then s k ms next a h = record { same = tok_then s k ms next a h }

pub word : (s : String) (k : Kind) → has_text k (codes s) ≡ true → TokenSame (G.Tok s) (is k) [] []
word s k h = record { same = tok s k h }

-- a token of either of two sets
infixr 23 ◌either◌
pub ◌either◌ : {X X' : W.Lang} {p q : Kind → Bool} {ms ns : List Mark}
    → TokenSame X p ms ns → TokenSame X' q ms ns → TokenSame (X ⊕ X') (λ k. p k || q k) ms ns
◌either◌ {X} {X'} {p} {q} {ms} {ns} x x' = record {
  same = record {
    there = λ ts d y. elim y [
      | inl z ↦ (let a = x.same.there ts d z in
          (a.0, a.1, (a.2.0, a.2.1, a.2.2, or_left _ (q (kind_of_decorated a.2.0)) a.2.3)))
      | inr z ↦ (let a = x'.same.there ts d z in
          (a.0, a.1, (a.2.0, a.2.1, a.2.2, or_right (p (kind_of_decorated a.2.0)) _ a.2.3)))
    ];
    back = λ ts z k (t, e, c, y).
        elim (or_cases (p (kind_of_decorated t)) (q (kind_of_decorated t)) y) [
          | inl w ↦ (let a = x.same.back ts z k (t, e, c, w) in (a.0, a.1, inl a.2))
          | inr w ↦ (let a = x'.same.back ts z k (t, e, c, w) in (a.0, a.1, inr a.2))
        ];
  };
}

-- a set with the same kinds
pub as_set : {X : W.Lang} {p : Kind → Bool} {ms ns : List Mark} (q : Kind → Bool)
    → IsTrue (is_within p q) → IsTrue (is_within q p)
    → TokenSame X p ms ns → TokenSame X q ms ns
as_set {X} {p} {ms} {ns} q i j x = record {
  same = record {
    there = λ ts d y. (let a = x.same.there ts d y in
        (a.0, a.1, (a.2.0, a.2.1, a.2.2, within_at p q i (kind_of_decorated a.2.0) a.2.3)));
    back = λ ts z k (t, e, c, y). x.same.back ts z k (
      t,
      e,
      c,
      within_at q p j (kind_of_decorated t)
          y,
    );
  };
}

infixr 24 ◌then◌
pub ◌then◌ : {X X' : W.Lang} {Y Y' : Lang} → Same X Y → Same X' Y' → Same (X ⊙ X') (Y ⋄ Y')
x then x' = record {
  there = λ ts d (us, vs, e, f, s, c, m, n).
      (let a = x.there us e m in
      let b = x'.there vs f n in (
        a.0 ++ b.0,
        subst (AreMarks (a.0 ++ b.0)) (sym c) (both a.0 b.0 e f a.1 b.1),
        (us, vs, a.0, b.0, s, refl, a.2, b.2),
      ));
  back = λ ts z k (us, vs, e, f, s, c, m, n).
      (let l = tokens_parts us vs (subst Tokens s k) in
      let a = x.back us e l.0 m in
      let b = x'.back vs f l.1 n in (
        a.0 · b.0,
        subst (λ w. AreMarks w (a.0 · b.0)) (sym c) (both e f a.0 b.0 a.1 b.1),
        (us, vs, a.0, b.0, s, refl, a.2, b.2),
      ));
}

infixr 22 ◌or◌
pub ◌or◌ : {X X' : W.Lang} {Y Y' : Lang} → Same X Y → Same X' Y' → Same (X ⊕ X') (Y ∪ Y')
x or x' = record {
  there = λ ts d y. elim y [
    | inl z ↦ (let a = x.there ts d z in (a.0, a.1, inl a.2))
    | inr z ↦ (let a = x'.there ts d z in (a.0, a.1, inr a.2))
  ];
  back = λ ts z k y. elim y [
    | inl w ↦ (let a = x.back ts z k w in (a.0, a.1, inl a.2))
    | inr w ↦ (let a = x'.back ts z k w in (a.0, a.1, inr a.2))
  ];
}

pub never : Same W.Never Never
never = record { there = λ ts d y. absurd y; back = λ ts z k y. absurd y }

pub put : (ms : List Mark) (d : Doc) → AreMarks ms d → Same (W.Put d) (Put ms)
put ms d h = record {
  there = λ ts e (s, c). (ms, subst (AreMarks ms) (sym c) h, (s, refl));
  back = λ ts z k (s, c). (d, subst (λ w. AreMarks w d) (sym c) h, (s, refl));
}

pub maybe : {X : W.Lang} {Y : Lang} → Same X Y → Same (W.Maybe X) (Y ∪ Put [])
maybe x = x or put [] nil none

module _ (X : W.Lang) (Y : Lang) (x : Same X Y) where
  many_there : (ts : List Decorated) (d : Doc) → W.Many X ts d
      → (ms : List Mark) × AreMarks ms d × Many Y ts ms
  many_there _ _ W.no_more = ([], none, no_more)
  many_there _ _ (W.one_more us vs e f y m) =
      let a = x.there us e y in
      let b = many_there vs f m in
      (a.0 ++ b.0, both a.0 b.0 e f a.1 b.1, one_more us vs a.0 b.0 a.2 b.2)

  many_back : (ts : List Decorated) (ms : List Mark) → Tokens ts → Many Y ts ms
      → (d : Doc) × AreMarks ms d × W.Many X ts d
  many_back _ _ k no_more = (nil, none, W.no_more)
  many_back _ _ k (one_more us vs e f y m) =
      let l = tokens_parts us vs k in
      let a = x.back us e l.0 y in
      let b = many_back vs f l.1 m in
      (a.0 · b.0, both e f a.0 b.0 a.1 b.1, W.one_more us vs a.0 b.0 a.2 b.2)

pub many : {X : W.Lang} {Y : Lang} → Same X Y → Same (W.Many X) (Many Y)
many {X} {Y} x = record { there = many_there X Y x; back = many_back X Y x }

pub with_room : {X : W.Lang} {Y : Lang} (room : Bool) → Same X Y
    → Same (λ ts d. IsTrue room × X ts d) (Deeper room Y)
with_room room x = record {
  there = λ ts d (r, y). (let a = x.there ts d y in (a.0, a.1, (r, a.2)));
  back =
      λ ts z k (r, y). (let a = x.back ts z k y in (a.0, a.1, (r, a.2)));
}

-- between marks
abbrev pub Enclosed : List Mark → List Mark → Lang → Lang
Enclosed a b Y = Put a ⋄ Y ⋄ Put b

abbrev pub Between : Mark → Mark → Lang → Lang
Between a b Y = Enclosed (a ∷ []) (b ∷ []) Y

enclosed_row : (a b : List Mark) (Y : Lang) (ts : List Decorated) (ms : List Mark) → Y ts ms
    → Enclosed a b Y ts (a ++ (ms ++ b))
enclosed_row a b Y ts ms y = (
  [],
  ts,
  a,
  ms ++ b,
  refl,
  refl,
  (refl, refl),
  (ts, [], ms, b, sym (append-nil ts), refl, y, (refl, refl)),
)

enclosed_of : (a b : List Mark) (Y : Lang) (ts : List Decorated) (ms : List Mark)
    → Enclosed a b Y ts ms
    → (ns : List Mark) × (ms ≡ a ++ (ns ++ b)) × Y ts ns
enclosed_of a b Y ts ms (us, vs, e, f, s, c, (p, q), (us', vs', e', f', s', c', y, (p', q'))) = (
  e',
  c ∙ (ap (λ z. z ++ f) q ∙ ap (λ z. a ++ z) (c' ∙ ap (λ z. e' ++ z) q')),
  subst (λ z. Y z e') (sym (s ∙ (ap (λ z. z ++ vs) p ∙ (s'
      ∙ (ap (λ z. us' ++ z) p' ∙ append-nil us'))))) y,
)

-- a document that is changed, and the marks before and after it
pub enclosed : (a b : List Mark) (g : Doc → Doc) → ((ms : List Mark) (d : Doc) → AreMarks ms d
    → AreMarks (a ++ (ms ++ b)) (g d))
    → {X : W.Lang} {Y : Lang} → Same X Y → Same (W.Mapped g X) (Enclosed a b Y)
enclosed a b g h {X} {Y} x = record {
  there = λ ts d (e, c, y).
      (let r = x.there ts e y in (
        a ++ (r.0 ++ b),
        subst (AreMarks (a ++ (r.0 ++ b))) (sym c) (h r.0 e r.1),
        enclosed_row a b Y ts r.0 r.2,
      ));
  back = λ ts z k y.
      (let l = enclosed_of a b Y ts z y in
      let r = x.back ts l.0 k l.2 in
      (g r.0, subst (λ w. AreMarks w (g r.0)) (sym l.1) (h l.0 r.0 r.1), (r.0, refl, r.2)));
}

pub group : {X : W.Lang} {Y : Lang} → Same X Y → Same (W.Group X) (Between begin end_group Y)
group x = enclosed (begin ∷ []) (end_group ∷ []) D.group a_group x

pub nest : {X : W.Lang} {Y : Lang} (n : ℤ) → Same X Y
    → Same (W.Nested n X) (Between (M.nest n) end_nest Y)
nest n x = enclosed (M.nest n ∷ []) (end_nest ∷ []) (D.nest n) (a_nest n) x

-- the same with other rows, or with other marks
pub within : {X X' : W.Lang} {Y : Lang}
    → ((ts : List Decorated) (d : Doc) → X' ts d → X ts d)
    → ((ts : List Decorated) (d : Doc) → X ts d → X' ts d) → Same X Y → Same X' Y
within i j x = record {
  there = λ ts d y. x.there ts d (i ts d y);
  back = λ ts z k y. (let r = x.back ts z k y in (r.0, r.1, j ts r.0 r.2));
}

pub written : {X : W.Lang} {Y Y' : Lang}
    → ((ts : List Decorated) (ms : List Mark) → Y' ts ms → Y ts ms)
    → ((ts : List Decorated) (ms : List Mark) → Y ts ms → Y' ts ms) → Same X Y → Same X Y'
written i j x = record {
  there =
      λ ts d y. (let r = x.there ts d y in (r.0, r.1, j ts r.0 r.2));
  back =
      λ ts z k y. x.back ts z k (i ts z y);
}

-- a group that isn't one
pub ungrouped : {X : W.Lang} {Y : Lang} → Same X Y → Same X (Between begin end_nothing Y)
ungrouped {X} x = within (λ ts d y. (d, refl, y)) (λ ts d (e, c, y). subst (X ts) (sym c) y)
    (enclosed (begin ∷ []) (end_nothing ∷ []) (λ d. d) no_group x)

-- the leading lines of the first token, and then a row that has none there
abbrev pub Led : W.Lang → W.Lang
Led X ts d = (t : Decorated) × (us : List Decorated) × (e : Doc) × (ts ≡ t ∷ us)
    × (d ≡ T.lead t · e) × X (bare_token t ∷ us) e

pub lifted : {X : W.Lang} {Y : Lang} → Same X Y → Same (Led X) (Lifted Y)
lifted {X} {Y} x = record {
  there = λ ts d (t, us, e, s, c, y).
      (let r = x.there (bare_token t ∷ us) e y in (
        M.lead_of t.leading ++ r.0,
        subst (AreMarks (M.lead_of t.leading ++ r.0)) (sym c)
            (both (M.lead_of t.leading) r.0 (T.lead t) e (lead_marks t.leading) r.1),
        (t, us, r.0, s, refl, r.2),
      ));
  back = λ ts z k (t, us, e, s, c, y).
      (let l = subst Tokens s k in
      let r = x.back (bare_token t ∷ us) e (l.0, l.1) y in (
        T.lead t · r.0,
        subst (λ w. AreMarks w (T.lead t · r.0)) (sym c)
            (both (M.lead_of t.leading) e (T.lead t) r.0 (lead_marks t.leading) r.1),
        (t, us, r.0, s, refl, r.2),
      ));
}

-- a group that begins after the leading lines of its first token
pub led_group : {X : W.Lang} {Y : Lang} → Same X Y
    → Same (W.LedGroup X) (Lifted (Between begin end_group Y))
led_group {X} {Y} x = within to from (lifted (group x))
  where
    to : (ts : List Decorated) (d : Doc) → W.LedGroup X ts d → Led (W.Group X) ts d
    to [] d y = absurd y
    to (t ∷ ts) d (e, c, y) = (t, ts, D.group e, refl, c, (e, refl, y))

    from : (ts : List Decorated) (d : Doc) → Led (W.Group X) ts d → W.LedGroup X ts d
    from ts d (t, us, e, s, c, (f, h, y)) = subst (λ z. W.LedGroup X z d) (sym s)
        (f, c ∙ ap (λ z. T.lead t · z) h, y)
