-- The rule of policies has the rows of the written grammar, and so has each list of them.
use Rattle.std.proofs.Common.{◌≡◌, ℕ, ℤ, Bool, true, false, List, [], ◌∷◌, ◌++◌, length, refl, ap, sym, ◌∙◌, subst, inl, inr, append-nil}
use Rattle.std.specs.List.{AllZip}
use Rattle.cedar_tokens.specs.Listing.{Decorated}
use Rattle.cedar_tokens.specs.TokenKinds.{kind_of}
use Rattle.cedar_tokens.specs.declared.kind.Kind.{Kind}
use Rattle.cedar_tokens.specs.declared.kind.Kind.TheVariants as K
use Rattle.cedar_layout.specs.Layout.{Doc, nil, ◌·◌}
use Rattle.cedar_layout.specs.Layout as D
use Rattle.cedar_layout.specs.Comments.{space}
use Rattle.cedar_written.specs.Languages.{◌⋄◌ as ◌⊙◌, ◌∪◌ as ◌⊕◌}
use Rattle.cedar_written.specs.Languages as L
use Rattle.cedar_written.specs.Written as W
use Rattle.cedar_print.specs.WrittenMarks.{Mark, AreMarks, none, a_hard}
use Rattle.cedar_print.specs.WrittenMarks as M
use Rattle.cedar_writer.specs.Rules as R
use Rattle.cedar_writer.specs.Lines as l
use Rattle.cedar_writer.specs.Languages.{Lang, Looking, looks, means, Expr, Policy, PolicySet, no_policy, a_policy}
use Rattle.cedar_writer.specs.Laws.{ExpressionsAgree, PoliciesAgree, SetsAreWritten, SetsAreOfDocuments}
use Rattle.cedar_writer.proofs.SameRows.{Same, Tokens, tokens_parts, tok, tok_then, word, ◌either◌, ◌then◌, ◌or◌, many, maybe, within, led_group}
use Rattle.cedar_writer.proofs.Regrouped as G
use Rattle.cedar_writer.proofs.LineRows as rows
use Rattle.cedar_writer.proofs.LineRows.{line, hard, comma, expr}
use Rattle.cedar_writer.proofs.BareScopes.{Ends, Told, follows, variables_told}

-- where the row begins so, or doesn't
looking : {X : L.Lang} {Y : Lang} (q : List (Kind → Bool)) (b : Bool) → Same X Y
    → Same (λ ts d. (looks q ts ≡ b) × X ts d) (Looking q b Y)
looking q b x = record {
  there = λ ts d (e, y). (let a = x.there ts d y in (a.0, a.1, (e, a.2)));
  back = λ ts z k (e, y). (let a = x.back ts z k y in (a.0, a.1, (e, a.2)));
}

module _ (i : ℤ) (n : ℕ) where
  abbrev Means : R.Rule → Lang
  Means r = means true (Expr i n) r

  -- what comes after the scope
  abbrev After : L.Lang
  After = L.Maybe (W.Tok ",") ⊙ (W.Tok ")" ⊕ W.TokThen ")" D.hard ⊙ W.Cond i n ⊙ L.Many
      (L.Put D.hard ⊙ W.Cond i n)) ⊙ W.Tok ";"

  rest : Same After (Means (l.policy_end i))
  rest = within (G.ends _ _ _ _ _ _) (G.ends_back _ _ _ _ _ _) (maybe comma
      then (tok_then ")" K.RParen (M.hard ∷ []) D.hard a_hard refl then rows.cond i n then many
      (hard then rows.cond i n) then semicolon
      or tok ")" K.RParen refl then semicolon))
    where
      semicolon : Same (W.Tok ";") (Means (R.tok K.SemiColon))
      semicolon = tok ";" K.SemiColon refl

  closing : (ts : List Decorated) (d : Doc)
      → ((W.Tok ")" ⊕ W.TokThen ")" D.hard ⊙ W.Cond i n ⊙ L.Many (L.Put D.hard ⊙ W.Cond i n)) ⊙
      W.Tok ";") ts d → Ends ts
  closing ts d (us, vs, e, f, s, c, inl (t, p, q, r), y) =
      (t, vs, s ∙ ap (λ z. z ++ vs) p, ap (λ z. follows (kind_of z)) r)
  closing ts d (us, vs, e, f, s, c, inr (us', vs', e', f', s', c', (t, p, q, r), x), y) = (
    t,
    vs' ++ vs,
    s ∙ (ap (λ z. z ++ vs) s' ∙ ap (λ z. (z ++ vs') ++ vs) p),
    ap
        (λ z. follows (kind_of z)) r,
  )

  rest_ends : (ts : List Decorated) (d : Doc) → After ts d → Ends ts
  rest_ends ts d (us, vs, e, f, s, c, inl (t, p, q, r), y) =
      (t, vs, s ∙ ap (λ z. z ++ vs) p, ap (λ z. follows (kind_of z)) r)
  rest_ends ts d (us, vs, e, f, s, c, inr x, y) =
      let a = closing vs f y in (a.0, a.1, s ∙ (ap (λ z. z ++ vs) x.0 ∙ a.2), a.3)

  abbrev Bare : L.Lang
  Bare = L.Group (L.Nested i (W.Variables i space))

  abbrev Broken : L.Lang
  Broken = L.Nested i (L.Put D.hard ⊙ W.Variables i D.hard) ⊙ L.Put D.hard

  -- the scope and what comes after it, as the first tokens tell it
  abbrev By : L.Lang
  By = (λ ts d. (looks l.bare ts ≡ true) × (Bare ⊙ After) ts d) ⊕ (λ ts d. (looks l.bare ts ≡ false)
      × (Broken ⊙ After) ts d)

  bare_told : (us vs : List Decorated) (d f : Doc) → Bare us d → After vs f → Told us vs
  bare_told us vs d f (e, c, (e', c', x)) y = variables_told i space us vs e' x (rest_ends vs f y)

  broken_told : (us vs : List Decorated) (d f : Doc) → Broken us d → After vs f → Told us vs
  broken_told us vs d f (us', vs', e, g, s, c, (e', c', (us2, vs2, e2, g2, s2, c2, p, x)), q) y =
      let a : us ≡ vs2 = s ∙ (ap (λ z. us' ++ z) q.0 ∙ (append-nil us'
      ∙ (s2 ∙ ap (λ z. z ++ vs2) p.0))) in
      subst (λ z. Told z vs) (sym a) (variables_told i D.hard vs2 vs g2 x (rest_ends vs f y))

  by_tokens : G.To (W.Scope i ⊙ After) By
  by_tokens ts d (us, vs, e, f, s, c, inl (five, x), y) =
      inl (go (bare_told us vs e f x y), (us, vs, e, f, s, c, x, y))
    where
      go : Told us vs → looks l.bare ts ≡ true
      go (inl (a, b)) = ap (looks l.bare) s ∙ b
      go (inr (a, b)) = absurd (a five)
  by_tokens ts d (us, vs, e, f, s, c, inr (five, x), y) =
      inr (go (broken_told us vs e f x y), (us, vs, e, f, s, c, x, y))
    where
      go : Told us vs → looks l.bare ts ≡ false
      go (inl (a, b)) = absurd (five a)
      go (inr (a, b)) = ap (looks l.bare) s ∙ b

  by_length : G.To By (W.Scope i ⊙ After)
  by_length ts d (inl (h, (us, vs, e, f, s, c, x, y))) =
      (us, vs, e, f, s, c, inl (go (bare_told us vs e f x y), x), y)
    where
      go : Told us vs → length us ≡ 5
      go (inl (a, b)) = a
      go (inr (a, b)) = let z : true ≡ false = sym h ∙ (ap (looks l.bare) s ∙ b) in absurd cc
  by_length ts d (inr (h, (us, vs, e, f, s, c, x, y))) =
      (us, vs, e, f, s, c, inr (go (broken_told us vs e f x y), x), y)
    where
      go : Told us vs → ¬ (length us ≡ 5)
      go (inl (a, b)) = let z : false ≡ true = sym h ∙ (ap (looks l.bare) s ∙ b) in absurd cc
      go (inr (a, b)) = a

  pub policy : Same (W.Policy i n) (Policy i n)
  policy = many (rows.annotation i true (expr i n))
      then led_group ((word "permit" K.Permit refl either word "forbid" K.Forbid refl).same then
      line then tok "(" K.LParen refl)
      then within by_tokens by_length (looking l.bare true
      (rows.bare_scope i true (expr i n) then rest)
      or looking l.bare false (rows.broken_scope i true (expr i n) then rest))

  -- ---- lists of policies
  set_there : (ts : List Decorated) (ds : List Doc) → W.PolicySet i n ts ds
      → (mss : List (List Mark)) × AllZip AreMarks mss ds × PolicySet i n ts mss
  set_there _ _ W.no_policy = ([], tt, no_policy)
  set_there _ _ (W.a_policy ts us d ds x y) =
      let a = policy.there ts d x in
      let b = set_there us ds y in (a.0 ∷ b.0, (a.1, b.1), a_policy ts us a.0 b.0 a.2 b.2)

  set_back : (ts : List Decorated) (mss : List (List Mark)) → Tokens ts → PolicySet i n ts mss
      → (ds : List Doc) × AllZip AreMarks mss ds × W.PolicySet i n ts ds
  set_back _ _ k no_policy = ([], tt, W.no_policy)
  set_back _ _ k (a_policy ts us ms mss x y) =
      let t = tokens_parts ts us k in
      let a = policy.back ts ms t.0 x in
      let b = set_back us mss t.1 y in (a.0 ∷ b.0, (a.1, b.1), W.a_policy ts us a.0 b.0 a.2 b.2)

pub expressions_agree : ExpressionsAgree
expressions_agree i n = (λ ts d x. (expr i n).there ts d x, λ ts ms k x. (expr i n).back ts ms k x)

pub policies_agree : PoliciesAgree
policies_agree i n = (λ ts d x. (policy i n).there ts d x, λ ts ms k x. (policy i n).back ts ms k x)

pub sets_are_written : SetsAreWritten
sets_are_written i n ts ds x = set_there i n ts ds x

pub sets_are_of_documents : SetsAreOfDocuments
sets_are_of_documents i n ts mss k x = set_back i n ts mss k x
