-- Signs before a member.
use Rattle.std.specs.Prelude.{◌≡◌, ℕ, zero, suc, ◌+◌, ◌<◌, ◌≤◌, ◌||◌, Bool, false, List, [], ◌∷◌, Some, None, codes}
use Rattle.std.specs.Borrow.{Bor}
use Rattle.std.proofs.Common.{refl, sym, ap, ◌∙◌, arith, subst}
use Rattle.std.proofs.lemmas.Bool.{or_from}
use Rattle.cedar_tokens.specs.declared.token.Span.{Span}
use Rattle.cedar_tokens.specs.declared.kind.Kind.{Kind}
use Rattle.cedar_tokens.specs.declared.kind.Kind.TheVariants as K
use Rattle.cedar_tokens.specs.Kinds.{is, begins}
use Rattle.cedar_grammar.specs.Trees.{Label, Forest, none, leaf, join}
use Rattle.cedar_grammar.specs.Reader.Reading.{Reader, done, choice, both, skip, one}
use Rattle.cedar_grammar.proofs.Readers.Equations.{choice_yes, choice_no, both_done}
use Rattle.cedar_grammar.specs.Erased.{Erased, times}
use Rattle.cedar_reading.specs.Reading.{kind, Stands, first_place}
use Rattle.cedar_reading.specs.ReadingSigns.{Leads, GoesPastSigns, GivesSigns}
use Rattle.cedar_reading.specs.declared.lexeme.Lexeme.{Lexeme}
use Rattle.cedar_grammar.specs.declared.tree.NegOp.{NegOp}
use Rattle.cedar_reading.proofs.Rows.{row_more, row_parts, row_span}
use Rattle.cedar_reading.proofs.Steps.{token_at, first_begins, is_itself}
use Rattle.cedar_tokens.specs.Inside.FixedTexts.{is_open, fixed_text}

-- one more sign
leads_next : (k : Kind) (n : ℕ) (ts rest : List Lexeme) (t : Lexeme) (r : List Lexeme)
    → Leads k n ts rest → rest ≡ t ∷ r → t.kind ≡ k → Leads k (suc n) ts r
leads_next k zero ts rest t r l e h = (t, r, l ∙ e, h, refl)
leads_next k (suc n) ts rest t r l e h = (l.0, l.1, l.2, l.3, leads_next k n l.1 rest t r l.4 e h)

pub leads_more : (k : Kind) (n : ℕ) (ts rest : List Lexeme) (t : Lexeme) (r : List Lexeme)
    → Leads k n ts rest → rest ≡ t ∷ r → t.kind ≡ k → Leads k (n + 1) ts r
leads_more k n ts rest t r l e h =
    let i : suc n ≡ n + 1 = omega arith in
    subst (λ z. Leads k z ts r) i (leads_next k n ts rest t r l e h)

leads_first : (k : Kind) (p : Kind → Bool) (n : ℕ) (ts rest : List Lexeme) → Leads k (suc n) ts rest
    → begins kind p ts ≡ p k
leads_first k p n ts rest l = first_begins p ts l.0 l.1 l.2 ∙ ap p l.3

-- signs of this kind, with this text
module _ (k : Kind) (text : List ℕ) (comma : is K.Comma k ≡ false) (fixed : is_open k ≡ false)
    (shows : fixed_text k ≡ text) where
  -- one sign, and at most so many more
  abbrev sign_reader : ℕ → Reader Lexeme
  sign_reader zero = one kind k
  sign_reader (suc n) =
      both (one kind k) (λ ts. choice (begins kind (is k) ts) (sign_reader n) skip ts)

  -- one sign and m more are read, where n more may follow
  record SignsRead (n m : ℕ) (ts rest : List Lexeme) : Type 0 where
    row : Forest Label Lexeme
    read : sign_reader n ts ≡ done row rest
    before : (s : Span) (p : Erased) (g : Forest Label Lexeme) → Stands s p g → Stands
        (record { start = first_place ts; end = s.end }) (times (suc m) text p) (join row g)

  sign_at : (ts : List Lexeme) (t : Lexeme) (r : List Lexeme) → ts ≡ t ∷ r → t.kind ≡ k
      → one kind k ts ≡ done (leaf t none) r
  sign_at ts t r e h = token_at (is k) ts t r e (is_itself k t.kind (sym h))

  sign_before : (ts : List Lexeme) (t : Lexeme) (r : List Lexeme) → ts ≡ t ∷ r → t.kind ≡ k
      → (s : Span) (p : Erased) (g : Forest Label Lexeme) → Stands s p g
      → Stands (record { start = first_place ts; end = s.end }) (leaf text p) (leaf t g)
  sign_before ts t r e h s p g st =
      row_span _ _ _ _ (ap (λ z. record { start = z; end = s.end }) (sym (ap first_place e)))
      (row_parts _ _ _ _ (ap (λ u. leaf u p) (sym shows))
      (row_more t k s p g h comma fixed st))

  signs_read : (n m : ℕ) (ts rest : List Lexeme) → m ≤ n → Leads k (suc m) ts rest
      → (m < n → begins kind (is k) rest ≡ false) → SignsRead n m ts rest
  signs_read zero zero ts rest i l b = record {
    row = leaf l.0 none;
    read = sign_at ts l.0 l.1 l.2 l.3 ∙ ap (done (leaf l.0 none)) l.4;
    before = sign_before ts l.0 l.1 l.2 l.3;
  }
  signs_read zero (suc m) ts rest i l b = absurd (omega arith)
  signs_read (suc n) zero ts rest i l b = record {
    row = leaf l.0 none;
    read = both_done (one kind k) _ ts (leaf l.0 none) l.1 none l.1 (sign_at ts l.0 l.1 l.2 l.3)
        (choice_no _ (sign_reader n) skip l.1 (ap (begins kind (is k)) l.4 ∙ b (omega arith)))
        ∙ ap (done (leaf l.0 none)) l.4;
    before = sign_before ts l.0 l.1 l.2 l.3;
  }
  signs_read (suc n) (suc m) ts rest i l b =
      let more = signs_read n m l.1 rest (omega arith) l.4 (λ h. b (omega (arith, h))) in
      record {
        row = leaf l.0 more.row;
        read = both_done (one kind k) _ ts (leaf l.0 none) l.1 more.row rest
            (sign_at ts l.0 l.1 l.2 l.3)
            (choice_yes _ (sign_reader n) skip l.1 (leads_first k (is k) m l.1 rest l.4
            ∙ is_itself k k refl) ∙ more.read);
        before = λ s p g st.
            sign_before ts l.0 l.1 l.2 l.3 (record { start = first_place l.1; end = s.end })
            (times (suc m) text p) (join more.row g) (more.before s p g st);
      }

-- the signs that were read
pub bangs_give : (ts : List Lexeme) (n : ℕ) (rest : Bor (List Lexeme))
    → GoesPastSigns K.Neg ts (n, rest) → 0 < n → GivesSigns ts (Some (NegOp.Bang n), rest)
bangs_give ts zero rest h p = absurd (omega (arith, p))
bangs_give ts (suc n) rest h p =
    let i : suc n ≤ 4 = h.0 in
    let b = h.2 in
    let r = signs_read K.Neg (codes "!") refl refl refl 3 n ts rest.now
    (omega (arith, i)) h.1 (λ q. b (omega (arith, q))) in (
      r.row,
      choice_yes _ _ skip ts (leads_first K.Neg (λ x. is K.Neg x || is K.Dash x) n ts rest.now h.1)
          ∙ choice_yes _ _ _ ts (leads_first K.Neg (is K.Neg) n ts rest.now h.1) ∙ r.read,
      r.before,
    )

pub dashes_give : (ts : List Lexeme) (n : ℕ) (rest : Bor (List Lexeme))
    → GoesPastSigns K.Dash ts (n, rest) → 0 < n → GivesSigns ts (Some (NegOp.Dash n), rest)
dashes_give ts zero rest h p = absurd (omega (arith, p))
dashes_give ts (suc n) rest h p =
    let i : suc n ≤ 4 = h.0 in
    let b = h.2 in
    let r = signs_read K.Dash (codes "-") refl refl refl 3 n ts rest.now
    (omega (arith, i)) h.1 (λ q. b (omega (arith, q))) in (
      r.row,
      choice_yes _ _ skip ts (leads_first K.Dash (λ x. is K.Neg x || is K.Dash x) n ts rest.now h.1)
          ∙ choice_no _ _ _ ts (leads_first K.Dash (is K.Neg) n ts rest.now h.1) ∙ r.read,
      r.before,
    )

-- no sign of this kind
no_sign : (k : Kind) (ts : List Lexeme) (n : ℕ) (rest : Bor (List Lexeme))
    → GoesPastSigns k ts (n, rest) → n ≤ 0 → begins kind (is k) ts ≡ false
no_sign k ts zero rest h p = let b = h.2 in ap (begins kind (is k)) h.1 ∙ b (omega arith)
no_sign k ts (suc n) rest h p = absurd (omega (arith, p))

neither : (ts : List Lexeme) → begins kind (is K.Neg) ts ≡ false
    → begins kind (is K.Dash) ts ≡ false → begins kind (λ x. is K.Neg x || is K.Dash x) ts ≡ false
neither [] h i = refl
neither (t ∷ ts) h i = or_from (is K.Neg t.kind) (is K.Dash t.kind) h i

pub no_signs_give : (ts : Bor (List Lexeme)) (n m : ℕ) (r s : Bor (List Lexeme))
    → GoesPastSigns K.Neg ts.now (n, r) → n ≤ 0 → GoesPastSigns K.Dash ts.now (m, s) → m ≤ 0
    → GivesSigns ts.now (None, ts)
no_signs_give ts n m r s h p i q = (
  none,
  choice_no _ _ skip ts.now
      (neither ts.now (no_sign K.Neg ts.now n r h p) (no_sign K.Dash ts.now m s i q)),
  λ s p g st. st,
)
