-- What a reader gives starts at the first token.
use Rattle.std.specs.Prelude.{◌≡◌, ℕ, zero, suc, Bool, true, false, IsTrue, List, [], ◌∷◌, ◌++◌}
use Rattle.std.proofs.Common.{refl, ap, ◌∙◌, sym}
use Rattle.cedar_tokens.specs.declared.token.Span.{Span}
use Rattle.cedar_tokens.specs.declared.kind.Kind.{Kind}
use Rattle.cedar_tokens.specs.declared.kind.Kind.TheVariants as K
use Rattle.cedar_tokens.specs.Kinds.{is, begins}
use Rattle.cedar_grammar.specs.KindGrammar as G
use Rattle.cedar_grammar.specs.Languages.{Lang}
use Rattle.cedar_grammar.specs.Trees.{Label, Forest, none, leaf, branch, yield}
use Rattle.cedar_grammar.specs.Reader.Reading.{Reader, done, too_deep}
use Rattle.cedar_grammar.specs.Reader.Rules.{Rule, core, nullable, first, expr_first, read}
use Rattle.cedar_grammar.specs.Reader.Lines.{expr_to}
use Rattle.cedar_grammar.proofs.KindSets.{apart, apart_at}
use Rattle.cedar_grammar.proofs.Readers.Languages.{Sound}
use Rattle.cedar_grammar.proofs.Rules.Meanings.{decided}
use Rattle.cedar_grammar.proofs.Rules.Languages.{Begun, read_sound, means_begun}
use Rattle.cedar_grammar.proofs.WholeLaws.{expr_fits}
use Rattle.cedar_reading.specs.Reading.{kind, first_place}
use Rattle.cedar_cst.specs.ReadingExprs.{at_depth}
use Rattle.cedar_reading.specs.declared.lexeme.Lexeme.{Lexeme}
use Rattle.cedar_reading.proofs.LeafTexts.{Covers, kept, kept_leaf, covers_node}

-- the first token is kept, unless it is a comma
none_kept : (f : Forest Label Lexeme) → yield f ≡ [] → kept f ≡ []
none_kept none e = refl
none_kept (leaf a f) e = absurd cc
none_kept (branch l f g) e = go (yield f) refl (λ i. none_kept f i) (λ i. none_kept g i)
  where
    go : (xs : List Lexeme) → yield f ≡ xs → (yield f ≡ [] → kept f ≡ [])
        → (yield g ≡ [] → kept g ≡ []) → kept f ++ kept g ≡ []
    go [] i h k = ap (λ z. z ++ kept g) (h i) ∙ k (sym (ap (λ z. z ++ yield g) i) ∙ e)
    go (x ∷ xs) i h k =
        let j : x ∷ (xs ++ yield g) ≡ [] = sym (ap (λ z. z ++ yield g) i) ∙ e in absurd cc

front : (xs ys zs : List Lexeme) (t : Lexeme) → xs ≡ t ∷ zs → xs ++ ys ≡ t ∷ (zs ++ ys)
front xs ys zs t e = ap (λ z. z ++ ys) e

head_kept : (f : Forest Label Lexeme) (t : Lexeme) (r : List Lexeme) → yield f ≡ t ∷ r
    → is K.Comma t.kind ≡ false → (s : List Lexeme) × (kept f ≡ t ∷ s)
head_kept none t r e h = absurd cc
head_kept (leaf a f) t r e h =
    let same : t ≡ a = cc in (
      kept f,
      ap yield (kept_leaf a a.kind f refl (ap (λ (l : Lexeme). is K.Comma l.kind) (sym same) ∙ h))
          ∙ ap (λ z. z ∷ kept f) (sym same),
    )
head_kept (branch l f g) t r e h =
    go (yield f) refl (λ u i. head_kept f t u i h) (λ i. head_kept g t r i h)
  where
    go : (xs : List Lexeme) → yield f ≡ xs
        → ((u : List Lexeme) → yield f ≡ t ∷ u → (s : List Lexeme) × (kept f ≡ t ∷ s))
        → (yield g ≡ t ∷ r → (s : List Lexeme) × (kept g ≡ t ∷ s))
        → (s : List Lexeme) × (kept f ++ kept g ≡ t ∷ s)
    go [] i a b =
        let k = b (sym (ap (λ z. z ++ yield g) i) ∙ e) in
        (k.0, ap (λ z. z ++ kept g) (none_kept f i) ∙ k.1)
    go (x ∷ xs) i a b =
        let j : x ∷ (xs ++ yield g) ≡ t ∷ r = sym (ap (λ z. z ++ yield g) i) ∙ e in
        let same : x ≡ t = cc in
        let k = a xs (i ∙ ap (λ z. z ∷ xs) same) in
        (k.0 ++ kept g, front (kept f) (kept g) k.0 t k.1)

head_place : (f : Forest Label Lexeme) (ts r : List Lexeme) (s : Span) → ts ≡ yield f ++ r
    → begins kind (is K.Comma) ts ≡ false → Covers s (kept f) → first_place ts ≡ s.start
head_place f ts r s e h c = go (yield f) refl
  where
    go : (xs : List Lexeme) → yield f ≡ xs → first_place ts ≡ s.start
    go [] i = absurd (let k = none_kept f i in cc)
    go (x ∷ xs) i =
        let j : ts ≡ x ∷ (xs ++ r) = e ∙ ap (λ z. z ++ r) i in
        let k = head_kept f x xs i (sym (ap (begins kind (is K.Comma)) j) ∙ h) in
        ap first_place j ∙ started x k.0 k.1
      where
        started : (x : Lexeme) (xs : List Lexeme) → kept f ≡ x ∷ xs → x.span.start ≡ s.start
        started x xs k = cc

no_comma : (n : Bool) (p : Kind → Bool) (xs r : List Lexeme) → n ≡ false
    → IsTrue (apart p (is K.Comma)) → Begun kind n p xs → begins kind (is K.Comma) (xs ++ r) ≡ false
no_comma n p [] r e a b = absurd (let k : true ≡ false = sym b ∙ e in cc)
no_comma n p (x ∷ xs) r e a b = apart_at p (is K.Comma) a x.kind b

module _ (room : Bool) (E : Reader Lexeme) (X : Lang Lexeme)
    (h : (f : Forest Label Lexeme) → X f → Begun kind false expr_first (yield f))
    (s : Sound E X) where
  row_start : (R : Rule) → IsTrue (decided R) → nullable R ≡ false
      → IsTrue (apart (first R) (is K.Comma))
      → (ts : List Lexeme) (f : Forest Label Lexeme) (r : List Lexeme) (u : Span)
      → read kind room E R ts ≡ done f r → Covers u (kept f) → first_place ts ≡ u.start
  row_start R d n a ts f r u e c =
      let q = read_sound kind room E X s R ts f r e in
      head_place f ts r u q.tokens (ap (begins kind (is K.Comma)) q.tokens
      ∙ no_comma (nullable R) (first R) (yield f) r n a (means_begun kind room X h R d f q.among)) c

-- what is read starts where the first token starts
pub starts_at : (d : ℕ) (R : Rule) → IsTrue (decided (core R)) → nullable (core R) ≡ false
    → IsTrue (apart (first (core R)) (is K.Comma))
    → (ts : List Lexeme) (f : Forest Label Lexeme) (r : List Lexeme) (u : Span)
    → at_depth d R ts ≡ done f r → Covers u (kept f) → first_place ts ≡ u.start
starts_at zero R d n a ts f r u e c = row_start false too_deep (λ f. ⊥) (λ f x. absurd x)
    (λ ts f r e. absurd cc) (core R) d n a ts f r u e c
starts_at (suc m) R d n a ts f r u e c =
    let h = expr_fits kind m in
    row_start true (expr_to kind m) (G.Expr kind m) h.begun h.sound (core R) d n a ts f r u e c

pub node_starts : (d : ℕ) (R : Rule) → IsTrue (decided (core R)) → nullable (core R) ≡ false
    → IsTrue (apart (first (core R)) (is K.Comma))
    → (l : Label) (ts : List Lexeme) (f : Forest Label Lexeme) (r : List Lexeme) (u : Span)
    → at_depth d R ts ≡ done (branch l f none) r → Covers u (kept f) → first_place ts ≡ u.start
node_starts d R i n a l ts f r u e c =
    starts_at d R i n a ts (branch l f none) r u e (covers_node l u f c)
