-- What `==` and `clone` do on tokens and comments.
use Rattle.std.specs.Prelude.{◌≡◌, ◌&&◌, Bool, true, false, List, [], ◌∷◌, ℕ, map, nat_eq}
use Rattle.std.proofs.Common.{refl, sym, ap, subst, inl, inr}
use Rattle.std.specs.Bool.{Decides}
use Rattle.std.specs.Borrow.{Bor}
use Rattle.std.specs.Cmp.Derive.Mapped.{pointwise-map}
use Rattle.std.specs.List.{each_same}
use Rattle.std.proofs.lemmas.Bool.Decides.{Decides-eqb, Decides-and}
use Rattle.std.proofs.lemmas.Slice.Eq.{slice_eq-Decides}
use lib.Dec.{T}
use lib.Pointwise.{pointwise}
use mathlib.Core.Bool.{true≢false}
use denote.Struct.Field.{Field}
use denote.Enum.Declared.{Choice, values_one}
use denote.Enum.Compared.{Each, by}
use Rattle.cedar_tokens.specs.Equality.{SameToken, TokenEqualityIsByParts, CommentEqualityIsByParts, WrappedEqualityIsByParts, TokenClonesAreEqual, CommentClonesAreEqual, WrappedClonesAreEqual}
use Rattle.cedar_tokens.specs.contracts.token.Token as the_token
use Rattle.cedar_tokens.specs.contracts.token.TokenPartialEq.TheImpl as token_equality
use Rattle.cedar_tokens.specs.contracts.token.TokenEq.TheImpl.Laws as token_laws
use Rattle.cedar_tokens.specs.contracts.token.TokenClone.TheImpl as token_clone
use Rattle.cedar_tokens.specs.declared.token.Span.{Span}
use Rattle.cedar_tokens.specs.declared.token.Token.{Token}
use Rattle.cedar_tokens.specs.declared.token.Token.TheVariants.{Identifier, Number, Str}

-- the variant has no field
abbrev Fixed : (Fss : List (List Field)) → Choice Fss → Type 0
Fixed [] c = absurd c
Fixed ([] ∷ Fss) (inl x) = Unit {0}
Fixed ([] ∷ Fss) (inr c) = Fixed Fss c
Fixed ((F ∷ Fs) ∷ Fss) (inl x) = ⊥
Fixed ((F ∷ Fs) ∷ Fss) (inr c) = Fixed Fss c

-- a variant without fields equals only itself
told_choice : (Fss : List (List Field)) (each : Each Bool Fss) (c d : Choice Fss) → Fixed Fss c
    → by false false Fss each c d ≡ true → c ≡ d
told_choice [] each c d p h = absurd c
told_choice ([] ∷ Fss) each (inl x) (inl y) p h = refl
told_choice ([] ∷ Fss) each (inl x) (inr d) p h = absurd (true≢false (sym h))
told_choice ([] ∷ Fss) each (inr c) (inl y) p h = absurd (true≢false (sym h))
told_choice ([] ∷ Fss) each (inr c) (inr d) p h = ap inr (told_choice Fss each.1 c d p h)
told_choice ((F ∷ Fs) ∷ Fss) each (inl x) d p h = absurd p
told_choice ((F ∷ Fs) ∷ Fss) each (inr c) (inl y) p h = absurd (true≢false (sym h))
told_choice ((F ∷ Fs) ∷ Fss) each (inr c) (inr d) p h = ap inr (told_choice Fss each.1 c d p h)

told_fixed : (a b : Token) → Fixed the_token.enum.parts (the_token.enum.as_values a)
    → (token_equality.ghosts).eq a b ≡ true → a ≡ b
told_fixed a b p h = values_one the_token.enum a b (told_choice the_token.enum.parts _
    (the_token.enum.as_values a) (the_token.enum.as_values b) p h)

-- ---- lists of bytes

text_decides : (xs ys : List ℕ) → Decides (pointwise nat_eq xs ys) (xs ≡ ys)
text_decides xs ys = slice_eq-Decides Decides-eqb xs ys _ refl

lines_decides : (xs ys : List (Bor (List ℕ))) → Decides (pointwise
    (λ a b. pointwise nat_eq a.now b.now) xs ys) (map (λ l. l.now) xs ≡ map (λ l. l.now) ys)
lines_decides xs ys =
    slice_eq-Decides text_decides _ _ _ (sym (pointwise-map (λ l. l.now) (pointwise nat_eq) xs ys))

-- ---- `==`

told_same : (a b : Token) → (token_equality.ghosts).eq a b ≡ true → SameToken a b
told_same (Identifier s) (Identifier t) h = (text_decides _ _).0 h
told_same (Number s) (Number t) h = (text_decides _ _).0 h
told_same (Str s) (Str t) h = (text_decides _ _).0 h
told_same (Identifier s) b h = absurd (true≢false (sym h))
told_same (Number s) b h = absurd (true≢false (sym h))
told_same (Str s) b h = absurd (true≢false (sym h))
told_same a b h = told_fixed a b tt h

same_told : (a b : Token) → SameToken a b → (token_equality.ghosts).eq a b ≡ true
same_told (Identifier s) (Identifier t) h = (text_decides _ _).1 h
same_told (Number s) (Number t) h = (text_decides _ _).1 h
same_told (Str s) (Str t) h = (text_decides _ _).1 h
same_told a b h = subst (λ z. (token_equality.ghosts).eq a z ≡ true) h (token_laws.laws-law.refl a)

pub tokens : TokenEqualityIsByParts
tokens a b = (told_same a b, same_told a b)

pub comments : CommentEqualityIsByParts
comments a b = Decides-and _ _ (lines_decides a.leading.items b.leading.items)
    (text_decides a.trailing.now b.trailing.now)

span_decides : (a b : Span) → Decides (nat_eq a.start b.start && nat_eq a.end b.end) (a ≡ b)
span_decides a b =
    let d = Decides-and _ _ (Decides-eqb a.start b.start) (Decides-eqb a.end b.end) in (
      λ h. λ i. record { start = (d.0 h).0 i; end = (d.0 h).1 i },
      λ e. d.1 (ap (λ s. s.start) e, ap (λ s. s.end) e),
    )

pub wrapped : WrappedEqualityIsByParts
wrapped a b =
    let d = Decides-and _ _ (tokens a.token b.token)
    (Decides-and _ _ (comments a.comment b.comment) (span_decides a.span b.span)) in (
      λ h. ((d.0 h).0, (d.0 h).1.0, (d.0 h).1.1),
      λ k. d.1 (k.0, (k.1, k.2)),
    )

-- ---- `clone`

true_at : (t : Bool) → T t → t ≡ true
true_at true h = refl
true_at false h = absurd h

at_true : (t : Bool) → t ≡ true → T t
at_true true h = tt
at_true false h = absurd (true≢false (sym h))

-- for any two variants but these three pairs, both sides are the same once both are known:
-- hence the line before the last
copied : (a b : Token) → (token_clone.ghosts).is_clone a b → T ((token_equality.ghosts).eq a b)
copied (Identifier s) (Identifier t) h = at_true _ ((text_decides _ _).1 (sym h))
copied (Number s) (Number t) h = at_true _ ((text_decides _ _).1 (sym h))
copied (Str s) (Str t) h = at_true _ ((text_decides _ _).1 (sym h))
copied a (Identifier t) h = h
copied a b h = h

pub token_clones : TokenClonesAreEqual
token_clones a b h = true_at _ (copied a b h)

pub comment_clones : CommentClonesAreEqual
comment_clones a b h = (comments a b).1 (
  ap (map (λ l. l.now)) (sym (each_same _ _ h.0.0)),
  ap (λ l. l.now) (sym h.1),
)

pub wrapped_clones : WrappedClonesAreEqual
wrapped_clones a b h = (wrapped a b).1 (
  (tokens a.token b.token).0 (token_clones a.token b.token h.0),
  (comments a.comment b.comment).0 (comment_clones a.comment b.comment h.1.0),
  sym h.1.1,
)
