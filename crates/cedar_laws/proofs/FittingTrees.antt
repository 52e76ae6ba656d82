-- The leaves of the grammar's trees fit.
use Rattle.std.proofs.Common.{◌≡◌, ℕ, Bool, true, false, cond, not, ◌||◌, ◌==◌, ◌⊎◌, inl, inr, List, [], ◌∷◌, ◌++◌, length, refl, ap, arith, sym, ◌∙◌, subst}
use Rattle.std.specs.Prelude.{IsTrue, codes}
use Rattle.std.specs.List.{list_all, AllByRecursion, flat_map}
use Rattle.std.specs.Str.{bytes_eq}
use Rattle.std.specs.Char.{is_ascii_digit}
use Rattle.std.proofs.lemmas.Slice.Eq.{bytes_eq-Decides}
use Rattle.std.proofs.lemmas.Bool.Decides.{nat_tests, Decides-eqb}
use Rattle.std.proofs.lemmas.Bool.{or_cases, or_right, and_parts, both_ways, not-true}
use Rattle.std.proofs.lemmas.List.{nil_from_length}
use Rattle.cedar_tokens.specs.Bytes.{backslash, colon, line_feed, quote, space_character}
use Rattle.cedar_tokens.specs.Units.{IsToken, is_token, is_number, is_one_of, is_word_byte, is_string_rest, punctuators}
use Rattle.cedar_tokens.specs.Listing.{Decorated, token_value, without_zeros}
use Rattle.cedar_tokens.proofs.Heads.{class, word, number, string, slot as slot_token, punctuator, token_of, no_empty_token, one_of}
use Rattle.cedar_tokens.proofs.Strings.{rest_test, rest_of}
use Rattle.cedar_tokens.proofs.Longest.{slot_is}
use Rattle.cedar_tokens.proofs.Lists.{All-parts}
use Rattle.cedar_tokens.specs.declared.kind.Kind.{Kind}
use Rattle.cedar_tokens.specs.declared.kind.Kind.TheVariants as K
use Rattle.cedar_tokens.specs.Kinds.{is}
use Rattle.cedar_tokens.specs.TokenKinds.{fixed_tokens, other_kind, kind_among, kind_of}
use Rattle.cedar_grammar.specs.Laws.{kind_of_decorated}
use Rattle.cedar_grammar.proofs.Typed.FittingLeaves.{Fits, PartFits, is_atom, is_sign}
use Rattle.cedar_grammar.specs.TypedTrees.{Tree, NodeKind, PartKind, Clause, variable_bare, variable_is, variable_op, variable_is_op, cond_of, no_cond, conds_more, annotation_bare, annotation_value, no_annotation, annotations_more, policy_of, name_one, name_more, ref_of, args_one, args_more, init_of, inits_one, inits_more, literal, slot, reference, named, parens, list_empty, list_of, record_empty, record_of, no_access, field, call_empty, call, index, member_of, unsigned, signed, products_one, products_more, mult_of, sums_one, sums_more, add_of, single, compare, has_or_like, is_type, is_in, ands_one, ands_more, ors_one, ors_more, ors_expr, if_expr, policy, tree_yield, part_yield}
use Rattle.cedar_laws.specs.Neighbours.{glues, first_or}
use Rattle.cedar_layout.specs.Cleaning.{last_byte_or}
use Rattle.cedar_laws.specs.Fit.{is_start, Ends, IsMark, IsWord, Fit, PartFit}
use Rattle.cedar_laws.proofs.Listed.{number_value}
use Rattle.cedar_laws.proofs.Units.{last_passes}

-- ---- marks

-- the texts of this kind
abbrev texts_with : Kind → List (List ℕ × Kind) → List (List ℕ)
texts_with k [] = []
texts_with k (f ∷ fs) = cond (is k f.1) (f.0 ∷ texts_with k fs) (texts_with k fs)

among : (k : Kind) (fs : List (List ℕ × Kind)) (u : List ℕ) → IsTrue (is k (kind_among fs u))
    → (is_one_of (texts_with k fs) u ≡ true) ⊎ IsTrue (is k (other_kind u))
among k [] u h = inr h
among k (f ∷ fs) u h = go (bytes_eq f.0 u) refl h (among k fs u)
  where
    first : (t : Bool) → t ≡ true → bytes_eq f.0 u ≡ true
        → is_one_of (cond t (f.0 ∷ texts_with k fs) (texts_with k fs)) u ≡ true
    first true e i = rw i refl
    first false e i = absurd cc

    later : (t : Bool) → is_one_of (texts_with k fs) u ≡ true
        → is_one_of (cond t (f.0 ∷ texts_with k fs) (texts_with k fs)) u ≡ true
    later true o = or_right (bytes_eq f.0 u) (is_one_of (texts_with k fs) u) o
    later false o = o

    go : (b : Bool) → bytes_eq f.0 u ≡ b → IsTrue (is k (cond b f.1 (kind_among fs u)))
        → (IsTrue (is k (kind_among fs u))
        → (is_one_of (texts_with k fs) u ≡ true) ⊎ IsTrue (is k (other_kind u)))
        → (is_one_of (cond (is k f.1) (f.0 ∷ texts_with k fs) (texts_with k fs)) u ≡ true)
        ⊎ IsTrue (is k (other_kind u))
    go true e h ih = inl (first (is k f.1) h e)
    go false e h ih = elim (ih h) [ inl o ↦ inl (later (is k f.1) o) | inr o ↦ inr o ]

other_is : (k : Kind) → is k K.Str ≡ false → is k K.Number ≡ false → is k K.Identifier ≡ false
    → (u : List ℕ) → IsTrue (is k (other_kind u)) → ⊥
other_is k s n i [] h = absurd cc
other_is k s n i (x ∷ u) h = go (x == quote) (is_ascii_digit x) h
  where
    go : (b c : Bool) → IsTrue (is k (cond b K.Str (cond c K.Number K.Identifier))) → ⊥
    go true c h = absurd cc
    go false true h = absurd cc
    go false false h = absurd cc

mark_fits : (k : Kind) (s : List ℕ) → texts_with k fixed_tokens ≡ s ∷ [] → is k K.Str ≡ false
    → is k K.Number ≡ false → is k K.Identifier ≡ false → is_number s ≡ false → (x : Decorated)
    → IsTrue (is k (kind_of_decorated x)) → IsMark s x
mark_fits k s e a b c n x h = elim (among k fixed_tokens x.text h) [
  | inr o ↦ absurd (other_is k a b c x.text o)
  | inl o ↦
      (let p : (bytes_eq s x.text || false) ≡ true = subst (λ z. is_one_of z x.text ≡ true) e o in
      let q : s ≡ x.text = (bytes_eq-Decides s x.text).0
      (elim (or_cases (bytes_eq s x.text) false p) [ inl i ↦ i | inr i ↦ absurd cc ]) in
      ap token_value (sym q) ∙ rw n refl)
]

sign_fits : (x : Decorated) → IsTrue (is_sign (kind_of_decorated x))
    → IsMark (codes "!") x ⊎ IsMark (codes "-") x
sign_fits x h =
    elim (or_cases (is K.Neg (kind_of_decorated x)) (is K.Dash (kind_of_decorated x)) h) [
      | inl e ↦ inl (mark_fits K.Neg (codes "!") refl refl refl refl refl x e)
      | inr e ↦ inr (mark_fits K.Dash (codes "-") refl refl refl refl refl x e)
    ]

-- ---- words, numbers, strings and slots

word_starts : (b : ℕ) → class b ≡ 1 → is_start b ≡ true
word_starts b h = grind (arith, nat_tests)

word_start_byte : (b : ℕ) → class b ≡ 1 → is_word_byte b ≡ true
word_start_byte b h = grind (arith, nat_tests)

word_no_digit : (b : ℕ) → class b ≡ 1 → is_ascii_digit b ≡ false
word_no_digit b h = grind (arith, nat_tests)

word_ends : (c : ℕ) → is_word_byte c ≡ true → glues c colon ≡ false
word_ends c h = grind (arith, nat_tests)

digit_starts : (b : ℕ) → is_ascii_digit b ≡ true → is_start b ≡ true
digit_starts b h = grind (arith, nat_tests)

digit_ends : (c : ℕ) → is_ascii_digit c ≡ true → glues c colon ≡ false
digit_ends c h = grind (arith, nat_tests)

quote_is : (b : ℕ) → class b ≡ 3 → b ≡ quote
quote_is b h = grind (arith, nat_tests)

digits_fit : (w : List ℕ) → is_number w ≡ true
    → (is_start (first_or space_character w) ≡ true) × Ends (last_byte_or space_character w)
digits_fit [] h = absurd cc
digits_fit (b ∷ w) h =
    let p = and_parts (is_ascii_digit b) (list_all is_ascii_digit w) h in
    (digit_starts b p.0, digit_ends (last_byte_or b w) (last_passes is_ascii_digit b w p.0 p.1))

string_last : (v : List ℕ) (escaped : Bool) (c : ℕ) → rest_test escaped v ≡ true
    → last_byte_or c v ≡ quote
string_last [] true c h = absurd cc
string_last [] false c h = absurd cc
string_last (b ∷ v) true c h =
    string_last v false b (and_parts (not (b == line_feed)) (is_string_rest v) h).1
string_last (b ∷ v) false c h = go (b == quote) refl (λ y k. string_last v y b k)
  where
    go : (x : Bool) → (b == quote) ≡ x → ((y : Bool) → rest_test y v ≡ true → last_byte_or b v
        ≡ quote)
        → last_byte_or b v ≡ quote
    go true e ih =
        let z = nil_from_length v ((Decides-eqb (length v) 0).0 (rw e at h)) in
        ap (last_byte_or b) z ∙ (Decides-eqb b quote).0 e
    go false e ih = ih (b == backslash) (sym (rest_of b v e) ∙ h)

no_atoms : list_all (λ p. not (is_atom (kind_of p))) punctuators ≡ true
unfolding punctuators
no_atoms = refl

abbrev Fine : List ℕ → Type 0
Fine w = (is_start (first_or space_character w) ≡ true) × Ends (last_byte_or space_character w)

no_number : (u : List ℕ) → is_number u ≡ false → Fine u → Fine (token_value u)
no_number u e f = rw e f

string_fine : (v : List ℕ) → is_string_rest v ≡ true → Fine (quote ∷ v)
string_fine v h = (refl, rw (string_last v false quote h) refl)

token_fine : (b : ℕ) (v : List ℕ) → IsToken (b ∷ v) → IsTrue (is_atom (kind_of (b ∷ v)))
    → Fine (token_value (b ∷ v))
token_fine b v t h = elim (token_of b v t) [
  | word c a ↦ no_number (b ∷ v) (rw (word_no_digit b c) refl) (
    word_starts b c,
    word_ends (last_byte_or b v) (last_passes is_word_byte b v (word_start_byte b c) a),
  )
  | number c a ↦ numbered (digit_of b c) a
  | string c a ↦ no_number (b ∷ v) (rw (quote_is b c) refl)
      (subst (λ z. Fine (z ∷ v)) (sym (quote_is b c)) (string_fine v a))
  | slot_token c a ↦ elim (slot_is (b ∷ v) a) [
    | inl e ↦ subst (λ z. Fine (token_value z)) (sym e) (refl, refl)
    | inr e ↦ subst (λ z. Fine (token_value z)) (sym e) (refl, refl)
  ]
  | punctuator c _ a ↦ absurd (both_ways (is_atom (kind_of (b ∷ v)))
      (not-true _ (one_of (λ p. not (is_atom (kind_of p))) punctuators (b ∷ v) no_atoms a)) h)
]
  where
    digit_of : (b : ℕ) → class b ≡ 2 → is_ascii_digit b ≡ true
    digit_of b h = grind (arith, nat_tests)

    numbered : is_ascii_digit b ≡ true → list_all is_ascii_digit v ≡ true
        → Fine (token_value (b ∷ v))
    numbered d a =
        let n : is_number (b ∷ v) ≡ true = rw d a in
        rw n (digits_fit (without_zeros (b ∷ v)) (number_value b v n))

word_fits : (x : Decorated) → is_token x.text ≡ true → IsTrue (is_atom (kind_of_decorated x))
    → IsWord x
word_fits x t h = go x.text t h
  where
    go : (u : List ℕ) → is_token u ≡ true → IsTrue (is_atom (kind_of u)) → Fine (token_value u)
    go [] t h = absurd (no_empty_token t)
    go (b ∷ v) t h = token_fine b v t h

-- ---- trees

abbrev pub AllTokens : List Decorated → Type 0
AllTokens ts = AllByRecursion (λ (t : Decorated). is_token t.text ≡ true) ts

pub all_parts : (xs ys : List Decorated) → AllTokens (xs ++ ys) → AllTokens xs × AllTokens ys
all_parts = All-parts (λ (t : Decorated). is_token t.text ≡ true)

pub fit_of : {k : NodeKind} (t : Tree Decorated k) → Fits kind_of_decorated t
    → AllTokens (tree_yield t) → Fit t
fit_of (name_one x) fit all = word_fits x all.0 fit
fit_of (name_more x c r) fit all = (
  word_fits x all.0 fit.0,
  mark_fits K.DoubleColon (codes "::") refl refl refl refl refl c fit.1,
  fit_of r fit.2 all.1.1,
)
fit_of (ref_of n c s) fit all = let s1 = all_parts (tree_yield n) (c ∷ (s ∷ [])) all in (
  fit_of n fit.0 s1.0,
  mark_fits K.DoubleColon (codes "::") refl refl refl refl refl c fit.1,
  word_fits s s1.1.1.0 fit.2,
)
fit_of (args_one e) fit all = fit_of e fit all
fit_of (args_more e c r) fit all = let s1 = all_parts (tree_yield e) (c ∷ (tree_yield r)) all in (
  fit_of e fit.0 s1.0,
  mark_fits K.Comma (codes ",") refl refl refl refl refl c fit.1,
  fit_of r fit.2 s1.1.1,
)
fit_of (init_of k c v) fit all = let s1 = all_parts (tree_yield k) (c ∷ (tree_yield v)) all in (
  fit_of k fit.0 s1.0,
  mark_fits K.Colon (codes ":") refl refl refl refl refl c fit.1,
  fit_of v fit.2 s1.1.1,
)
fit_of (inits_one e) fit all = fit_of e fit all
fit_of (inits_more e c r) fit all = let s1 = all_parts (tree_yield e) (c ∷ (tree_yield r)) all in (
  fit_of e fit.0 s1.0,
  mark_fits K.Comma (codes ",") refl refl refl refl refl c fit.1,
  fit_of r fit.2 s1.1.1,
)
fit_of (literal x) fit all = word_fits x all.0 fit
fit_of (slot x) fit all = word_fits x all.0 fit
fit_of (reference r) fit all = fit_of r fit all
fit_of (named n) fit all = fit_of n fit all
fit_of (parens l e r) fit all = let s1 = all_parts (tree_yield e) (r ∷ []) all.1 in (
  mark_fits K.LParen (codes "(") refl refl refl refl refl l fit.0,
  fit_of e fit.1 s1.0,
  mark_fits K.RParen (codes ")") refl refl refl refl refl r fit.2,
)
fit_of (list_empty l r) fit all = (
  mark_fits K.LBracket (codes "[") refl refl refl refl refl l fit.0,
  mark_fits K.RBracket (codes "]") refl refl refl refl refl r fit.1,
)
fit_of (list_of l a r) fit all = let s1 = all_parts (tree_yield a) (r ∷ []) all.1 in (
  mark_fits K.LBracket (codes "[") refl refl refl refl refl l fit.0,
  fit_of a fit.1 s1.0,
  mark_fits K.RBracket (codes "]") refl refl refl refl refl r fit.2,
)
fit_of (record_empty l r) fit all = (
  mark_fits K.LBrace (codes "{") refl refl refl refl refl l fit.0,
  mark_fits K.RBrace (codes "}") refl refl refl refl refl r fit.1,
)
fit_of (record_of l a r) fit all = let s1 = all_parts (tree_yield a) (r ∷ []) all.1 in (
  mark_fits K.LBrace (codes "{") refl refl refl refl refl l fit.0,
  fit_of a fit.1 s1.0,
  mark_fits K.RBrace (codes "}") refl refl refl refl refl r fit.2,
)
fit_of no_access fit all = tt
fit_of (field d x m) fit all = (
  mark_fits K.Dot (codes ".") refl refl refl refl refl d fit.0,
  word_fits x all.1.0 fit.1,
  fit_of m fit.2 all.1.1,
)
fit_of (call_empty l r m) fit all = (
  mark_fits K.LParen (codes "(") refl refl refl refl refl l fit.0,
  mark_fits K.RParen (codes ")") refl refl refl refl refl r fit.1,
  fit_of m fit.2 all.1.1,
)
fit_of (call l a r m) fit all = let s1 = all_parts (tree_yield a) (r ∷ (tree_yield m)) all.1 in (
  mark_fits K.LParen (codes "(") refl refl refl refl refl l fit.0,
  fit_of a fit.1 s1.0,
  mark_fits K.RParen (codes ")") refl refl refl refl refl r fit.2,
  fit_of m fit.3 s1.1.1,
)
fit_of (index l x r m) fit all = (
  mark_fits K.LBracket (codes "[") refl refl refl refl refl l fit.0,
  word_fits x all.1.0 fit.1,
  mark_fits K.RBracket (codes "]") refl refl refl refl refl r fit.2,
  fit_of m fit.3 all.1.1.1,
)
fit_of (member_of p m) fit all =
    let s1 = all_parts (tree_yield p) (tree_yield m) all in
    (fit_of p fit.0 s1.0, fit_of m fit.1 s1.1)
fit_of (unsigned m) fit all = fit_of m fit all
fit_of (signed s u) fit all = (sign_fits s fit.0, fit_of u fit.1 all.1)
fit_of (products_one u) fit all = fit_of u fit all
fit_of (products_more u o r) fit all =
    let s1 = all_parts (tree_yield u) (o ∷ (tree_yield r)) all in
    (fit_of u fit.0 s1.0, fit_of r fit.1 s1.1.1)
fit_of (mult_of p) fit all = fit_of p fit all
fit_of (sums_one m) fit all = fit_of m fit all
fit_of (sums_more m o r) fit all =
    let s1 = all_parts (tree_yield m) (o ∷ (tree_yield r)) all in
    (fit_of m fit.0 s1.0, fit_of r fit.1 s1.1.1)
fit_of (add_of s) fit all = fit_of s fit all
fit_of (single a) fit all = fit_of a fit all
fit_of (compare a o b) fit all =
    let s1 = all_parts (tree_yield a) (o ∷ (tree_yield b)) all in
    (fit_of a fit.0 s1.0, fit_of b fit.1 s1.1.1)
fit_of (has_or_like a o b) fit all =
    let s1 = all_parts (tree_yield a) (o ∷ (tree_yield b)) all in
    (fit_of a fit.0 s1.0, fit_of b fit.1 s1.1.1)
fit_of (is_type a o n) fit all =
    let s1 = all_parts (tree_yield a) (o ∷ (tree_yield n)) all in
    (fit_of a fit.0 s1.0, fit_of n fit.1 s1.1.1)
fit_of (is_in a o n p b) fit all =
    let s1 = all_parts (tree_yield a) (o ∷ (tree_yield n ++ (p ∷ (tree_yield b)))) all in
    let s2 = all_parts (tree_yield n) (p ∷ (tree_yield b)) s1.1.1 in
    (fit_of a fit.0 s1.0, fit_of n fit.1 s2.0, fit_of b fit.2 s2.1.1)
fit_of (ands_one r) fit all = fit_of r fit all
fit_of (ands_more r o m) fit all =
    let s1 = all_parts (tree_yield r) (o ∷ (tree_yield m)) all in
    (fit_of r fit.0 s1.0, fit_of m fit.1 s1.1.1)
fit_of (ors_one a) fit all = fit_of a fit all
fit_of (ors_more a o m) fit all =
    let s1 = all_parts (tree_yield a) (o ∷ (tree_yield m)) all in
    (fit_of a fit.0 s1.0, fit_of m fit.1 s1.1.1)
fit_of (ors_expr o) fit all = fit_of o fit all
fit_of (if_expr f c t a e b) fit all =
    let s1 = all_parts (tree_yield c) (t ∷ (tree_yield a ++ (e ∷ (tree_yield b)))) all.1 in
    let s2 = all_parts (tree_yield a) (e ∷ (tree_yield b)) s1.1.1 in
    (word_fits f all.0 fit.0, fit_of c fit.1 s1.0, fit_of a fit.2 s2.0, fit_of b fit.3 s2.1.1)

pub part_fit_of : {k : PartKind} (t : Clause Decorated k) → PartFits kind_of_decorated t
    → AllTokens (part_yield t) → PartFit t
part_fit_of (variable_bare v) fit all = word_fits v all.0 fit
part_fit_of (variable_is v i n) fit all = (word_fits v all.0 fit.0, fit_of n fit.1 all.1.1)
part_fit_of (variable_op v o a) fit all = (word_fits v all.0 fit.0, fit_of a fit.1 all.1.1)
part_fit_of (variable_is_op v i n o a) fit all =
    let s1 = all_parts (tree_yield n) (o ∷ (tree_yield a)) all.1.1 in
    (word_fits v all.0 fit.0, fit_of n fit.1 s1.0, fit_of a fit.2 s1.1.1)
part_fit_of (cond_of k l e r) fit all = let s1 = all_parts (tree_yield e) (r ∷ []) all.1.1 in (
  word_fits k all.0 fit.0,
  mark_fits K.LBrace (codes "{") refl refl refl refl refl l fit.1,
  fit_of e fit.2 s1.0,
  mark_fits K.RBrace (codes "}") refl refl refl refl refl r fit.3,
)
part_fit_of no_cond fit all = tt
part_fit_of (conds_more c m) fit all =
    let s1 = all_parts (part_yield c) (part_yield m) all in
    (part_fit_of c fit.0 s1.0, part_fit_of m fit.1 s1.1)
part_fit_of (annotation_bare a k) fit all =
    (mark_fits K.At (codes "@") refl refl refl refl refl a fit.0, word_fits k all.1.0 fit.1)
part_fit_of (annotation_value a k l s r) fit all = (
  mark_fits K.At (codes "@") refl refl refl refl refl a fit.0,
  word_fits k all.1.0 fit.1,
  mark_fits K.LParen (codes "(") refl refl refl refl refl l fit.2,
  word_fits s all.1.1.1.0 fit.3,
  mark_fits K.RParen (codes ")") refl refl refl refl refl r fit.4,
)
part_fit_of no_annotation fit all = tt
part_fit_of (annotations_more a m) fit all =
    let s1 = all_parts (part_yield a) (part_yield m) all in
    (part_fit_of a fit.0 s1.0, part_fit_of m fit.1 s1.1)
part_fit_of (policy_of ns e l p c a d r q cs s) fit all =
    let s1 = all_parts (part_yield ns) (e ∷ (l ∷ (part_yield p
    ++ (c ∷ (part_yield a ++ (d ∷ (part_yield r ++ (q ∷ (part_yield cs ++ (s ∷ [])))))))))) all in
    let s2 = all_parts (part_yield p)
    (c ∷ (part_yield a ++ (d ∷ (part_yield r ++ (q ∷ (part_yield cs ++ (s ∷ []))))))) s1.1.1.1 in
    let s3 =
    all_parts (part_yield a) (d ∷ (part_yield r ++ (q ∷ (part_yield cs ++ (s ∷ []))))) s2.1.1 in
    let s4 = all_parts (part_yield r) (q ∷ (part_yield cs ++ (s ∷ []))) s3.1.1 in
    let s5 = all_parts (part_yield cs) (s ∷ []) s4.1.1 in (
      part_fit_of ns fit.0 s1.0,
      word_fits e s1.1.0 fit.1,
      mark_fits K.LParen (codes "(") refl refl refl refl refl l fit.2,
      part_fit_of p fit.3 s2.0,
      mark_fits K.Comma (codes ",") refl refl refl refl refl c fit.4,
      part_fit_of a fit.5 s3.0,
      mark_fits K.Comma (codes ",") refl refl refl refl refl d fit.6,
      part_fit_of r fit.7 s4.0,
      mark_fits K.RParen (codes ")") refl refl refl refl refl q fit.8,
      part_fit_of cs fit.9 s5.0,
      mark_fits K.SemiColon (codes ";") refl refl refl refl refl s fit.10,
    )

pub policies_fit : (ps : List (Clause Decorated policy))
    → AllByRecursion (PartFits kind_of_decorated) ps → AllTokens (flat_map part_yield ps)
    → AllByRecursion PartFit ps
policies_fit [] f a = tt
policies_fit (p ∷ ps) f a =
    let s = all_parts (part_yield p) (flat_map part_yield ps) a in
    (part_fit_of p f.0 s.0, policies_fit ps f.1 s.1)
