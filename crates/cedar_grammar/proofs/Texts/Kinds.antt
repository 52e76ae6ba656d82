-- Kinds of texts: a text of each kind, and tests of a kind as tests of the text.
use Rattle.std.specs.Prelude.{◌≡◌, ◌==◌, ℕ, Bool, true, false, ◌&&◌, IsTrue, List, [], ◌∷◌, if◌then◌else◌, codes, map, not}
use Rattle.std.specs.List.{list_all}
use Rattle.std.specs.Char.{is_ascii_digit}
use Rattle.std.proofs.Common.{refl, sym, ap, ◌∙◌, arith}
use Rattle.std.proofs.lemmas.Bool.Decides.{nat_tests}
use Rattle.std.proofs.lemmas.Bool.{and_parts, both_ways, false_from_ne_true, not-true}
use Rattle.std.proofs.Math.Bool.{and-false}
use Rattle.cedar_tokens.specs.Units.{is_number, is_one_of}
use Rattle.cedar_tokens.specs.Listing.{Decorated}
use Rattle.cedar_tokens.specs.PlainList.{is_comma, is_closing_bracket, is_trailing_comma, touches, with_trailing_of, with_lines_of, plain_from}
use Rattle.cedar_tokens.specs.declared.kind.Kind.TheVariants as K
use Rattle.cedar_tokens.specs.Kinds.{is, is_closing, begins}
use Rattle.cedar_tokens.specs.TokenKinds.{fixed_tokens, kind_of}
use Rattle.cedar_grammar.specs.TrailingCommas.{drop_if, plain}
use Rattle.cedar_grammar.specs.Laws.{PlainTextsAgree}
use Rattle.cedar_grammar.proofs.KindSets.{apart_at}
use Rattle.cedar_grammar.proofs.Rules.Ends.{Samples}
use Rattle.cedar_grammar.proofs.Booleans.{and_second}
use Rattle.cedar_tokens.proofs.Heads.{one_of}
use Rattle.cedar_grammar.proofs.Texts.Tests.{fixed_texts, other_kind_of, agrees, three, none_of, text_agrees}
use Rattle.cedar_tokens.specs.Bytes.{quote}

pub samples : Samples kind_of
samples K.True = (codes "true", refl)
samples K.False = (codes "false", refl)
samples K.If = (codes "if", refl)
samples K.Then = (codes "then", refl)
samples K.Else = (codes "else", refl)
samples K.In = (codes "in", refl)
samples K.Is = (codes "is", refl)
samples K.Like = (codes "like", refl)
samples K.Has = (codes "has", refl)
samples K.Permit = (codes "permit", refl)
samples K.Forbid = (codes "forbid", refl)
samples K.When = (codes "when", refl)
samples K.Unless = (codes "unless", refl)
samples K.Principal = (codes "principal", refl)
samples K.Action = (codes "action", refl)
samples K.Resource = (codes "resource", refl)
samples K.Context = (codes "context", refl)
samples K.Identifier = (codes "a", refl)
samples K.PrincipalSlot = (codes "?principal", refl)
samples K.ResourceSlot = (codes "?resource", refl)
samples K.Number = (codes "1", refl)
samples K.Str = (codes "\"\"", refl)
samples K.At = (codes "@", refl)
samples K.Dot = (codes ".", refl)
samples K.Comma = (codes ",", refl)
samples K.SemiColon = (codes ";", refl)
samples K.Colon = (codes ":", refl)
samples K.DoubleColon = (codes "::", refl)
samples K.LParen = (codes "(", refl)
samples K.RParen = (codes ")", refl)
samples K.LBrace = (codes "{", refl)
samples K.RBrace = (codes "}", refl)
samples K.LBracket = (codes "[", refl)
samples K.RBracket = (codes "]", refl)
samples K.Equal = (codes "==", refl)
samples K.NotEqual = (codes "!=", refl)
samples K.Lt = (codes "<", refl)
samples K.Le = (codes "<=", refl)
samples K.Gt = (codes ">", refl)
samples K.Ge = (codes ">=", refl)
samples K.Or = (codes "||", refl)
samples K.And = (codes "&&", refl)
samples K.Add = (codes "+", refl)
samples K.Dash = (codes "-", refl)
samples K.Mul = (codes "*", refl)
samples K.Div = (codes "/", refl)
samples K.Modulo = (codes "%", refl)
samples K.Neg = (codes "!", refl)

pub number_kind : (text : List ℕ) → is_number text ≡ true → kind_of text ≡ K.Number
number_kind [] h = absurd cc
number_kind (b ∷ text) h =
    let d = (and_parts (is_ascii_digit b) (list_all is_ascii_digit text) h).0 in
    let other : is_one_of fixed_texts (b ∷ text) ≡ false = false_from_ne_true
    (is_one_of fixed_texts (b ∷ text)) (λ e. both_ways (is_number (b ∷ text)) (not-true
    (is_number (b ∷ text)) (one_of (λ t. not (is_number t)) fixed_texts (b ∷ text) refl e)) h) in
    other_kind_of fixed_tokens (b ∷ text) other ∙ rw (no_quote b d, d) refl
  where
    no_quote : (b : ℕ) → is_ascii_digit b ≡ true → (b == quote) ≡ false
    no_quote b d = grind (arith, nat_tests)

pub comma_agrees : (text : List ℕ) → is K.Comma (kind_of text) ≡ is_comma text
comma_agrees text = text_agrees K.Comma (codes ",") refl text

abbrev closing_texts : List (List ℕ)
closing_texts = codes ")" ∷ codes "]" ∷ codes "}" ∷ []

pub closing_agrees : (text : List ℕ) → is_closing (kind_of text) ≡ is_closing_bracket text
closing_agrees text = agrees is_closing is_closing_bracket fixed_tokens text refl (λ n.
    three is_closing (λ _. false) refl refl refl text ∙ sym (none_of closing_texts refl text n))

-- The plain list's texts are the plain texts.
closing_no_comma : (text : List ℕ) → IsTrue (is_closing (kind_of text))
    → is K.Comma (kind_of text) ≡ false
closing_no_comma text h = apart_at is_closing (is K.Comma) refl (kind_of text) h

pub trailing_agrees : (c b : Decorated)
    → is_trailing_comma c b ≡ (is K.Comma (kind_of c.text) && is_closing (kind_of b.text))
trailing_agrees c b = sym (rw (comma_agrees c.text, closing_agrees b.text) refl)

abbrev pub texts : List Decorated → List (List ℕ)
texts l = map (λ t. t.text) l

one_kept : (c : List ℕ) → plain kind_of (c ∷ []) ≡ c ∷ []
one_kept c = ap (λ b. drop_if b (c ∷ []) []) (and-false (is K.Comma (kind_of c)))

kept_first : (b : List ℕ) (ts : List (List ℕ)) → IsTrue (is_closing (kind_of b))
    → plain kind_of (b ∷ ts) ≡ b ∷ plain kind_of ts
kept_first b ts h =
    ap (λ e. drop_if (e && begins kind_of is_closing ts) (b ∷ plain kind_of ts) (plain kind_of ts))
    (closing_no_comma b h)

-- the list after a token that was kept
texts_from : (d : Decorated) (l : List Decorated)
    → texts (plain_from d l) ≡ d.text ∷ plain kind_of (texts l)
texts_from d [] = refl
texts_from d (c ∷ []) = ap (λ z. d.text ∷ z) (sym (one_kept c.text))
texts_from d (c ∷ (b ∷ ts)) = go (texts_from b ts) (texts_from (with_lines_of b c) ts)
    (texts_from c (b ∷ ts)) (is_trailing_comma c b) refl
  where
    dropped : is_trailing_comma c b ≡ true
        → plain kind_of (texts (c ∷ (b ∷ ts))) ≡ b.text ∷ plain kind_of (texts ts)
    dropped e =
        let h = sym (trailing_agrees c b) ∙ e in
        ap (λ z.
        drop_if z (c.text ∷ plain kind_of (texts (b ∷ ts))) (plain kind_of (texts (b ∷ ts)))) h
        ∙ kept_first b.text (texts ts) (and_second (is K.Comma (kind_of c.text)) _ h)

    go : texts (plain_from b ts) ≡ b.text ∷ plain kind_of (texts ts)
        → texts (plain_from (with_lines_of b c) ts) ≡ b.text ∷ plain kind_of (texts ts)
        → texts (plain_from c (b ∷ ts)) ≡ c.text ∷ plain kind_of (texts (b ∷ ts)) → (z : Bool)
        → is_trailing_comma c b ≡ z
        → texts (if z then (if touches d c then with_trailing_of d c ∷ plain_from b ts else d
        ∷ plain_from (with_lines_of b c) ts) else d ∷ plain_from c (b ∷ ts))
        ≡ d.text ∷ plain kind_of (texts (c ∷ (b ∷ ts)))
    go i j k true e = inner (touches d c)
      where
        inner : (z : Bool) → texts (if z then with_trailing_of d c ∷ plain_from b ts else d
            ∷ plain_from (with_lines_of b c) ts) ≡ d.text ∷ plain kind_of (texts (c ∷ (b ∷ ts)))
        inner true = ap (λ z. d.text ∷ z) (i ∙ sym (dropped e))
        inner false = ap (λ z. d.text ∷ z) (j ∙ sym (dropped e))
    go i j k false e =
        ap (λ z. d.text ∷ z) (k ∙ sym (ap (λ z. drop_if z (c.text ∷ plain kind_of (texts (b ∷ ts)))
        (plain kind_of (texts (b ∷ ts)))) (sym (trailing_agrees c b) ∙ e)))

pub plain_texts_agree : PlainTextsAgree
plain_texts_agree [] = refl
plain_texts_agree (c ∷ []) = sym (one_kept c.text)
plain_texts_agree (c ∷ (b ∷ ts)) = go (is_trailing_comma c b) refl
  where
    go : (z : Bool) → is_trailing_comma c b ≡ z → texts (if z then plain_from (with_lines_of b c) ts
        else plain_from c (b ∷ ts)) ≡ plain kind_of (texts (c ∷ (b ∷ ts)))
    go true e =
        let h = sym (trailing_agrees c b) ∙ e in
        texts_from (with_lines_of b c) ts
        ∙ sym (ap (λ z.
        drop_if z (c.text ∷ plain kind_of (texts (b ∷ ts))) (plain kind_of (texts (b ∷ ts)))) h
        ∙ kept_first b.text (texts ts) (and_second (is K.Comma (kind_of c.text)) _ h))
    go false e =
        texts_from c (b ∷ ts) ∙ sym (ap (λ z. drop_if z (c.text ∷ plain kind_of (texts (b ∷ ts)))
        (plain kind_of (texts (b ∷ ts)))) (sym (trailing_agrees c b) ∙ e))
