-- The tokens so far without trailing commas, and those of the lexemes that are left.
use Rattle.std.proofs.Common.{◌≡◌, ◌≤◌, ◌<◌, ◌+◌, ℕ, Bool, true, false, List, [], ◌∷◌, ◌++◌, length, map, drop, get_or, refl, sym, ap, ◌∙◌, arith}
use Rattle.std.proofs.lemmas.List.{drop_all, drop_more}
use Rattle.std.specs.Str.{IsUtf8, trim}
use Rattle.cedar_tokens.specs.TokenKinds.{kind_of}
use Rattle.cedar_tokens.specs.Listing.{Decorated, Listing, decorate, comments}
use Rattle.cedar_tokens.specs.PlainList.{plain_list}
use Rattle.cedar_tokens.specs.Inside.Newlines.{before_newline}
use Rattle.cedar_tokens.specs.Inside.Between.{text_at, text_before}
use Rattle.cedar_grammar.proofs.Texts.Kinds.{comma_agrees, closing_agrees}
use Rattle.cedar_reading.specs.Lexemes.{AreLexemes}
use Rattle.cedar_reading.specs.declared.lexeme.Lexeme.{Lexeme}
use Rattle.cedar_reading.proofs.Commenting.{spans_of}
use Rattle.cedar_reading.specs.PlainListing.{IsPlainListing}
use Rattle.cedar_reading.specs.Inside.Lexed.{gap_after, begins_trailing}
use Rattle.cedar_reading.specs.Inside.Commas.{comma, TakesOver, StaysApart}
use Rattle.cedar_reading.proofs.Comments.{no_comments}
use Rattle.cedar_reading.proofs.PlainSteps.{after_kept, begins_comma, begins_same, comma_first, led, led_none, after_all, after_push, no_comma_next, comma_begins, after_left, after_led}
use Rattle.cedar_reading.proofs.Left.{left_of, whole, whole_value, AreLexed, lexed_drop, token_of, ahead_of, left_more, left_none}

-- whether the lexemes begin with a trailing comma, by their kinds and by their texts
kinds_agree : (text leading : List ℕ) (ls : List Lexeme) → AreLexed text ls
    → begins_trailing (map (λ l. l.kind) ls) ≡ begins_comma (left_of text leading ls).tokens
unfolding decorate
kinds_agree text leading [] h = refl
kinds_agree text leading (c ∷ []) h = refl
kinds_agree text leading (c ∷ (b ∷ ls)) h =
    let first : c.kind ≡ kind_of (text_at text c.span) = h.0.kind ∙ ap kind_of h.0.here in
    let next : b.kind ≡ kind_of (text_at text b.span) = h.1.0.kind ∙ ap kind_of h.1.0.here in
    rw (first, next, comma_agrees (text_at text c.span), closing_agrees (text_at text b.span)) refl

-- these tokens stay, the comments of two texts go to the next one, and these lexemes are left
pub record PlainLeft (text : List ℕ) (all : List Lexeme) (kept : List Decorated)
    (l t leading : List ℕ) (ls : List Lexeme) : Type 0 where
  pub tokens_are : after_kept kept (led l t (left_of text leading ls).tokens)
      ≡ plain_list (whole text all).tokens
  pub closing_is : (left_of text leading ls).closing ≡ (whole text all).closing
  pub alone : comma_first (left_of text leading ls).tokens ≡ true
      → (comments l ≡ []) × (comments t ≡ [])

pub plain_first : (text : List ℕ) (all : List Lexeme) (kept : List Decorated)
    (l t leading : List ℕ) → kept ≡ [] → l ≡ [] → t ≡ []
    → leading ≡ text_before text 0 (spans_of all) → PlainLeft text all kept l t leading all
plain_first text all kept l t leading n e f g = rw (n, e, f, g) (record {
  tokens_are = ap plain_list (led_none [] [] (whole text all).tokens no_comments no_comments);
  closing_is = refl;
  alone = λ _. (no_comments, no_comments);
})

-- the first of the lexemes
record First (text leading : List ℕ) (x : Lexeme) (ls : List Lexeme) (b : Bool) : Type 0 where
  more : left_of text leading (x ∷ ls) ≡ record {
    tokens = token_of text leading x (x ∷ ls) ∷ (left_of text (ahead_of text (x ∷ ls)) ls).tokens;
    closing = (left_of text (ahead_of text (x ∷ ls)) ls).closing;
  }
  begins : begins_comma (token_of text leading x (x ∷ ls)
      ∷ (left_of text (ahead_of text (x ∷ ls)) ls).tokens) ≡ b

first_of_all : (text leading : List ℕ) (x : Lexeme) (ls : List Lexeme) (b : Bool)
    → AreLexed text (x ∷ ls) → begins_trailing (map (λ l. l.kind) (x ∷ ls)) ≡ b
    → First text leading x ls b
first_of_all text leading x ls b h e =
    let m = left_more text leading x ls h.0 in
    record {
      more = m;
      begins = ap (λ (z : Listing). begins_comma z.tokens) (sym m)
          ∙ sym (kinds_agree text leading (x ∷ ls) h) ∙ e;
    }

-- the token of the first of these lexemes, with the comments of two more texts
abbrev pub led_token : List ℕ → List ℕ → List ℕ → List ℕ → Lexeme → List Lexeme → Decorated
led_token text l t leading x ls = record {
  text = x.text.now;
  leading = comments l ++ (comments t ++ comments leading);
  trailing = trim (before_newline (gap_after text (spans_of ls)));
}

next_stays : (text : List ℕ) (all : List Lexeme) (kept new : List Decorated)
    (l t l' t' leading ahead : List ℕ) (x : Lexeme) (ls : List Lexeme)
    → PlainLeft text all kept l t leading (x ∷ ls) → AreLexed text (x ∷ ls)
    → begins_trailing (map (λ l. l.kind) (x ∷ ls)) ≡ false
    → new ≡ kept ++ led_token text l t leading x (x ∷ ls) ∷ [] → l' ≡ [] → t' ≡ []
    → ahead ≡ ahead_of text (x ∷ ls) → PlainLeft text all new l' t' ahead ls
next_stays text all kept new l t l' t' leading ahead x ls r h b n e f a =
    let i = first_of_all text leading x ls false h b in
    let rest = (left_of text (ahead_of text (x ∷ ls)) ls).tokens in
    let first = led_token text l t leading x (x ∷ ls) in
    let stays : begins_comma (first ∷ rest) ≡ false =
    begins_same first (token_of text leading x (x ∷ ls)) rest refl ∙ i.begins in
    rw (n, e, f, a) (record {
      tokens_are = ap (after_kept (kept ++ first ∷ [])) (led_none [] [] rest no_comments no_comments)
          ∙ sym (after_push kept first rest stays)
          ∙ ap (λ (z : Listing). after_kept kept (led l t z.tokens)) (sym i.more) ∙ r.tokens_are;
      closing_is = ap (λ (z : Listing). z.closing) (sym i.more) ∙ r.closing_is;
      alone = λ _. (no_comments, no_comments);
    })

next_left : (text : List ℕ) (all : List Lexeme) (kept new : List Decorated)
    (l t leading ahead : List ℕ) (x : Lexeme) (ls : List Lexeme)
    → PlainLeft text all kept l t leading (x ∷ ls) → AreLexed text (x ∷ ls)
    → begins_trailing (map (λ l. l.kind) (x ∷ ls)) ≡ true
    → TakesOver kept new (comma (comments leading) (token_of text leading x (x ∷ ls)).trailing)
    → ahead ≡ ahead_of text (x ∷ ls)
    → PlainLeft text all new l t ahead ls
next_left text all kept new l t leading ahead x ls r h b k a =
    let i = first_of_all text leading x ls true h b in
    let rest = (left_of text (ahead_of text (x ∷ ls)) ls).tokens in
    let first = token_of text leading x (x ∷ ls) in
    let none = r.alone (ap (λ (z : Listing). comma_first z.tokens) i.more
    ∙ comma_begins first rest i.begins) in
    rw a (record {
      tokens_are = ap (after_kept new) (led_none l t rest none.0 none.1)
          ∙ ap (λ z. after_kept z rest) k.becomes
          ∙ sym (after_left k.front k.last first rest i.begins k.touching)
          ∙ ap (λ z. after_kept z (first ∷ rest)) (sym k.was)
          ∙ ap (after_kept kept) (sym (led_none l t (first ∷ rest) none.0 none.1))
          ∙ ap (λ (z : Listing). after_kept kept (led l t z.tokens)) (sym i.more) ∙ r.tokens_are;
      closing_is = ap (λ (z : Listing). z.closing) (sym i.more) ∙ r.closing_is;
      alone = λ _. none;
    })

next_moved : (text : List ℕ) (all : List Lexeme) (kept new : List Decorated)
    (l t l' t' leading ahead : List ℕ) (x : Lexeme) (ls : List Lexeme)
    → PlainLeft text all kept l t leading (x ∷ ls) → AreLexed text (x ∷ ls)
    → begins_trailing (map (λ l. l.kind) (x ∷ ls)) ≡ true
    → StaysApart kept new (comma (comments leading) (token_of text leading x (x ∷ ls)).trailing)
    → l' ≡ leading
    → t' ≡ trim (before_newline (gap_after text (spans_of (x ∷ ls)))) → ahead ≡ ahead_of text (x ∷ ls)
    → PlainLeft text all new l' t' ahead ls
next_moved text all kept new l t l' t' leading ahead x ls r h b k e f a =
    let i = first_of_all text leading x ls true h b in
    let rest = (left_of text (ahead_of text (x ∷ ls)) ls).tokens in
    let first = token_of text leading x (x ∷ ls) in
    let none = r.alone (ap (λ (z : Listing). comma_first z.tokens) i.more
    ∙ comma_begins first rest i.begins) in
    rw (k.same, e, f, a) (record {
      tokens_are = sym (after_led kept first leading first.trailing rest i.begins k.apart refl refl)
          ∙ ap (after_kept kept) (sym (led_none l t (first ∷ rest) none.0 none.1))
          ∙ ap (λ (z : Listing). after_kept kept (led l t z.tokens)) (sym i.more) ∙ r.tokens_are;
      closing_is = ap (λ (z : Listing). z.closing) (sym i.more) ∙ r.closing_is;
      alone = λ g. absurd (no_comma_next first rest i.begins g);
    })

-- ---- the lexeme at an index

next_at : (all : List Lexeme) (at : ℕ) → at < length all
    → (x : Lexeme) × (drop at all ≡ x ∷ drop (at + 1) all)
next_at [] at i = absurd (omega (arith, i))
next_at (x ∷ xs) at i = (get_or (x ∷ xs) at x, drop_more (x ∷ xs) at x i)

-- the lexeme is no trailing comma
pub plain_stays : (text : List ℕ) (all : List Lexeme) (kept new : List Decorated)
    (l t l' t' leading ahead : List ℕ) (at : ℕ) (d : Lexeme)
    → PlainLeft text all kept l t leading (drop at all) → at < length all → AreLexed text all
    → begins_trailing (map (λ l. l.kind) (drop at all)) ≡ false
    → new ≡ kept ++ led_token text l t leading (get_or all at d) (drop at all) ∷ []
    → l' ≡ [] → t' ≡ [] → ahead ≡ ahead_of text (drop at all)
    → PlainLeft text all new l' t' ahead (drop (at + 1) all)
plain_stays text all kept new l t l' t' leading ahead at d r i h b n e f a =
    let k = drop_more all at d i in
    next_stays text all kept new l t l' t' leading ahead (get_or all at d) (drop (at + 1) all)
    (rw k at r) (rw k at (lexed_drop text all at h)) (rw k at b) (rw k at n) e f (rw k at a)

-- the trailing comma that the lexeme is leaves its trailing text to the last token
pub plain_left : (text : List ℕ) (all : List Lexeme) (kept new : List Decorated)
    (l t leading trailing ahead : List ℕ) (at : ℕ)
    → PlainLeft text all kept l t leading (drop at all) → at < length all → AreLexed text all
    → begins_trailing (map (λ l. l.kind) (drop at all)) ≡ true
    → TakesOver kept new (comma (comments leading) trailing)
    → trailing ≡ trim (before_newline (gap_after text (spans_of (drop at all))))
    → ahead ≡ ahead_of text (drop at all) → PlainLeft text all new l t ahead (drop (at + 1) all)
plain_left text all kept new l t leading trailing ahead at r i h b m e a =
    let n = next_at all at i in
    let x = n.0 in
    let k = n.1 in
    next_left text all kept new l t leading ahead x (drop (at + 1) all)
    (rw k at r) (rw k at (lexed_drop text all at h)) (rw k at b) (rw (rw k at e) at m) (rw k at a)

-- it leaves its comments to the next token
pub plain_moved : (text : List ℕ) (all : List Lexeme) (kept new : List Decorated)
    (l t leading trailing ahead : List ℕ) (at : ℕ)
    → PlainLeft text all kept l t leading (drop at all) → at < length all → AreLexed text all
    → begins_trailing (map (λ l. l.kind) (drop at all)) ≡ true
    → StaysApart kept new (comma (comments leading) trailing)
    → trailing ≡ trim (before_newline (gap_after text (spans_of (drop at all))))
    → ahead ≡ ahead_of text (drop at all)
    → PlainLeft text all new leading trailing ahead (drop (at + 1) all)
plain_moved text all kept new l t leading trailing ahead at r i h b m e a =
    let n = next_at all at i in
    let x = n.0 in
    let k = n.1 in
    let f = rw k at e in
    next_moved text all kept new l t leading trailing leading ahead x (drop (at + 1) all) (rw k at r) (rw k at (lexed_drop text all at h)) (rw k at b) (rw f at m)
    refl f (rw k at a)

pub plain_all : (text : List ℕ) (all : List Lexeme) (kept : List Decorated) (l t leading : List ℕ)
    (at : ℕ) → PlainLeft text all kept l t leading (drop at all) → length all ≤ at → IsUtf8 text
    → AreLexemes text all
    → IsPlainListing text (record { tokens = kept; closing = comments leading })
plain_all text all kept l t leading at r i utf8 x =
    let e : left_of text leading (drop at all) ≡ record { tokens = []; closing = comments leading } =
    ap (left_of text leading) (drop_all at all i) ∙ left_none text leading in
    let k : comments leading ≡ (whole text all).closing =
    ap (λ (z : Listing). z.closing) (sym e) ∙ r.closing_is in
    record {
      all = (whole text all).tokens;
      list = record {
        units = x.units;
        split = x.split;
        value = rw k (whole_value text all utf8 x);
      };
      plain = sym (after_all kept)
          ∙ ap (λ (z : Listing). after_kept kept (led l t z.tokens)) (sym e) ∙ r.tokens_are;
    }
