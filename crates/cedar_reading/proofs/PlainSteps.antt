-- How a list loses its trailing commas, token by token.
use Rattle.std.proofs.Common.{◌≡◌, ◌+◌, ◌<◌, ℕ, suc, Bool, true, false, not, ◌&&◌, ◌==◌, List, [], ◌∷◌, ◌++◌, length, take, get_or, set, None, Some, refl, sym, ap, ◌∙◌, arith}
use Rattle.std.proofs.lemmas.Bool.{and_parts}
use Rattle.std.proofs.lemmas.Bool.Decides.{Decides-eqb}
use Rattle.std.proofs.lemmas.List.{set_split, drop_all, take_more, take_all}
use Rattle.cedar_tokens.specs.Listing.{Decorated, comments, is_empty}
use Rattle.cedar_tokens.specs.PlainList.{is_comma, is_closing_bracket, is_trailing_comma, touches, with_trailing_of, with_lines_of, plain_from, plain_list}
use Rattle.cedar_tokens.proofs.PlainSteps.{no_comma, plain_other, plain_left}
use Rattle.cedar_reading.specs.Inside.Commas.{comma}

-- the tokens that stay, and what the others come to after them
abbrev pub after_kept : List Decorated → List Decorated → List Decorated
after_kept [] ts = plain_list ts
after_kept (d ∷ []) ts = plain_from d ts
after_kept (d ∷ (e ∷ ks)) ts = d ∷ after_kept (e ∷ ks) ts

-- the list begins with a trailing comma
abbrev pub begins_comma : List Decorated → Bool
begins_comma [] = false
begins_comma (c ∷ []) = false
begins_comma (c ∷ (b ∷ ts)) = is_trailing_comma c b

-- which the comments of its first token don't change
pub begins_same : (x y : Decorated) (ts : List Decorated) → x.text ≡ y.text
    → begins_comma (x ∷ ts) ≡ begins_comma (y ∷ ts)
begins_same x y [] e = refl
begins_same x y (b ∷ ts) e = ap (λ z. is_comma z && is_closing_bracket b.text) e

-- the first token is a comma
abbrev pub comma_first : List Decorated → Bool
comma_first [] = false
comma_first (c ∷ ts) = is_comma c.text

-- the list with the comments of two texts before those of its first token
abbrev pub led : List ℕ → List ℕ → List Decorated → List Decorated
led l t [] = []
led l t (x ∷ xs) = record {
  text = x.text;
  leading = comments l ++ (comments t ++ x.leading);
  trailing = x.trailing;
} ∷ xs

pub led_none : (l t : List ℕ) (ts : List Decorated) → comments l ≡ [] → comments t ≡ []
    → led l t ts ≡ ts
led_none l t [] e f = refl
led_none l t (x ∷ xs) e f = rw (e, f) refl

pub after_all : (kept : List Decorated) → after_kept kept [] ≡ kept
after_all [] = refl
after_all (d ∷ []) = refl
after_all (d ∷ (e ∷ ks)) = ap (λ z. d ∷ z) (after_all (e ∷ ks))

after_last : (front : List Decorated) (d : Decorated) (ts : List Decorated)
    → after_kept (front ++ d ∷ []) ts ≡ front ++ plain_from d ts
after_last [] d ts = refl
after_last (k ∷ []) d ts = refl
after_last (k ∷ (e ∷ ks)) d ts = ap (λ z. k ∷ z) (after_last (e ∷ ks) d ts)

-- a token that is no trailing comma stays
pub after_push : (kept : List Decorated) (x : Decorated) (ts : List Decorated)
    → begins_comma (x ∷ ts) ≡ false → after_kept kept (x ∷ ts) ≡ after_kept (kept ++ x ∷ []) ts
after_push [] x [] h = refl
after_push [] x (b ∷ ts) h = rw h refl
after_push (d ∷ []) x [] h = refl
after_push (d ∷ []) x (b ∷ ts) h = rw h refl
after_push (d ∷ (e ∷ ks)) x ts h = ap (λ z. d ∷ z) (after_push (e ∷ ks) x ts h)

-- a trailing comma and its bracket
record Parts (c b : Decorated) : Type 0 where
  comma : is_comma c.text ≡ true
  closing : is_closing_bracket b.text ≡ true
  other : is_comma b.text ≡ false

parts : (c b : Decorated) → is_trailing_comma c b ≡ true → Parts c b
parts c b h =
    let p = and_parts (is_comma c.text) (is_closing_bracket b.text) h in
    record { comma = p.0; closing = p.1; other = no_comma b.text p.1 }

pub no_comma_next : (c : Decorated) (ts : List Decorated) → begins_comma (c ∷ ts) ≡ true
    → comma_first ts ≡ true → ⊥
no_comma_next c [] h e = cc
no_comma_next c (b ∷ ts) h e = let f = (parts c b h).other in cc

pub comma_begins : (c : Decorated) (ts : List Decorated) → begins_comma (c ∷ ts) ≡ true
    → is_comma c.text ≡ true
comma_begins c [] h = absurd cc
comma_begins c (b ∷ ts) h = (parts c b h).comma

-- a trailing comma that touches the last token leaves its trailing text to it
pub after_left : (front : List Decorated) (d c : Decorated) (ts : List Decorated)
    → begins_comma (c ∷ ts) ≡ true → touches d c ≡ true
    → after_kept (front ++ d ∷ []) (c ∷ ts) ≡ after_kept (front ++ with_trailing_of d c ∷ []) ts
after_left front d c [] h g = absurd cc
after_left front d c (b ∷ ts) h g =
    let p = parts c b h in
    after_last front d (c ∷ b ∷ ts)
    ∙ ap (λ z. front ++ z) (plain_left (Some d) c b ts p.comma p.closing g
    ∙ sym (plain_other (Some (with_trailing_of d c)) b ts p.other))
    ∙ sym (after_last front (with_trailing_of d c) (b ∷ ts))

-- any other leaves its comments to the bracket
pub after_moved : (kept : List Decorated) (c b : Decorated) (ts : List Decorated)
    → is_trailing_comma c b ≡ true
    → ((front : List Decorated) (last : Decorated) → kept ≡ front ++ last ∷ []
    → touches last c ≡ false)
    → after_kept kept (c ∷ b ∷ ts) ≡ after_kept kept (with_lines_of b c ∷ ts)
after_moved [] c b ts h apart = rw h (sym (plain_other None (with_lines_of b c) ts (parts c b h).other))
after_moved (d ∷ []) c b ts h apart =
    let g : touches d c ≡ false = apart [] d refl in
    rw (h, g) (sym (plain_other (Some d) (with_lines_of b c) ts (parts c b h).other))
after_moved (d ∷ (e ∷ ks)) c b ts h apart = ap (λ z. d ∷ z)
    (after_moved (e ∷ ks) c b ts h (λ front last f. apart (d ∷ front) last (ap (λ z. d ∷ z) f)))

pub after_led : (kept : List Decorated) (c : Decorated) (l t : List ℕ) (ts : List Decorated)
    → begins_comma (c ∷ ts) ≡ true
    → ((front : List Decorated) (last : Decorated) → kept ≡ front ++ last ∷ []
    → touches last c ≡ false) → c.leading ≡ comments l → c.trailing ≡ t
    → after_kept kept (c ∷ ts) ≡ after_kept kept (led l t ts)
after_led kept c l t [] h apart e f = absurd cc
after_led kept c l t (b ∷ ts) h apart e f =
    after_moved kept c b ts h apart ∙ rw (e, f) refl

-- ---- the last token

none_in : (xs : List ℕ) → (length xs == 0) ≡ true → is_empty xs ≡ true
none_in [] h = refl
none_in (x ∷ xs) h = absurd (omega (arith, (Decides-eqb (length (x ∷ xs)) 0).0 h))

no_lines : (xs : List (List ℕ)) → not (is_empty xs) ≡ false → is_empty xs ≡ true
no_lines [] h = refl
no_lines (x ∷ xs) h = absurd cc

-- nothing is between it and a comma
pub touching : (d : Decorated) (leading : List (List ℕ)) (trailing : List ℕ)
    → (length d.trailing == 0) ≡ true → not (is_empty leading) ≡ false
    → touches d (comma leading trailing) ≡ true
touching d leading trailing e f = rw (none_in d.trailing e, no_lines leading f) refl

pub at_end : (ts : List Decorated) (n : ℕ) (d : Decorated) → n + 1 ≡ length ts
    → ts ≡ take n ts ++ get_or ts n d ∷ []
at_end ts n d e =
    let less : n < length ts = omega (arith, e) in
    sym (take_all (n + 1) ts (omega (arith, e))) ∙ take_more ts n d less

pub end_set : (ts : List Decorated) (n : ℕ) (d : Decorated) → n + 1 ≡ length ts
    → set ts n d ≡ take n ts ++ d ∷ []
end_set ts n d e =
    let less : n < length ts = omega (arith, e) in
    set_split ts n d less ∙ ap (λ z. take n ts ++ d ∷ z) (drop_all (suc n) ts (omega (arith, e)))
