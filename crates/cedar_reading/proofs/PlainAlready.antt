-- Lists without trailing commas.
use Rattle.std.proofs.Common.{◌≡◌, ◌≤◌, ◌<◌, ◌+◌, ℕ, Bool, false, ◌&&◌, ◌||◌, List, [], ◌∷◌, length, drop, get_or, refl, sym, ap, ◌∙◌}
use Rattle.std.proofs.lemmas.List.{drop_all, drop_more}
use Rattle.std.proofs.lemmas.Bool.{or_parts}
use Rattle.cedar_tokens.specs.Kinds.{is, is_closing}
use Rattle.cedar_tokens.specs.TokenKinds.{kind_of}
use Rattle.cedar_tokens.specs.Listing.{Decorated}
use Rattle.cedar_tokens.specs.PlainList.{is_trailing_comma, plain_from, plain_list}
use Rattle.cedar_tokens.specs.declared.kind.Kind.{Kind}
use Rattle.cedar_grammar.proofs.Texts.Kinds.{comma_agrees, closing_agrees}
use Rattle.cedar_reading.specs.PlainListing.{has_trailing_comma}

from_already : (d : Decorated) (ts : List Decorated) → has_trailing_comma (d ∷ ts) ≡ false
    → plain_from d ts ≡ d ∷ ts
from_already d [] h = refl
from_already d (c ∷ []) h = refl
from_already d (c ∷ (b ∷ ts)) h =
    let more = (or_parts (is_trailing_comma d c) (has_trailing_comma (c ∷ (b ∷ ts))) h).1 in
    let other = (or_parts (is_trailing_comma c b) (has_trailing_comma (b ∷ ts)) more).0 in
    rw other (ap (λ z. d ∷ z) (from_already c (b ∷ ts) more))

-- a list without a trailing comma is unchanged
pub plain_already : (ts : List Decorated) → has_trailing_comma ts ≡ false → plain_list ts ≡ ts
plain_already [] h = refl
plain_already (c ∷ []) h = refl
plain_already (c ∷ (b ∷ ts)) h =
    let other = (or_parts (is_trailing_comma c b) (has_trailing_comma (b ∷ ts)) h).0 in
    rw other (from_already c (b ∷ ts) h)

-- by kinds, the same after a token that is a comma or none
abbrev pub trails : Bool → List Decorated → Bool
trails after [] = false
trails after (t ∷ ts) =
    (after && is_closing (kind_of t.text)) || trails (is Kind.Comma (kind_of t.text)) ts

pub trails_all : (ts : List Decorated) → trails false ts ≡ has_trailing_comma ts
trails_all [] = refl
trails_all (c ∷ []) = refl
trails_all (c ∷ (b ∷ ts)) = rw (comma_agrees c.text, closing_agrees b.text)
    (ap (λ z. is_trailing_comma c b || z) (trails_all (b ∷ ts)))

-- past a token that is no bracket after a comma
pub trails_step : (after : Bool) (ts : List Decorated) (n : ℕ) (x : Decorated) → n < length ts
    → x ≡ get_or ts n x → (after && is_closing (kind_of x.text)) ≡ false
    → trails after (drop n ts) ≡ trails (is Kind.Comma (kind_of x.text)) (drop (n + 1) ts)
trails_step after ts n x h e f =
    let parts : drop n ts ≡ x ∷ drop (n + 1) ts =
    drop_more ts n x h ∙ ap (λ z. z ∷ drop (n + 1) ts) (sym e) in
    rw (parts, f) refl

pub trails_end : (after : Bool) (ts : List Decorated) (n : ℕ) → length ts ≤ n
    → trails after (drop n ts) ≡ has_trailing_comma ts → has_trailing_comma ts ≡ false
trails_end after ts n h e = sym e ∙ ap (trails after) (drop_all n ts h)
