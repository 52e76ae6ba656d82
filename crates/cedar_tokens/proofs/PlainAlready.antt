-- Lists of tokens without trailing commas.
use Rattle.std.proofs.Common.{◌≡◌, Bool, false, ◌&&◌, ◌||◌, List, [], ◌∷◌, map, refl, sym, ap}
use Rattle.std.proofs.lemmas.Bool.{or_parts}
use Rattle.cedar_tokens.specs.PlainList.{is_comma, is_closing_bracket, is_trailing_comma, plain_from, plain_list, kept_tokens}
use Rattle.cedar_tokens.specs.Tokens.{decorated, token_text}
use Rattle.cedar_tokens.specs.Inside.MovedLines.{has_trailing_comma}
use Rattle.cedar_tokens.specs.declared.token.WrappedToken.{WrappedToken}

plain_from_already : (d : WrappedToken) (ts : List WrappedToken)
    → has_trailing_comma (d ∷ ts) ≡ false
    → plain_from (decorated d) (map decorated ts) ≡ decorated d ∷ map decorated ts
plain_from_already d [] h = refl
plain_from_already d (c ∷ []) h = refl
plain_from_already d (c ∷ (b ∷ ts)) h =
    let more = (or_parts (is_trailing_comma (decorated d) (decorated c))
    (has_trailing_comma (c ∷ (b ∷ ts))) h).1 in
    let other : is_trailing_comma (decorated c) (decorated b) ≡ false = (or_parts
    (is_trailing_comma (decorated c) (decorated b)) (has_trailing_comma (b ∷ ts)) more).0 in
    rw other (ap (λ z. decorated d ∷ z) (plain_from_already c (b ∷ ts) more))

-- a list without a trailing comma is unchanged
pub plain_already : (ts : List WrappedToken) → has_trailing_comma ts ≡ false
    → map decorated ts ≡ plain_list (map decorated ts)
plain_already [] h = refl
plain_already (c ∷ []) h = refl
plain_already (c ∷ (b ∷ ts)) h =
    let other : is_trailing_comma (decorated c) (decorated b) ≡ false =
    (or_parts (is_trailing_comma (decorated c) (decorated b)) (has_trailing_comma (b ∷ ts)) h).0 in
    rw other (sym (plain_from_already c (b ∷ ts) h))

pub kept_already : (ts : List WrappedToken) → has_trailing_comma ts ≡ false → ts ≡ kept_tokens ts
kept_already [] h = refl
kept_already (c ∷ []) h = refl
kept_already (c ∷ (b ∷ ts)) h =
    let p =
    or_parts (is_trailing_comma (decorated c) (decorated b)) (has_trailing_comma (b ∷ ts)) h in
    let other : is_trailing_comma (decorated c) (decorated b) ≡ false = p.0 in
    rw other (ap (λ z. c ∷ z) (kept_already (b ∷ ts) p.1))

-- the same after a token that is a comma or none
abbrev pub trails : Bool → List WrappedToken → Bool
trails after [] = false
trails after (t ∷ ts) =
    (after && is_closing_bracket (token_text t.token)) || trails (is_comma (token_text t.token)) ts

pub trails_all : (ts : List WrappedToken) → trails false ts ≡ has_trailing_comma ts
trails_all [] = refl
trails_all (c ∷ []) = refl
trails_all (c ∷ (b ∷ ts)) =
    ap (λ z. (is_comma (token_text c.token) && is_closing_bracket (token_text b.token)) || z)
    (trails_all (b ∷ ts))
