-- Lists of gaps and tokens, unit by unit.
use Rattle.std.proofs.Common.{◌≡◌, ℕ, ◌≤◌, Bool, true, false, cond, not, ◌&&◌, ◌==◌, List, [], ◌∷◌, ◌++◌, length, refl, ap, arith, sym, ◌∙◌, append_assoc, append-nil}
use Rattle.std.specs.List.{list_all, AllByRecursion, concat, prefix_len}
use Rattle.std.specs.Char.{is_ascii_digit}
use Rattle.std.specs.Str.{trim, trim_start, trim_end, chars}
use Rattle.std.proofs.lemmas.List.{take_all, drop_all}
use Rattle.std.proofs.lemmas.List.Sums.{prefix_len-le-length}
use Rattle.std.proofs.lemmas.Bool.{and_parts, false_from_ne_true}
use Rattle.cedar_tokens.specs.Bytes.{digit_zero, line_feed, slash}
use Rattle.cedar_tokens.specs.Units.{is_token, is_comment, is_number, is_comment_byte, slots, punctuators}
use Rattle.cedar_tokens.specs.Listing.{gaps, decorate, comments, token_value, without_zeros}
use Rattle.cedar_tokens.proofs.CommentLines.{comments_nil, comments_here}
use Rattle.cedar_tokens.proofs.Prefixes.{all_within}
use Rattle.cedar_tokens.proofs.Longest.{is_token-number}
use Rattle.cedar_tokens.proofs.FirstUnit.{comment_parts}
use Rattle.cedar_laws.proofs.Units.{comment_not_token}

pub trim_nil : trim [] ≡ []
unfolding trim_start trim_end chars
trim_nil = refl

pub comment_alone : (l : List ℕ) → is_comment l ≡ true → comments l ≡ trim l ∷ []
comment_alone [] h = absurd cc
comment_alone (a ∷ []) h = absurd cc
comment_alone (a ∷ (b ∷ x)) h =
    let p = comment_parts a b x h in
    let n : prefix_len is_comment_byte x ≡ length x =
    omega (arith, prefix_len-le-length is_comment_byte x, whole x p.2) in
    let e : comments (slash ∷ (slash ∷ x)) ≡ trim (slash ∷ (slash ∷ x)) ∷ [] = comments_here x
    ∙ rw (n, take_all (length x) x (omega arith), drop_all (length x) x (omega arith))
    (ap (λ z. trim (slash ∷ (slash ∷ x)) ∷ z) comments_nil) in
    rw (p.0, p.1) e
  where
    whole : (x : List ℕ) → list_all is_comment_byte x ≡ true
        → length x ≤ prefix_len is_comment_byte x
    whole x h = rw (append-nil x) at (all_within is_comment_byte x [] h)

pub feed_no_token : is_token (line_feed ∷ []) ≡ false
unfolding slots punctuators
feed_no_token = refl

pub comment_no_token : (l : List ℕ) → is_comment l ≡ true → is_token l ≡ false
comment_no_token l h = false_from_ne_true (is_token l) (λ e. comment_not_token l h e)

-- ---- gaps of units
pub gaps_skip : (us vs : List (List ℕ)) → AllByRecursion (λ u. is_token u ≡ false) us
    → gaps (us ++ vs) ≡ record { first = concat us ++ (gaps vs).first; tokens = (gaps vs).tokens }
unfolding gaps
gaps_skip [] vs a = refl
gaps_skip (u ∷ us) vs a =
    rw (a.0, gaps_skip us vs a.1) (ap (λ z. record { first = z; tokens = (gaps vs).tokens })
    (sym (append_assoc u (concat us) (gaps vs).first)))

pub decorate_same : (a b : List ℕ) (ts : List (List ℕ × List ℕ)) → comments a ≡ comments b
    → decorate a ts ≡ decorate b ts
unfolding decorate
decorate_same a b [] e = rw e refl
decorate_same a b (t ∷ ts) e = rw e refl

pub number_value : (b : ℕ) (bs : List ℕ) → is_number (b ∷ bs) ≡ true
    → is_number (without_zeros (b ∷ bs)) ≡ true
unfolding without_zeros
number_value b [] h = go (b == digit_zero)
  where
    go : (x : Bool) → is_number (cond (x && false) [] (b ∷ [])) ≡ true
    go true = h
    go false = h
number_value b (c ∷ cs) h = go (b == digit_zero && not (length (c ∷ cs) == 0))
    (number_value c cs (and_parts (is_ascii_digit b) (is_number (c ∷ cs)) h).1)
  where
    go : (x : Bool) → is_number (without_zeros (c ∷ cs)) ≡ true
        → is_number (cond x (without_zeros (c ∷ cs)) (b ∷ (c ∷ cs))) ≡ true
    go true k = k
    go false k = h

pub numbered : (u : List ℕ) → is_number u ≡ true → is_number (without_zeros u) ≡ true
numbered [] k = absurd cc
numbered (b ∷ bs) k = number_value b bs k

pub value_token : (u : List ℕ) → is_token u ≡ true → is_token (token_value u) ≡ true
value_token u h = go (is_number u) refl
  where
    go : (x : Bool) → is_number u ≡ x → is_token (cond x (without_zeros u) u) ≡ true
    go true e = is_token-number (without_zeros u) (numbered u e)
    go false e = h

pub one_token : (w : List ℕ) (vs : List (List ℕ)) → is_token w ≡ true
    → gaps (w ∷ vs) ≡ record { first = []; tokens = (w, (gaps vs).first) ∷ (gaps vs).tokens }
unfolding gaps
one_token w vs h = rw h refl
