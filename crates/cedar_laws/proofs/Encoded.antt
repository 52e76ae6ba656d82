-- A text that meets the law of gaps is UTF-8 if its tokens and comments are.
use Rattle.std.proofs.Common.{◌≡◌, ℕ, ◌<◌, Bool, true, false, cond, List, [], ◌∷◌, ◌++◌, refl, arith, subst}
use Rattle.std.specs.List.{list_all, AllByRecursion}
use Rattle.std.specs.Char.{is_ascii_digit, IsScalar}
use Rattle.std.specs.Str.{IsUtf8}
use Rattle.std.proofs.lemmas.Bool.Decides.{nat_tests}
use Rattle.std.proofs.lemmas.Str.{IsUtf8-append, IsUtf8-nil, IsUtf8-encode, encode_ascii}
use Rattle.std.proofs.lemmas.Bool.{and_parts}
use Rattle.cedar_tokens.specs.Bytes.{line_feed, space_character}
use Rattle.cedar_tokens.specs.Units.{is_number}
use Rattle.cedar_tokens.specs.Listing.{Decorated, token_value, without_zeros}
use Rattle.cedar_laws.specs.Gaps.{Blanks, no_blank, a_space, a_feed, Lines, no_line, a_comment, Front, bare, led, back, Spelled, the_end, a_token}
use Rattle.cedar_laws.specs.Good.{IsGood, IsLine}
use Rattle.cedar_laws.proofs.Listed.{number_value}

byte_utf8 : (b : ℕ) → b < 128 → IsUtf8 (b ∷ [])
byte_utf8 b l = subst (λ z. IsUtf8 z) (encode_ascii b l) (IsUtf8-encode b (low b l))
  where
    low : (b : ℕ) → b < 128 → IsScalar b
    low b l = grind (arith, nat_tests)

byte_then : (b : ℕ) (x : List ℕ) → b < 128 → IsUtf8 x → IsUtf8 (b ∷ x)
byte_then b x l u = IsUtf8-append (b ∷ []) x (byte_utf8 b l) u

blanks_utf8 : {b : List ℕ} → Blanks b → IsUtf8 b
blanks_utf8 no_blank = IsUtf8-nil
blanks_utf8 (a_space {s} p) = byte_then space_character s (omega arith) (blanks_utf8 p)
blanks_utf8 (a_feed {s} p) = byte_then line_feed s (omega arith) (blanks_utf8 p)

lines_utf8 : {ls : List (List ℕ)} {g : List ℕ} → Lines ls g → AllByRecursion IsLine ls → IsUtf8 g
lines_utf8 (no_line p) a = blanks_utf8 p
lines_utf8 (a_comment {b} {g} l p q) a = IsUtf8-append b (l ++ (line_feed ∷ g)) (blanks_utf8 p)
    (IsUtf8-append l (line_feed ∷ g) a.0.utf8 (byte_then line_feed g (omega arith)
    (lines_utf8 q a.1)))

front_utf8 : {ls : List (List ℕ)} {g : List ℕ} → Front ls g → AllByRecursion IsLine ls → IsUtf8 g
front_utf8 (bare p) a = blanks_utf8 p
front_utf8 (led {b} {g} p q) a =
    IsUtf8-append b (line_feed ∷ g) (blanks_utf8 p) (byte_then line_feed g (omega arith)
    (lines_utf8 q a))

back_utf8 : (tr : List ℕ) → IsUtf8 tr → IsUtf8 (back tr)
back_utf8 [] u = IsUtf8-nil
back_utf8 (c ∷ cs) u = byte_then space_character ((c ∷ cs) ++ (line_feed ∷ [])) (omega arith)
    (IsUtf8-append (c ∷ cs) (line_feed ∷ []) u (byte_utf8 line_feed (omega arith)))

digits_utf8 : (u : List ℕ) → list_all is_ascii_digit u ≡ true → IsUtf8 u
digits_utf8 [] h = IsUtf8-nil
digits_utf8 (b ∷ u) h =
    let p = and_parts (is_ascii_digit b) (list_all is_ascii_digit u) h in
    byte_then b u (low b p.0) (digits_utf8 u p.1)
  where
    low : (b : ℕ) → is_ascii_digit b ≡ true → b < 128
    low b h = grind (arith, nat_tests)

number_utf8 : (u : List ℕ) → is_number u ≡ true → IsUtf8 u
number_utf8 [] h = absurd cc
number_utf8 (b ∷ u) h = digits_utf8 (b ∷ u) h

pub value_utf8 : (u : List ℕ) → IsUtf8 u → IsUtf8 (token_value u)
value_utf8 u k = go (is_number u) refl
  where
    numbered : (u : List ℕ) → is_number u ≡ true → IsUtf8 (without_zeros u)
    numbered [] h = absurd cc
    numbered (b ∷ bs) h = number_utf8 (without_zeros (b ∷ bs)) (number_value b bs h)

    go : (x : Bool) → is_number u ≡ x → IsUtf8 (cond x (without_zeros u) u)
    go true e = numbered u e
    go false e = k

pub spelled_utf8 : {c : ℕ} {ts : List Decorated} {s : List ℕ} → Spelled c ts s
    → AllByRecursion IsGood ts → IsUtf8 s
spelled_utf8 (the_end p) a = blanks_utf8 p
spelled_utf8 (a_token {g = g} {s = s} t f n r) a =
    IsUtf8-append g (token_value t.text ++ (back t.trailing ++ s)) (front_utf8 f a.0.leading)
    (IsUtf8-append (token_value t.text) (back t.trailing ++ s) (value_utf8 t.text a.0.utf8)
    (IsUtf8-append (back t.trailing) s (back_utf8 t.trailing a.0.trailing.utf8)
    (spelled_utf8 r a.1)))
