-- A decorated list without its trailing commas. Their comments go to their neighbours.
use Rattle.std.specs.Prelude.{◌≡◌, ℕ, List, [], ◌∷◌, ◌++◌, Bool, false, ◌&&◌, if◌then◌else◌, codes, ⊤}
use Rattle.std.specs.Str.{bytes_eq}
use Rattle.cedar_tokens.specs.Units.{is_one_of}
use Rattle.cedar_tokens.specs.Listing.{Decorated, is_empty, comments}
use Rattle.cedar_tokens.specs.Tokens.{decorated}
use Rattle.cedar_tokens.specs.declared.token.WrappedToken.{WrappedToken}

abbrev pub is_comma : List ℕ → Bool
is_comma text = bytes_eq (codes ",") text

abbrev pub is_closing_bracket : List ℕ → Bool
is_closing_bracket text = is_one_of (codes ")" ∷ codes "]" ∷ codes "}" ∷ []) text

-- c is a trailing comma: a comma whose next token, b, is a closing bracket
abbrev pub is_trailing_comma : Decorated → Decorated → Bool
is_trailing_comma c b = is_comma c.text && is_closing_bracket b.text

-- nothing is between the token d and the comma c, so d may take over c's trailing text
abbrev pub touches : Decorated → Decorated → Bool
touches d c = is_empty d.trailing && is_empty c.leading

-- the token d with the trailing text of the comma c after it
abbrev pub with_trailing_of : Decorated → Decorated → Decorated
with_trailing_of d c = record { text = d.text; leading = d.leading; trailing = c.trailing }

-- the bracket b with the lines of the comma c before its own: c's leading lines, then the comments of c's trailing text
abbrev pub with_lines_of : Decorated → Decorated → Decorated
with_lines_of b c =
    record { text = b.text; leading = c.leading ++ (comments c.trailing ++ b.leading); trailing = b.trailing }

-- the token d and the list after it, without the trailing commas after d
abbrev pub plain_from : Decorated → List Decorated → List Decorated
plain_from d [] = d ∷ []
plain_from d (c ∷ []) = d ∷ c ∷ []
plain_from d (c ∷ (b ∷ ts)) = if is_trailing_comma c b
    then (if touches d c then with_trailing_of d c ∷ plain_from b ts else d ∷ plain_from (with_lines_of b c) ts)
    else d ∷ plain_from c (b ∷ ts)

-- the list without its trailing commas; a trailing comma that is the first token gives all its comments to the bracket
abbrev pub plain_list : List Decorated → List Decorated
plain_list [] = []
plain_list (c ∷ []) = c ∷ []
plain_list (c ∷ (b ∷ ts)) = if is_trailing_comma c b then plain_from (with_lines_of b c) ts else plain_from c (b ∷ ts)

-- the tokens that aren't trailing commas, unchanged
abbrev pub kept_tokens : List WrappedToken → List WrappedToken
kept_tokens [] = []
kept_tokens (c ∷ []) = c ∷ []
kept_tokens (c ∷ (b ∷ ts)) = if is_trailing_comma (decorated c) (decorated b) then kept_tokens (b ∷ ts) else c ∷ kept_tokens (b ∷ ts)

-- the first token of the list passes the test
abbrev pub first_passes : {A : Type 0} → (A → Bool) → List A → Bool
first_passes p [] = false
first_passes p (a ∷ ts) = p a

-- no two that pass the test are next to each other
abbrev pub NoNeighbours : {A : Type 0} → (A → Bool) → List A → Type 0
NoNeighbours p [] = ⊤
NoNeighbours p (a ∷ ts) = ((p a && first_passes p ts) ≡ false) × NoNeighbours p ts

-- no two commas are next to each other
abbrev pub NoTwoCommas : List Decorated → Type 0
NoTwoCommas ts = NoNeighbours (λ t. is_comma t.text) ts

-- where no two commas are next to each other, a list without its trailing commas has none left
-- (of `,,)` it keeps the first comma, which is then before the bracket)
abbrev pub PlainListIsPlain : Type 0
PlainListIsPlain = (l : List Decorated) → NoTwoCommas l → plain_list (plain_list l) ≡ plain_list l
