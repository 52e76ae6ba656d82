-- The lines that brackets take over from trailing commas. Only contracts of private functions cite these.
use Rattle.std.specs.Prelude.{ℕ, List, [], ◌∷◌, ◌++◌, Bool, false, ◌&&◌, ◌||◌, not, if◌then◌else◌, Option, Some, None, ◌≡◌, map}
use Rattle.cedar_tokens.specs.Listing.{Decorated, is_empty, comments}
use Rattle.std.specs.Borrow.{Bor}
use Rattle.std.specs.Option.{option_map}
use Rattle.std.specs.Global.{Vec}
use Rattle.std.specs.Vec.Iter.{into_iter_items}
use Rattle.std.specs.declared.alloc.Global.{Global}
use Rattle.std.specs.declared.vec.IntoIter.{IntoIter}
use Rattle.cedar_tokens.specs.PlainList.{is_trailing_comma, with_trailing_of, with_lines_of}
use Rattle.cedar_tokens.specs.Tokens.{decorated, trailing_text}
use Rattle.cedar_tokens.specs.declared.token.WrappedToken.{WrappedToken}

-- whether one of the tokens is a trailing comma
abbrev pub has_trailing_comma : List WrappedToken → Bool
has_trailing_comma [] = false
has_trailing_comma (c ∷ []) = false
has_trailing_comma (c ∷ (b ∷ ts)) = is_trailing_comma (decorated c) (decorated b) || has_trailing_comma (b ∷ ts)

-- whether the comma c leaves its trailing text to the token before it, whose trailing text is given
abbrev pub leaves : Option (List ℕ) → Decorated → Bool
leaves None c = false
leaves (Some trailing) c = is_empty trailing && is_empty c.leading

-- the lines of the bracket b that takes the comments of the comma c
abbrev pub lines_for : Decorated → Decorated → List (List ℕ)
lines_for c b = c.leading ++ (comments c.trailing ++ b.leading)

-- the lines of each such bracket, in order; before is the trailing text of the token before the list
abbrev pub moved_lines : Option (List ℕ) → List Decorated → List (List (List ℕ))
moved_lines before [] = []
moved_lines before (c ∷ []) = []
moved_lines before (c ∷ (b ∷ ts)) = if is_trailing_comma c b && not (leaves before c)
    then lines_for c b ∷ moved_lines (Some c.trailing) (b ∷ ts)
    else moved_lines (Some c.trailing) (b ∷ ts)

-- the bracket b with these lines in place of its own
abbrev pub with_lines : Decorated → List (List ℕ) → Decorated
with_lines b ls = record { text = b.text; leading = ls; trailing = b.trailing }

-- the comma c left its comments to the token before it
abbrev pub LeftToToken : Option Decorated → Decorated → Decorated → Option Decorated → Decorated → Type 0
LeftToToken before c b before' b' = (before' ≡ option_map (λ d. with_trailing_of d c) before) × (b' ≡ b)

-- the comments of the comma c went to the bracket b
abbrev pub MovedToBracket : Option Decorated → Decorated → Decorated → Option Decorated → Decorated → Type 0
MovedToBracket before c b before' b' = (before' ≡ before) × (b' ≡ with_lines_of b c)

-- the list begins with x
abbrev pub HasNext : List (List (List ℕ)) → List (List ℕ) → Type 0
HasNext ls x = (rest : List (List (List ℕ))) × (ls ≡ x ∷ rest)

-- after is the list before without its first item
abbrev pub Follows : List (List (List ℕ)) → List (List (List ℕ)) → Type 0
Follows before after = (x : List (List ℕ)) × (before ≡ x ∷ after)

-- the texts in a vector of slices
abbrev pub lines_of : Vec (Bor (List ℕ)) → List (List ℕ)
lines_of v = map (λ l. l.now) v.items

-- the lines that are still to be assigned
abbrev pub lines_left : IntoIter (Vec (Bor (List ℕ))) Global → List (List (List ℕ))
lines_left it = map lines_of (into_iter_items it)

abbrev pub trailing_before : Option WrappedToken → Option (List ℕ)
trailing_before before = option_map (λ w. trailing_text w.comment) before
