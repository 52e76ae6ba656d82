-- Line feeds with carriage returns before them.
use Rattle.std.specs.Prelude.{◌≡◌, ◌-◌, ◌<◌, ℕ, Bool, ◌==◌, ◌&&◌, not, if◌then◌else◌, List, [], ◌∷◌, ◌++◌, slice_index}
use Rattle.cedar_tokens.specs.Bytes.{carriage_return, line_feed}

-- the text has a line feed, and a carriage return before each of them
pub record HasReturns (text : List ℕ) : Type 0 where
  pub some : (i : ℕ) × (slice_index text i ≡ line_feed)
  pub all : (i : ℕ) → slice_index text i ≡ line_feed → (0 < i) × (slice_index text (i - 1) ≡ carriage_return)

-- after the byte `last`, this is a line feed without a carriage return before it
abbrev pub lacks_return : ℕ → ℕ → Bool
lacks_return last b = (b == line_feed) && not (last == carriage_return)

-- what follows the byte `last`, with a carriage return before each line feed that has none
abbrev pub returned_after : ℕ → List ℕ → List ℕ
returned_after last [] = []
returned_after last (b ∷ bs) = (if lacks_return last b then carriage_return ∷ (b ∷ []) else b ∷ []) ++ returned_after b bs

-- the text with a carriage return before each line feed that has none
abbrev pub with_returns : List ℕ → List ℕ
with_returns text = returned_after 0 text
