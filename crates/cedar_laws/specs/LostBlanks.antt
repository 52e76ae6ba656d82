-- What cleaning removes from any text, even one that doesn't split.
use Rattle.std.specs.Prelude.{◌≡◌, ◌⊎◌, ℕ, List, [], ◌++◌, true}
use Rattle.std.specs.Char.{IsScalar, encode_utf8, is_whitespace}
use Rattle.std.specs.Str.{trim, IsUtf8}
use Rattle.cedar_tokens.specs.Units.{IsComment, IsLongest}
use Rattle.cedar_layout.specs.Cleaning.{IsKept, NoneBegins, IsCleaned}

-- b is a without some of its White_Space characters
pub data LosesBlanks : List ℕ → List ℕ → Type 0 where
  none_left : LosesBlanks [] []
  stays : (c : ℕ) {a b : List ℕ} → IsScalar c → LosesBlanks a b → LosesBlanks (encode_utf8 c ++ a) (encode_utf8 c ++ b)
  goes : (c : ℕ) {a b : List ℕ} → is_whitespace c ≡ true → LosesBlanks a b → LosesBlanks (encode_utf8 c ++ a) b

-- t is what is left of s where y is left after it: all of s, or, if s is a comment and y is empty, perhaps the trimmed s
abbrev pub IsLeftBefore : List ℕ → List ℕ → List ℕ → Type 0
IsLeftBefore y s t = (t ≡ s) ⊎ (IsComment s × (t ≡ trim s) × (y ≡ []))

-- x is cut at its strings and comments: these stay in y, and from the rest only White_Space is removed
pub data LosesBlanksBetween : List ℕ → List ℕ → Type 0 where
  last_part : (m n : List ℕ) → NoneBegins m [] → LosesBlanks m n → LosesBlanksBetween m n
  more_parts : (m n s t r y : List ℕ) → NoneBegins m (s ++ r) → IsLongest IsKept (s ++ r) s → LosesBlanks m n → IsLeftBefore y s t → LosesBlanksBetween r y → LosesBlanksBetween (m ++ (s ++ r)) (n ++ (t ++ y))

-- cleaning removes only White_Space, and none from a string
abbrev pub EveryTextLosesBlanks : Type 0
EveryTextLosesBlanks = (x y : List ℕ) → IsUtf8 x → IsCleaned x y → LosesBlanksBetween x y
