-- What the lexer's own scanners look for. Only contracts of private functions cite these.
use Rattle.std.specs.Prelude.{◌≡◌, ◌≢◌, ◌<◌, ℕ, true, false, List, [], ◌∷◌, length}
use Rattle.cedar_tokens.specs.Units.{is_one_of, keywords, slots, punctuators, is_string_rest}

abbrev pub IsSlot : List ℕ → Type 0
IsSlot u = is_one_of slots u ≡ true

abbrev pub IsPunctuator : List ℕ → Type 0
IsPunctuator u = is_one_of punctuators u ≡ true

-- no punctuator of two bytes is at the start of a ∷ bs
abbrev pub NoPair : ℕ → List ℕ → Type 0
NoPair a bs = (b : ℕ) (rest : List ℕ) → bs ≡ b ∷ rest → ¬ (IsPunctuator (a ∷ b ∷ []))

-- a string without its opening quote
abbrev pub IsStringRest : List ℕ → Type 0
IsStringRest u = is_string_rest u ≡ true

-- the text isn't a keyword, a slot or a punctuator
abbrev pub IsNotFixed : List ℕ → Type 0
IsNotFixed text = (is_one_of keywords text ≡ false) × (is_one_of slots text ≡ false) × (is_one_of punctuators text ≡ false)

-- three bytes, five, or seven or more
abbrev pub HasMoreBytes : List ℕ → Type 0
HasMoreBytes text = (2 < length text) × (length text ≢ 4) × (length text ≢ 6)
