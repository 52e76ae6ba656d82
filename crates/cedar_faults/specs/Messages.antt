-- What a message says of what was expected.
use Rattle.std.specs.Prelude.{ℕ, zero, suc, Bool, false, ◌||◌, ◌==◌, if◌then◌else◌, List, [], ◌∷◌, ◌++◌, map, Option, Some, None, chars, codes}
use Rattle.std.specs.Borrow.{Bor}
use Rattle.std.specs.Char.{encode_utf8, is_control}
use Rattle.std.specs.Int.{is_in_range}
use Rattle.std.specs.Fmt.{digits}
use Rattle.cedar_tokens.specs.Bytes.{line_feed, carriage_return}
use Rattle.cedar_tokens.specs.declared.kind.Kind.TheVariants as K
use Rattle.cedar_faults.specs.declared.kinds.Name.{Name}
use Rattle.cedar_faults.specs.declared.kinds.Name.TheVariants.{Policy, Condition, Word, Expression, Operand, FlatOperand, Identifier, Operator, ArithmeticOrLogical, Token}
use Rattle.cedar_faults.specs.declared.expectation.Expected.{Expected}
use Rattle.cedar_faults.specs.Samples.{sample}

-- between single quotes
abbrev pub quoted : List ℕ → List ℕ
quoted text = codes "'" ++ text ++ codes "'"

-- what a name is called: a token that is always written the same is shown
abbrev pub called : Name → List ℕ
called Policy = codes "a policy"
called Condition = codes "a condition"
called Word = codes "a word"
called Expression = codes "an expression"
called Operand = codes "an operand"
called FlatOperand = codes "an operand without brackets"
called Identifier = codes "an identifier"
called Operator = codes "an operator"
called ArithmeticOrLogical = codes "an arithmetic or logical operator"
called (Token K.Identifier) = codes "an identifier that is no keyword"
called (Token K.Number) = codes "a number"
called (Token K.Str) = codes "a string"
called (Token kind) = quoted (sample kind)

-- the texts with commas between them, and "or" before the last
abbrev pub listed : List (List ℕ) → List ℕ
listed [] = []
listed (a ∷ []) = a
listed (a ∷ b ∷ []) = a ++ codes " or " ++ b
listed (a ∷ b ∷ c ∷ more) = a ++ codes ", " ++ listed (b ∷ c ∷ more)

-- a format character of Unicode: a zero-width one, a mark or control of direction, a separator of lines or paragraphs, an
-- invisible operator, or the byte order mark
abbrev pub is_format : ℕ → Bool
is_format c = c == 0x61C || is_in_range 0x200B 0x200F c || is_in_range 0x2028 0x202E c || is_in_range 0x2060 0x2069 c || c == 0xFEFF

-- a character that moves the cursor, is invisible, or changes the order of those around it
abbrev pub is_hidden : ℕ → Bool
is_hidden c = is_control c || is_format c

-- the code of a character, as in Rust's strings
abbrev pub escaped : ℕ → List ℕ
escaped c = codes "\\u{" ++ digits 16 false c ++ codes "}"

abbrev pub tab : ℕ
tab = 9

-- a character in a message: a hidden one is escaped
abbrev pub shown_character : ℕ → List ℕ
shown_character c = if c == line_feed then codes "\\n" else (if c == carriage_return then codes "\\r" else (if c == tab then codes "\\t" else (if is_hidden c then escaped c else encode_utf8 c)))

-- so many characters in a message, and dots in place of any more
abbrev pub shown : ℕ → List ℕ → List ℕ
shown n [] = []
shown zero (c ∷ cs) = codes "..."
shown (suc n) (c ∷ cs) = shown_character c ++ shown n cs

-- what is found, or could come, after the last token
abbrev pub the_end : List ℕ
the_end = codes "the end of the text"

-- the token that was found, of which a message shows 30 characters
abbrev pub found_text : Option (Bor (List ℕ)) → List ℕ
found_text None = the_end
found_text (Some token) = quoted (shown 30 (chars token.now))

-- what could come: the names, and the end of the text after them
abbrev pub alternatives : Expected → List (List ℕ)
alternatives e = map called e.names.items ++ (if e.end then the_end ∷ [] else [])

-- what could come there, and what was found
abbrev pub expected_text : Expected → List ℕ
expected_text e = codes "expected " ++ listed (alternatives e) ++ codes ", found " ++ found_text e.found
