-- Which part of a text a fault is about.
use Rattle.std.specs.Prelude.{◌≡◌, ◌⊎◌, ◌+◌, ◌<◌, ◌≤◌, ℕ, ◌||◌, ◌==◌, IsTrue, List, [], ◌∷◌, ◌++◌, length, drop, slice_index, sum_by}
use Rattle.std.specs.Str.{IsCharBoundary}
use Rattle.cedar_tokens.specs.Units.{IsFirstUnit, IsToken}
use Rattle.cedar_tokens.specs.Split.{SplitsInto}
use Rattle.cedar_tokens.specs.Bytes.{line_feed, carriage_return}
use Rattle.cedar_tokens.specs.declared.token.Span.{Span}
use Rattle.cedar_grammar.specs.Texts.{only_tokens}
use Rattle.cedar_grammar.specs.declared.error.FormatError.{FormatError}
use Rattle.cedar_grammar.specs.declared.error.FormatError.TheVariants.{UnknownCharacter, UnfinishedString, NumberTooLarge, Grammar, TooDeep}

-- the character that the byte `at` belongs to ends before the byte `to`
pub record EndsCharacter (text : List ℕ) (at to : ℕ) : Type 0 where
  pub after : at < to
  pub boundary : IsCharBoundary text to
  pub nearest : (i : ℕ) → at < i → i < to → ¬ (IsCharBoundary text i)

-- the byte at i is a line feed or a carriage return
abbrev pub IsInLineBreak : List ℕ → ℕ → Type 0
IsInLineBreak text i = IsTrue (slice_index text i == line_feed || slice_index text i == carriage_return)

-- from the byte `at` on, the first line feed or carriage return is at `to`, or the text ends there
pub record EndsLine (text : List ℕ) (at to : ℕ) : Type 0 where
  pub from : at ≤ to
  pub within : to ≤ length text
  pub first : (i : ℕ) → at ≤ i → i < to → ¬ (IsInLineBreak text i)
  pub end : to < length text → IsInLineBreak text to

-- the unit that begins at the byte `at` ends before the byte `to`
abbrev pub EndsUnit : List ℕ → ℕ → ℕ → Type 0
EndsUnit text at to = (unit : List ℕ) × IsFirstUnit (drop at text) unit × (to ≡ at + length unit)

-- the last token among the units ends before the byte `to`
pub record EndsLastToken (units : List (List ℕ)) (to : ℕ) : Type 0 where
  pub before : List (List ℕ)
  pub token : List ℕ
  pub after : List (List ℕ)
  pub parts : units ≡ before ++ token ∷ after
  pub kind : IsToken token
  pub others : only_tokens after ≡ []
  pub place : to ≡ sum_by length before + length token

-- the last byte of the text's last token; nothing at the text's end if it has no token
abbrev pub MarksLast : List ℕ → Span → Type 0
MarksLast text s = (units : List (List ℕ)) × SplitsInto text units × ((EndsLastToken units s.end × (s.start + 1 ≡ s.end)) ⊎ ((only_tokens units ≡ []) × (s.start ≡ length text) × (s.end ≡ length text)))

-- the unit that begins at the byte `at`
abbrev pub MarksUnit : List ℕ → ℕ → Span → Type 0
MarksUnit text at s = (s.start ≡ at) × EndsUnit text at s.end

-- what a fault is about: a character, the line of an unfinished string, a number, the token that can't stand there, or
-- the end of the last token of a text that ends too early
abbrev pub Marks : List ℕ → FormatError → Span → Type 0
Marks text (UnknownCharacter at) s = (s.start ≡ at) × EndsCharacter text at s.end
Marks text (UnfinishedString at) s = (s.start ≡ at) × EndsLine text at s.end
Marks text (NumberTooLarge at) s = MarksUnit text at s
Marks text (Grammar at) s = ((at < length text) × MarksUnit text at s) ⊎ ((at ≡ length text) × MarksLast text s)
Marks text (TooDeep at) s = MarksUnit text at s
Marks text e s = ⊥
