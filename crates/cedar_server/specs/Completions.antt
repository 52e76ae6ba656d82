-- What could come at a place of a text.
use Rattle.std.specs.Prelude.{◌≡◌, ◌≤◌, ◌<◌, ◌-◌, ℕ, Bool, true, false, not, ◌||◌, ◌==◌, if◌then◌else◌, IsTrue, List, [], ◌∷◌, ◌++◌, length, take, slice_index, codes}
use Rattle.std.specs.Int.{is_in_range}
use Rattle.std.specs.List.{filter}
use Rattle.cedar_tokens.specs.declared.kind.Kind.{Kind}
use Rattle.cedar_tokens.specs.declared.kind.Kind.TheVariants as K
use Rattle.cedar_tokens.specs.Kinds.{is}
use Rattle.cedar_grammar.specs.declared.error.FormatError.{FormatError}
use Rattle.cedar_grammar.specs.declared.error.FormatError.TheVariants as error
use Rattle.cedar_faults.specs.declared.fault.Fault.{Fault}
use Rattle.cedar_faults.specs.Faults.{AreFirstFaults}
use Rattle.cedar_server.specs.Diagnoses.{most}
use Rattle.cedar_edits.specs.declared.positions.Encoding.{Encoding}
use Rattle.cedar_edits.specs.declared.positions.Position.{Position}
use Rattle.cedar_edits.specs.Positions.{IsOffsetOf}
use Rattle.cedar_server.specs.declared.completions.Completions.{Completions}
use Rattle.cedar_server.specs.Diagnoses.{IsRangeOf}

-- a letter, a digit, `_`, or the `?` of a slot
abbrev pub is_word_byte : ℕ → Bool
is_word_byte b = is_in_range 97 122 b || is_in_range 65 90 b || is_in_range 48 57 b || b == 95 || b == 63

-- the word before the byte `at` begins at the byte `start`: between them are only bytes of words, and none comes before them
pub record BeginsWord (text : List ℕ) (at start : ℕ) : Type 0 where
  pub order : start ≤ at
  pub word : (k : ℕ) → start ≤ k → k < at → IsTrue (is_word_byte (slice_index text k))
  pub first : 0 < start → is_word_byte (slice_index text (start - 1)) ≡ false

-- all tokens of this kind have the same text: it is a keyword or a sign
abbrev pub has_one_text : Kind → Bool
has_one_text kind = not (is K.Identifier kind || is K.Number kind || is K.Str kind)

-- a string isn't finished
abbrev pub is_open : FormatError → Bool
is_open (error.UnfinishedString at) = true
is_open e = false

-- the keywords and signs that are expected at the byte `at` by one of the faults; none after a string that isn't finished
abbrev pub expected_at : ℕ → List Fault → List Kind
expected_at at [] = []
expected_at at (f ∷ fs) = if is_open f.error then [] else (if f.expected.at == at then filter has_one_text f.expected.kinds.items.items else expected_at at fs)

-- The keywords and signs that could come after a text: those that are expected in place of a character that begins no token. They
-- are none in a string, in a comment, or if the policy has its fault before.
abbrev pub CouldCome : List ℕ → List Kind → Type 0
CouldCome before kinds = (fs : List Fault) × AreFirstFaults (before ++ codes "#") most fs × (kinds ≡ expected_at (length before) fs)

-- what could come at a position, in place of the word before it
pub record AreCompletions (e : Encoding) (text : List ℕ) (position : Position) (c : Completions) : Type 0 where
  pub end : ℕ
  pub start : ℕ
  pub cursor : IsOffsetOf e text position end
  pub word : BeginsWord text end start
  pub range : IsRangeOf e text (record { start = start; end = end }) c.range
  pub kinds : CouldCome (take start text) c.kinds.items
