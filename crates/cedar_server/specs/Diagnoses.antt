-- What is reported of the faults of a text.
use Rattle.std.specs.Prelude.{◌≡◌, ◌⊎◌, ◌≤◌, ℕ, List, [], ◌∷◌, ◌++◌, length, Option, Some, None, codes, string_bytes, ⊤}
use Rattle.cedar_tokens.specs.declared.token.Span.{Span}
use Rattle.cedar_grammar.specs.declared.error.FormatError.{FormatError}
use Rattle.cedar_grammar.specs.declared.error.FormatError.TheVariants as error
use Rattle.cedar_faults.specs.declared.brackets.Bracket.{Bracket}
use Rattle.cedar_faults.specs.declared.fault.Fault.{Fault}
use Rattle.cedar_faults.specs.Brackets.{told_open}
use Rattle.cedar_faults.specs.Faults.{AreFaults, SearchFinds}
use Rattle.cedar_faults.specs.Words.{message}
use Rattle.cedar_edits.specs.declared.positions.Encoding.{Encoding}
use Rattle.cedar_edits.specs.declared.changes.Range.{Range}
use Rattle.cedar_edits.specs.Positions.{IsPositionAt}
use Rattle.cedar_server.specs.declared.diagnoses.Code.{Code}
use Rattle.cedar_server.specs.declared.diagnoses.Code.TheVariants as code
use Rattle.cedar_server.specs.declared.diagnoses.Diagnosis.{Diagnosis}
use Rattle.cedar_server.specs.declared.diagnoses.Related.{Related}

-- the reason of a fault without its place
abbrev pub code_of : FormatError → Code
code_of (error.UnknownCharacter at) = code.UnknownCharacter
code_of (error.UnfinishedString at) = code.UnfinishedString
code_of (error.NumberTooLarge at) = code.NumberTooLarge
code_of (error.TooDeep at) = code.TooDeep
code_of e = code.Grammar

-- a part of a text at the positions of its bytes
pub record IsRangeOf (e : Encoding) (text : List ℕ) (part : Span) (range : Range) : Type 0 where
  pub start : IsPositionAt e text part.start range.start
  pub end : IsPositionAt e text part.end range.end

-- what is reported of a bracket that isn't closed: its part, and what is said of it; and nothing without one
pub record RelatesTo (e : Encoding) (text : List ℕ) (b : Bracket) (r : Related) : Type 0 where
  pub range : IsRangeOf e text b.part r.range
  pub message : string_bytes r.message ≡ told_open b

abbrev pub Relates : Encoding → List ℕ → Option Bracket → Option Related → Type 0
Relates e text None None = ⊤
Relates e text (Some b) (Some r) = RelatesTo e text b r
Relates e text b r = ⊥

-- what is reported of a fault: the part that it is about, its reason, what is said of it, and the bracket that it leaves open
pub record Tells (e : Encoding) (text : List ℕ) (f : Fault) (d : Diagnosis) : Type 0 where
  pub range : IsRangeOf e text f.part d.range
  pub code : d.code ≡ code_of f.error
  pub message : string_bytes d.message ≡ message f
  pub related : Relates e text f.unclosed d.related

-- what is reported at the first fault that is left out: that there are more
pub record TellsMore (e : Encoding) (text : List ℕ) (f : Fault) (d : Diagnosis) : Type 0 where
  pub range : IsRangeOf e text f.part d.range
  pub code : d.code ≡ code.More
  pub message : string_bytes d.message ≡ codes "more faults, which are left out"
  pub related : d.related ≡ None

-- these are reported of these faults, in order
abbrev pub TellAll : Encoding → List ℕ → List Fault → List Diagnosis → Type 0
TellAll e text [] ds = ds ≡ []
TellAll e text (f ∷ fs) ds = (d : Diagnosis) × (more : List Diagnosis) × (ds ≡ d ∷ more) × Tells e text f d × TellAll e text fs more

-- how many faults of a text are reported at most
abbrev pub most : ℕ
most = 100

-- what is reported of the faults of a text that has no more than so many
abbrev pub TellsEach : Encoding → List ℕ → List Diagnosis → Type 0
TellsEach e text ds = (fs : List Fault) × AreFaults text fs × (length fs ≤ most) × TellAll e text fs ds

-- what is reported of the faults of a text that has more: of the first ones, and at the next one that there are more
pub record TellsFirst (e : Encoding) (text : List ℕ) (ds : List Diagnosis) : Type 0 where
  pub first : List Fault
  pub next : Fault
  pub to : ℕ
  pub found : SearchFinds text 0 (first ++ next ∷ []) to
  pub number : length first ≡ most
  pub told : List Diagnosis
  pub tell : TellAll e text first told
  pub last : Diagnosis
  pub more : TellsMore e text next last
  pub in_order : ds ≡ told ++ last ∷ []

-- what is reported of the faults of a text
abbrev pub AreDiagnoses : Encoding → List ℕ → List Diagnosis → Type 0
AreDiagnoses e text ds = TellsEach e text ds ⊎ TellsFirst e text ds
