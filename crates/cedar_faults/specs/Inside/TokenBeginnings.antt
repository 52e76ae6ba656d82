-- What the tokens of a text begin.
use Rattle.std.specs.Prelude.{◌≡◌, ℕ, List, ◌++◌, Option, Some, None}
use Rattle.cedar_tokens.specs.Split.{SplitsInto}
use Rattle.cedar_tokens.specs.declared.kind.Kind.{Kind}
use Rattle.cedar_grammar.specs.Beginnings.{Begins}
use Rattle.cedar_grammar.specs.Texts.{greatest_depth, only_tokens}
use Rattle.cedar_grammar.specs.declared.error.FormatError.{FormatError}
use Rattle.cedar_grammar.specs.declared.error.FormatError.TheVariants.{Grammar, TooDeep, OutOfMemory}
use Rattle.cedar_faults.specs.Expectations.{IsList, AreAllAfter}

-- this holds of the tokens of the text
abbrev pub OfTokens : List ℕ → (List (List ℕ) → Type 0) → Type 0
OfTokens text P = (units : List (List ℕ)) × SplitsInto text units × P (only_tokens units)

-- some accepted list begins with the text's tokens
abbrev pub TokensBegin : List ℕ → Type 0
TokensBegin text = OfTokens text (Begins greatest_depth)

-- the text's tokens are an accepted list
abbrev pub HasTree : List ℕ → Type 0
HasTree text = OfTokens text IsList

-- these are the kinds of all tokens that can follow those of the text
abbrev pub KindsFollow : List ℕ → List Kind → Type 0
KindsFollow text kinds = OfTokens text (λ front. AreAllAfter front kinds)

-- where a text with this refusal leaves the grammar, if it does; nothing is known if out of memory
abbrev pub IsPlaceOf : FormatError → Option ℕ → Type 0
IsPlaceOf (Grammar n) at = at ≡ Some n
IsPlaceOf (TooDeep n) at = at ≡ Some n
IsPlaceOf OutOfMemory at = ⊥
IsPlaceOf e at = at ≡ None
