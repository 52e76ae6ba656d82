-- What could come at the place where a text leaves the grammar.
use Rattle.std.specs.Prelude.{◌≡◌, ◌↔◌, ℕ, Bool, IsTrue, List, [], ◌∷◌, ◌++◌, length, map, Option, Some, None, Contains}
use Rattle.std.specs.List.{sum_by}
use Rattle.std.specs.List.Sorted.{IsStrictlyIncreasing}
use Rattle.std.specs.Option.{option_map}
use Rattle.cedar_tokens.specs.Units.{IsToken}
use Rattle.cedar_tokens.specs.Split.{SplitsInto}
use Rattle.cedar_tokens.specs.declared.kind.Kind.{Kind}
use Rattle.cedar_tokens.specs.Kinds.{code}
use Rattle.cedar_tokens.specs.TokenKinds.{kind_of}
use Rattle.cedar_grammar.specs.Trees.{Label, Forest}
use Rattle.cedar_grammar.specs.Grammar.{IsSyntaxTree}
use Rattle.cedar_grammar.specs.Beginnings.{Begins}
use Rattle.cedar_grammar.specs.Texts.{greatest_depth, only_tokens, LeavesGrammar}
use Rattle.cedar_faults.specs.declared.expectation.Expected.{Expected}
use Rattle.cedar_faults.specs.Naming.{AreNamed}

-- some accepted list begins with these tokens and then a token of this kind
abbrev pub CanFollow : List (List ℕ) → Kind → Type 0
CanFollow front kind = (token : List ℕ) × IsToken token × (kind_of token ≡ kind) × Begins greatest_depth (front ++ token ∷ [])

-- the kinds of all tokens that can follow these, each once and in the order of `Kind`
pub record AreAllAfter (front : List (List ℕ)) (kinds : List Kind) : Type 0 where
  pub exact : (kind : Kind) → Contains kinds kind ↔ CanFollow front kind
  pub ordered : IsStrictlyIncreasing (map code kinds)

-- these tokens are an accepted list
abbrev pub IsList : List (List ℕ) → Type 0
IsList tokens = (tree : Forest Label (List ℕ)) × IsSyntaxTree (λ t. t) greatest_depth tree tokens

-- the first of the units, if there is one
abbrev pub first_of : List (List ℕ) → Option (List ℕ)
first_of [] = None
first_of (u ∷ us) = Some u

-- the text leaves the grammar at this place
abbrev pub LeavesAt : List ℕ → ℕ → Type 0
LeavesAt text at = (deep : Bool) × LeavesGrammar text at deep

-- the text leaves the grammar at this place, after the units `before`; it has this token there, and could have these, or end
pub record IsExpected (text : List ℕ) (e : Expected) : Type 0 where
  pub before : List (List ℕ)
  pub after : List (List ℕ)
  pub split : SplitsInto text (before ++ after)
  pub place : e.at ≡ sum_by length before
  pub leaves : LeavesAt text e.at
  pub found : option_map (λ t. t.now) e.found ≡ first_of after
  pub kinds : AreAllAfter (only_tokens before) e.kinds.items.items
  pub named : AreNamed e.kinds.items.items e.names.items
  pub end : IsTrue e.end ↔ IsList (only_tokens before)

-- the text does not leave the grammar: it is accepted, or its tokens are refused
abbrev pub NeverLeaves : List ℕ → Type 0
NeverLeaves text = (at : ℕ) → ¬ (LeavesAt text at)

-- of two tokens of one kind, either both can follow or neither
abbrev pub KindDecides : Type 0
KindDecides = (d : ℕ) (front : List (List ℕ)) (t u : List ℕ) → IsToken t → IsToken u → kind_of t ≡ kind_of u → Begins d (front ++ t ∷ []) → Begins d (front ++ u ∷ [])
