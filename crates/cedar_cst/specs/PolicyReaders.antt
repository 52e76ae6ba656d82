-- How far a reader of policies has come, and which policies and pieces of its text it has answered.
use Rattle.std.specs.Prelude.{◌≡◌, ◌≤◌, ◌+◌, ℕ, false, List, [], ◌∷◌, ◌⊎◌, ◌↔◌, length, map, take, drop}
use Rattle.std.specs.List.{list_any, AllByRecursion}
use Rattle.std.specs.Str.{IsCharBoundary}
use Rattle.cedar_tokens.specs.Split.{SplitsInto}
use Rattle.cedar_tokens.specs.Listing.{IsListing}
use Rattle.cedar_tokens.specs.Places.{AreTokenSpans}
use Rattle.cedar_tokens.specs.Tokens.{decorated, StandsIn}
use Rattle.cedar_tokens.specs.declared.token.WrappedToken.{WrappedToken}
use Rattle.cedar_grammar.specs.Trees.{Label, Forest, none}
use Rattle.cedar_grammar.specs.Grammar.{IsSyntaxTree}
use Rattle.cedar_grammar.specs.Numbers.{is_too_large}
use Rattle.cedar_grammar.specs.Texts.{greatest_depth, Accepted}
use Rattle.cedar_grammar.specs.Placed.{Placed, placed}
use Rattle.cedar_grammar.specs.PlainTrees.{plain_trees}
use Rattle.cedar_grammar.specs.declared.tree.Node.{Node}
use Rattle.cedar_grammar.specs.declared.tree.Policy.{Policy}
use Rattle.cedar_grammar.specs.declared.tree.Policies.{Policies}
use Rattle.cedar_grammar.specs.Erased.{variant, policy_trees}
use Rattle.cedar_grammar.specs.NodeTrees.{spanned, IsTreeOf}
use Rattle.cedar_reading.specs.Pieces.{IsPiece, IsFirstPiece, HasNoPiece}

-- a place in a text: so many of its bytes are read
pub record Position : Type 0 where
  pub text : List ℕ
  pub at : ℕ

-- the first so many bytes of the text are none, or a piece
abbrev pub EndsPiece : List ℕ → ℕ → Type 0
EndsPiece text at = (at ≡ 0) ⊎ IsPiece text at

-- policies may be read from here on: what comes before is none or a piece, and accepted
pub record IsAfterPolicies (text : List ℕ) (at : ℕ) : Type 0 where
  pub inside : at ≤ length text
  pub boundary : IsCharBoundary text at
  pub ends : EndsPiece text at
  pub accepted : Accepted (take at text)

-- the text is accepted, and these are the policies of its tree without trailing commas, with all spans
pub record HasPolicies (text : List ℕ) (policies : List (Node Policy)) : Type 0 where
  pub units : List (List ℕ)
  pub split : SplitsInto text units
  pub fitting : list_any is_too_large units ≡ false
  pub tree : Forest Label Placed
  pub grammar : IsSyntaxTree (λ t. t.text) greatest_depth tree (placed units)
  pub nodes : variant Label.policies (policy_trees policies) none ≡ spanned (λ t. t.text) (λ t. t.span) (plain_trees (λ t. t.text) tree)

-- the reader is one for this text, and has answered these policies: those of the bytes that it has read
pub record HasRead (reader : Position) (text : List ℕ) (policies : List (Node Policy)) : Type 0 where
  pub of_text : reader.text ≡ text
  pub ends : EndsPiece text reader.at
  pub read : HasPolicies (take reader.at text) policies

-- the text is accepted, and this is the only policy of its tree
abbrev pub IsPolicyOf : List ℕ → Node Policy → Type 0
IsPolicyOf text policy = (p : Policies) × IsTreeOf text p × (p.policies.items ≡ policy ∷ [])

-- the tokens are those of the text with their comments, each at its place
pub record AreTokensOf (text : List ℕ) (tokens : List WrappedToken) : Type 0 where
  pub closing : List (List ℕ)
  pub listing : IsListing text (record { tokens = map decorated tokens; closing = closing })
  pub spans : AreTokenSpans text (map (λ t. t.span) tokens)
  pub slices : AllByRecursion (StandsIn text) tokens

-- the reader continues past these bytes: the first piece of what was left of its text
pub record GoesOn (old new : Position) (piece : List ℕ) : Type 0 where
  pub of_text : new.text ≡ old.text
  pub further : new.at ≡ old.at + length piece
  pub first : IsFirstPiece (drop old.at old.text) (length piece)
  pub bytes : piece ≡ take (length piece) (drop old.at old.text)

-- no piece and no token is left of the reader's text, and all of it is accepted
pub record HasEnded (reader : Position) : Type 0 where
  pub none : HasNoPiece (drop reader.at reader.text)
  pub rest : Accepted (drop reader.at reader.text)
  pub accepted : Accepted reader.text

-- a text has the policies of its tree of nodes
abbrev pub TreeHasThePolicies : Type 0
TreeHasThePolicies = (text : List ℕ) (p : Policies) → HasPolicies text p.policies.items ↔ IsTreeOf text p

-- what a reader has answered are the first policies of the text's tree
abbrev pub AnsweredComeFirst : Type 0
AnsweredComeFirst = (reader : Position) (text : List ℕ) (ps : List (Node Policy)) (p : Policies) → HasRead reader text ps → IsTreeOf text p
    → policy_trees (take (length ps) p.policies.items) ≡ policy_trees ps
