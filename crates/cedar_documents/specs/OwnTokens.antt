-- The nodes of an accepted text, and their own tokens among those of the text.
use Rattle.std.specs.Prelude.{◌≡◌, ◌⊎◌, ℕ, ℤ, List, ◌++◌, map, Some}
use Rattle.std.specs.List.{Contains}
use Rattle.cedar_tokens.specs.Listing.{IsListing}
use Rattle.cedar_tokens.specs.Places.{AreTokenSpans}
use Rattle.cedar_tokens.specs.PlainList.{kept_tokens}
use Rattle.cedar_tokens.specs.Tokens.{bare, decorated}
use Rattle.cedar_tokens.specs.declared.token.Span.{Span}
use Rattle.cedar_tokens.specs.declared.token.WrappedToken.{WrappedToken}
use Rattle.cedar_grammar.specs.Trees.{Label, none, leaf, branch}
use Rattle.cedar_layout.specs.Layout.{Doc}
use Rattle.cedar_layout.specs.Lookups.{Shown, shown}
use Rattle.cedar_grammar.specs.Erased.{Erased, policy_parts, policy_trees}
use Rattle.cedar_grammar.specs.NodeTrees.{IsTreeOf}
use Rattle.cedar_grammar.specs.declared.tree.Node.{Node}
use Rattle.cedar_grammar.specs.declared.tree.Policies.{Policies}
use Rattle.cedar_grammar.specs.declared.tree.Policy.{Policy}
use Rattle.cedar_documents.specs.ShownNodes.{IsRowOf}

-- these trees contain a node with this label, span and parts, as one of them or inside one
abbrev pub Holds : Erased → Label → Span → Erased → Type 0
Holds none l s parts = ⊥
Holds (leaf text f) l s parts = Holds f l s parts
Holds (branch k f g) l s parts = ((k ≡ (l, Some s)) × (f ≡ parts)) ⊎ (Holds f l s parts ⊎ Holds g l s parts)

-- a node with this label is made of these tokens, and this is its document at an indentation: what `is_shown` says for its type
abbrev pub IsShownAs : Label → Span → Erased → ℤ → List Shown → Doc → Type 0
IsShownAs l s parts = IsRowOf l (branch (l, Some s) parts none)

-- these are consecutive among the tokens
abbrev pub StandTogether : List WrappedToken → List Shown → Type 0
StandTogether tokens ts = (before : List Shown) × (after : List Shown) × (map shown tokens ≡ before ++ (ts ++ after))

-- at every indentation, the node is made of some of these tokens, which are consecutive
abbrev pub MeetsItsTokens : List WrappedToken → Label → Span → Erased → Type 0
MeetsItsTokens tokens l s parts = (i : ℤ) → (ts : List Shown) × (doc : Doc) × IsShownAs l s parts i ts doc × StandTogether tokens ts

-- the tokens of the text's stream without trailing commas, whichever comments they still have
pub record AreTokensOf (text : List ℕ) (tokens : List WrappedToken) : Type 0 where
  pub stream : List WrappedToken
  pub closing : List (List ℕ)
  pub listing : IsListing text (record { tokens = map decorated stream; closing = closing })
  pub spans : AreTokenSpans text (map (λ w. w.span) stream)
  pub kept : map bare tokens ≡ map bare (kept_tokens stream)

-- each policy of an accepted text finds its tokens
abbrev pub PoliciesMeetTheirTokens : Type 0
PoliciesMeetTheirTokens = (text : List ℕ) (p : Policies) (tokens : List WrappedToken) → IsTreeOf text p → AreTokensOf text tokens → (n : Node Policy) → Contains p.policies.items n → MeetsItsTokens tokens Label.policy n.span (policy_parts n.inner)

-- and so does every node of every type, however deeply nested
abbrev pub NodesMeetTheirTokens : Type 0
NodesMeetTheirTokens = (text : List ℕ) (p : Policies) (tokens : List WrappedToken) → IsTreeOf text p → AreTokensOf text tokens → (l : Label) (s : Span) (parts : Erased) → Holds (policy_trees p.policies.items) l s parts → MeetsItsTokens tokens l s parts
