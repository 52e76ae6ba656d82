-- Laws of accepted and refused texts, and of trees of nodes.
use Rattle.std.specs.Prelude.{◌≡◌, ℕ, List, ◌⊎◌, map}
use Rattle.cedar_tokens.specs.Split.{SplitsInto}
use Rattle.cedar_tokens.specs.Listing.{IsListing, Listing, token_value}
use Rattle.cedar_tokens.specs.PlainList.{plain_list}
use Rattle.cedar_grammar.specs.declared.error.FormatError.{FormatError}
use Rattle.cedar_grammar.specs.declared.tree.Policies.{Policies}
use Rattle.cedar_grammar.specs.Trees.{yield}
use Rattle.cedar_grammar.specs.Texts.{Accepted}
use Rattle.cedar_grammar.specs.Refusals.{Refuses}
use Rattle.cedar_grammar.specs.Erased.{erase}
use Rattle.cedar_grammar.specs.NodeTrees.{IsTreeOf}

-- a text that splits is accepted or refused
abbrev pub TextIsJudged : Type 0
TextIsJudged = (text : List ℕ) (units : List (List ℕ)) → SplitsInto text units → Accepted text ⊎ ((e : FormatError) × Refuses text e)

-- an accepted text is not refused
abbrev pub AcceptedIsNotRefused : Type 0
AcceptedIsNotRefused = (text : List ℕ) (e : FormatError) → Accepted text → ¬ (Refuses text e)

-- a text has at most one refusal: one place and one kind
abbrev pub RefusalIsUnique : Type 0
RefusalIsUnique = (text : List ℕ) (d e : FormatError) → Refuses text d → Refuses text e → d ≡ e

-- a text with a tree of nodes is accepted
abbrev pub TreeIsOfAccepted : Type 0
TreeIsOfAccepted = (text : List ℕ) (p : Policies) → IsTreeOf text p → Accepted text

-- a text has at most one tree of nodes, spans included
abbrev pub TreeOfNodesIsUnique : Type 0
TreeOfNodesIsUnique = (text : List ℕ) (p q : Policies) → IsTreeOf text p → IsTreeOf text q → erase p ≡ erase q

-- the leaves of the tree of nodes are the texts of the plain list, numbers without leading zeros
abbrev pub NodesHaveThePlainTexts : Type 0
NodesHaveThePlainTexts = (text : List ℕ) (p : Policies) (l : Listing) → IsTreeOf text p → IsListing text l → yield (erase p) ≡ map (λ t. token_value t.text) (plain_list l.tokens)
