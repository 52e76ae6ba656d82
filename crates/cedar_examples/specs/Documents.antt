-- The documents of the policies of a text.
use Rattle.std.specs.Prelude.{◌≡◌, [], ◌∷◌, ℕ, ℤ, List, map, MatchOption, Option}
use Rattle.cedar_tokens.specs.PlainList.{plain_list}
use Rattle.cedar_tokens.specs.Tokens.{decorated}
use Rattle.cedar_tokens.specs.declared.token.WrappedToken.{WrappedToken}
use Rattle.cedar_grammar.specs.Trees.{Label}
use Rattle.cedar_layout.specs.Value.{doc_of}
use Rattle.cedar_layout.specs.declared.layout.Document.{Document}
use Rattle.cedar_grammar.specs.Erased.{policy_parts}
use Rattle.cedar_grammar.specs.NodeTrees.{IsTreeOf}
use Rattle.cedar_grammar.specs.declared.tree.Node.{Node}
use Rattle.cedar_grammar.specs.declared.tree.Policies.{Policies}
use Rattle.cedar_grammar.specs.declared.tree.Policy.{Policy}
use Rattle.cedar_layout.specs.Lookups.{Shown}
use Rattle.cedar_documents.specs.OwnTokens.{AreTokensOf, IsShownAs, StandTogether}

-- the tokens of the text without trailing commas, each with its comments
pub record ArePlainTokensOf (text : List ℕ) (tokens : List WrappedToken) : Type 0 where
  pub are_tokens : AreTokensOf text tokens
  pub comments : map decorated tokens ≡ plain_list (map decorated are_tokens.stream)

-- the document that the table has for a policy of the text, at an indentation
pub record IsDocumentIn (text : List ℕ) (indent : ℤ) (policy : Node Policy) (document : Document) : Type 0 where
  pub tokens : List WrappedToken
  pub are_plain : ArePlainTokensOf text tokens
  pub own : List Shown
  pub together : StandTogether tokens own
  pub shown : IsShownAs Label.policy policy.span (policy_parts policy.inner) indent own (doc_of document)

-- the document of the text's first policy, and none if it has no policy
abbrev pub IsFirstDocument : ℤ → List ℕ → Option Document → Type 0
IsFirstDocument indent text answer = (tree : Policies) × IsTreeOf text tree
    × MatchOption answer (tree.policies.items ≡ []) (λ d. (first : Node Policy) × (others : List (Node Policy)) × (tree.policies.items ≡ first ∷ others) × IsDocumentIn text indent first d)
