-- Texts of given policies.
use Rattle.std.specs.Prelude.{◌≡◌, ◌⊎◌, ℕ, false, List, map, ⊤}
use Rattle.std.specs.List.{list_any}
use Rattle.cedar_tokens.specs.Split.{SplitsInto}
use Rattle.cedar_grammar.specs.Grammar.{IsSyntaxTree}
use Rattle.cedar_grammar.specs.Numbers.{is_too_large}
use Rattle.cedar_grammar.specs.Placed.{Placed, placed}
use Rattle.cedar_grammar.specs.Texts.{Accepted, greatest_depth}
use Rattle.cedar_grammar.specs.PlainTrees.{plain_trees}
use Rattle.cedar_grammar.specs.Trees.{Label, Forest}
use Rattle.cedar_tokens.specs.Listing.{IsListing, Listing, token_value}
use Rattle.cedar_tokens.specs.PlainList.{plain_list}
use Rattle.cedar_grammar.specs.declared.error.FormatError.{FormatError}
use Rattle.cedar_grammar.specs.declared.error.FormatError.TheVariants.{Unsound, OutOfMemory}
use Rattle.cedar_grammar.specs.declared.tree.Policies.{Policies}
use Rattle.cedar_grammar.specs.Erased.{Erased, SameTree, without_spans}
use Rattle.cedar_grammar.specs.NodeTrees.{IsTreeOf, spanned}

-- the text is accepted, and its tree of nodes is this one except for spans
abbrev pub IsTextOf : List ℕ → Policies → Type 0
IsTextOf text tree = (p : Policies) × IsTreeOf text p × SameTree p tree

-- the text is accepted, and this is its tree of nodes, with all spans (`IsTreeOf` says the same for policies in memory)
pub record HasNodes (text : List ℕ) (nodes : Erased) : Type 0 where
  pub units : List (List ℕ)
  pub split : SplitsInto text units
  pub fitting : list_any is_too_large units ≡ false
  pub tree : Forest Label Placed
  pub grammar : IsSyntaxTree (λ t. t.text) greatest_depth tree (placed units)
  pub value : nodes ≡ spanned (λ t. t.text) (λ t. t.span) (plain_trees (λ t. t.text) tree)

-- both texts are accepted, and their trees of nodes are equal except for spans
abbrev pub KeepsPolicies : List ℕ → List ℕ → Type 0
KeepsPolicies old new = (f : Erased) × (g : Erased) × HasNodes old f × HasNodes new g × (without_spans f ≡ without_spans g)

-- why a check fails: `Unsound` only if the text is not accepted, or its tree of nodes is a different one
abbrev pub FailsCheck : List ℕ → Policies → FormatError → Type 0
FailsCheck text tree Unsound = ¬ (Accepted text) ⊎ ((p : Policies) × IsTreeOf text p × ¬ (SameTree p tree))
FailsCheck text tree OutOfMemory = ⊤
FailsCheck text tree e = ⊥

-- the texts of the plain list, numbers without leading zeros
abbrev pub plain_values : Listing → List (List ℕ)
plain_values l = map (λ t. token_value t.text) (plain_list l.tokens)

-- texts of the same policies have the same tokens, except for trailing commas and leading zeros
abbrev pub KeptPoliciesHaveTheSameTokens : Type 0
KeptPoliciesHaveTheSameTokens = (a b : List ℕ) (l m : Listing) → KeepsPolicies a b → IsListing a l → IsListing b m → plain_values l ≡ plain_values m
