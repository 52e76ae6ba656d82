-- The tree of nodes that belongs to a text.
use Rattle.std.specs.Prelude.{◌≡◌, ℕ, Bool, true, false, List, [], ◌∷◌, Option, Some, None, if◌then◌else◌}
use Rattle.std.specs.List.{list_any}
use Rattle.cedar_tokens.specs.Split.{SplitsInto}
use Rattle.cedar_tokens.specs.Listing.{token_value}
use Rattle.cedar_tokens.specs.declared.token.Span.{Span}
use Rattle.cedar_grammar.specs.declared.tree.Policies.{Policies}
use Rattle.cedar_grammar.specs.Trees.{Label, Forest, none, leaf, branch, yield}
use Rattle.cedar_grammar.specs.Grammar.{IsSyntaxTree}
use Rattle.cedar_grammar.specs.Numbers.{is_too_large}
use Rattle.cedar_grammar.specs.Texts.{greatest_depth}
use Rattle.cedar_grammar.specs.Placed.{Placed, placed}
use Rattle.cedar_grammar.specs.PlainTrees.{plain_trees}
use Rattle.cedar_grammar.specs.Erased.{Erased, erase}

-- whether trees of this label are nodes of the Rust types, which have spans
abbrev pub is_node : Label → Bool
is_node Label.policies = false
is_node Label.parens = false
is_node Label.list = false
is_node Label.fields = false
is_node Label.compare = false
is_node Label.has_or_like = false
is_node Label.is_type = false
is_node Label.bang = false
is_node Label.dash = false
is_node l = true

-- Trees whose tokens have a text and a place.
module _ {A : Type 0} (text : A → List ℕ) (place : A → Span) where
  -- where the last of the tokens ends
  abbrev pub end_of : Span → List A → ℕ
  end_of s [] = s.end
  end_of s (t ∷ ts) = end_of (place t) ts

  -- from the first token's start to the last token's end
  abbrev pub span_of : List A → Option Span
  span_of [] = None
  span_of (t ∷ ts) = Some (record { start = (place t).start; end = end_of (place t) ts })

  -- the tree with the spans of its nodes; a number's leaf has no leading zeros
  abbrev pub spanned : Forest Label A → Erased
  spanned none = none
  spanned (leaf t f) = leaf (token_value (text t)) (spanned f)
  spanned (branch l f g) = branch (l, if is_node l then span_of (yield f) else None) (spanned f) (spanned g)

-- the text is accepted, and its tree without trailing commas is that of the policies, spans included
pub record IsTreeOf (text : List ℕ) (policies : Policies) : Type 0 where
  pub units : List (List ℕ)
  pub split : SplitsInto text units
  pub fitting : list_any is_too_large units ≡ false
  pub tree : Forest Label Placed
  pub grammar : IsSyntaxTree (λ t. t.text) greatest_depth tree (placed units)
  pub nodes : erase policies ≡ spanned (λ t. t.text) (λ t. t.span) (plain_trees (λ t. t.text) tree)
