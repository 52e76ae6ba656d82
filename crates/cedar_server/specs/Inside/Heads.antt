-- What the functions below `symbols` add and find.
use Rattle.std.specs.Prelude.{◌≡◌, ◌⊎◌, ℕ, Bool, false, ◌||◌, not, List, ◌++◌, take, All, slice_get, Option, Some, None}
use Rattle.cedar_tokens.specs.TokenKinds.{kind_of}
use Rattle.cedar_tokens.specs.declared.kind.Kind.{Kind}
use Rattle.cedar_tokens.specs.declared.token.Span.{Span}
use Rattle.cedar_grammar.specs.Texts.{Accepted}
use Rattle.cedar_grammar.specs.declared.tree.Node.{Node}
use Rattle.cedar_grammar.specs.declared.tree.Annotation.{Annotation}
use Rattle.cedar_grammar.specs.declared.tree.Policies.{Policies}
use Rattle.cedar_grammar.specs.NodeTrees.{IsTreeOf}
use Rattle.cedar_server.specs.Parts.{AreParts}
use Rattle.cedar_server.specs.Symbols.{IsId, IsNoId, is_tight_before, is_tight_after, space_between, head, AreSymbolsOf}
use Rattle.cedar_server.specs.declared.symbols.Symbol.{Symbol}

-- the symbols of a section are added, or it isn't accepted
abbrev pub AddsSymbols : List ℕ → ℕ → List Symbol → List Symbol → Type 0
AddsSymbols section from old new = (¬ (Accepted section) × (new ≡ old))
    ⊎ ((p : Policies) × (ss : List Symbol) × IsTreeOf section p × AreSymbolsOf section from p.policies.items ss × (new ≡ old ++ ss))

-- the first `@id` among annotations
pub record IsFirstId (annotations : List (Node Annotation)) (text : List ℕ) (place : Span) : Type 0 where
  pub k : ℕ
  pub a : Node Annotation
  pub at : slice_get annotations k ≡ Some a
  pub first : All IsNoId (take k annotations)
  pub is : IsId a.inner text place

-- whatever the parts of the section are, this is its head
abbrev pub IsHead : List ℕ → ℕ → List ℕ → Type 0
IsHead section start name = (parts : List (List ℕ)) → AreParts section parts → name ≡ head start 0 None parts

abbrev pub needs_space : Option Kind → Kind → Bool
needs_space None k = false
needs_space (Some before) k = not (is_tight_after before || is_tight_before k)

-- the line with one more token, after the space between it and the token before
abbrev pub with_token : List ℕ → Option Kind → List ℕ → List ℕ
with_token line before u = line ++ (space_between before (kind_of u) ++ u)
