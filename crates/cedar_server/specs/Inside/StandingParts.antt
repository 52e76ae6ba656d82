-- Nodes whose ends are places in a text.
use Rattle.std.specs.Prelude.{ℕ, List, [], ◌∷◌, IfSome, ⊤}
use Rattle.std.specs.Str.{IsCharBoundary}
use Rattle.cedar_tokens.specs.Split.{Splits}
use Rattle.cedar_tokens.specs.declared.token.Span.{Span}
use Rattle.cedar_grammar.specs.Trees.{none, leaf, branch}
use Rattle.cedar_grammar.specs.declared.tree.Node.{Node}
use Rattle.cedar_grammar.specs.declared.tree.Policy.{Policy}
use Rattle.cedar_grammar.specs.Erased.{Erased, policy_trees}

-- characters may begin where the span begins and ends
pub record Stands (text : List ℕ) (s : Span) : Type 0 where
  pub start : IsCharBoundary text s.start
  pub end : IsCharBoundary text s.end

-- this holds of the span of each node
abbrev pub EachSpan : (Span → Type 0) → Erased → Type 0
EachSpan P none = ⊤
EachSpan P (leaf t f) = EachSpan P f
EachSpan P (branch l f g) = IfSome l.1 P × EachSpan P f × EachSpan P g

-- a policy of a section that splits, with all nodes in it
pub record PolicyStands (section : List ℕ) (p : Node Policy) : Type 0 where
  pub splits : Splits section
  pub nodes : EachSpan (Stands section) (policy_trees (p ∷ []))
