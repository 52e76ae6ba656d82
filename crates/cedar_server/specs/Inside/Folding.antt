-- What the functions below `folds` add and find.
use Rattle.std.specs.Prelude.{◌≡◌, ◌⊎◌, ℕ, List, ◌++◌, map, Option, Some, None}
use Rattle.std.specs.List.{flat_map}
use Rattle.cedar_tokens.specs.declared.token.Span.{Span}
use Rattle.cedar_grammar.specs.Texts.{Accepted}
use Rattle.cedar_grammar.specs.declared.tree.Policies.{Policies}
use Rattle.cedar_grammar.specs.NodeTrees.{IsTreeOf}
use Rattle.cedar_server.specs.Parts.{AreParts}
use Rattle.cedar_server.specs.Folds.{policy_folds, several, lines}
use Rattle.cedar_server.specs.declared.folds.Fold.{Fold}
use Rattle.cedar_server.specs.declared.folds.FoldKind.{FoldKind}
use Rattle.cedar_server.specs.declared.folds.Line.{Line}

-- the folds of a section are added, or it isn't accepted
abbrev pub AddsFolds : List ℕ → ℕ → List Fold → List Fold → Type 0
AddsFolds section from old new = (¬ (Accepted section) × (new ≡ old))
    ⊎ ((p : Policies) × IsTreeOf section p × (new ≡ old ++ several section from (flat_map policy_folds p.policies.items)))

-- the lines of a text
pub record AreLines (text : List ℕ) (ls : List Line) : Type 0 where
  pub parts : List (List ℕ)
  pub are : AreParts text parts
  pub value : ls ≡ lines 0 Line.Blank parts

-- the runs of comments over several lines are added
abbrev pub AddsRuns : List ℕ → List Span → List Fold → List Fold → Type 0
AddsRuns text runs old new = new ≡ old ++ several text 0 (map (λ s. record { span = s; kind = FoldKind.Comments }) runs)

-- a run of comments with one more
abbrev pub joined : Option Span → Span → Span
joined None s = s
joined (Some first) s = record { start = first.start; end = s.end }
