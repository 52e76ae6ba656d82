-- What a list of the grammar begins with.
use Rattle.std.specs.Prelude.{ℕ, List, ◌++◌}
use Rattle.cedar_grammar.specs.Trees.{Label, Forest}
use Rattle.cedar_grammar.specs.Grammar.{IsSyntaxTree}

-- some list of the grammar at depth d begins with these tokens
pub record Begins (d : ℕ) (front : List (List ℕ)) : Type 0 where
  pub rest : List (List ℕ)
  pub tree : Forest Label (List ℕ)
  pub grammar : IsSyntaxTree (λ t. t) d tree (front ++ rest)
