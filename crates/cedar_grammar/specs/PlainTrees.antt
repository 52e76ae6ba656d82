-- Trees without trailing commas.
use Rattle.std.specs.Prelude.{ℕ, Bool, false, ◌&&◌, if◌then◌else◌, List}
use Rattle.cedar_tokens.specs.PlainList.{is_comma, is_closing_bracket}
use Rattle.cedar_grammar.specs.Trees.{Label, Forest, none, leaf, branch}

-- For tokens of any type that have a text.
module _ {A : Type 0} (text : A → List ℕ) where
  -- the first of the trees is a closing bracket
  abbrev pub closes : Forest Label A → Bool
  closes none = false
  closes (leaf a f) = is_closing_bracket (text a)
  closes (branch l f g) = false

  -- the trees without each comma whose next sibling is a closing bracket
  abbrev pub plain_trees : Forest Label A → Forest Label A
  plain_trees none = none
  plain_trees (leaf a f) = if is_comma (text a) && closes f then plain_trees f else leaf a (plain_trees f)
  plain_trees (branch l f g) = branch l (plain_trees f) (plain_trees g)
