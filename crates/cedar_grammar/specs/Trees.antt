-- Syntax trees. Every token of a production is a leaf of its tree.
use Rattle.std.specs.Prelude.{List, [], ◌∷◌, ◌++◌}

-- The labels of trees. The first two lines are the node types.
pub data Label : Type 0 where
  policies policy annotation ident str variable condition : Label
  expr or and relation add mult unary member access primary name ref slot rec_init : Label
  -- the variants of primaries, literals and relations that no token distinguishes
  boolean number string parens list fields compare has_or_like is_type : Label
  -- a count of signs where there is no sign, which no text gives
  bang dash : Label

-- Trees in a row: none; a leaf and the trees after it; a labelled tree with its parts, and the trees after it.
pub data Forest (L A : Type 0) : Type 0 where
  none : Forest L A
  leaf : A → Forest L A → Forest L A
  branch : L → Forest L A → Forest L A → Forest L A

-- the leaves in order
abbrev pub yield : {L A : Type 0} → Forest L A → List A
yield none = []
yield (leaf a f) = a ∷ yield f
yield (branch l f g) = yield f ++ yield g

-- one row of trees followed by another
abbrev pub join : {L A : Type 0} → Forest L A → Forest L A → Forest L A
join none g = g
join (leaf a f) g = leaf a (join f g)
join (branch l f h) g = branch l f (join h g)
