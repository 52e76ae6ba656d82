-- Without trailing commas: on lists and on trees.
use Rattle.std.specs.Prelude.{Bool, true, false, ◌&&◌, List, [], ◌∷◌}
use Rattle.cedar_tokens.specs.declared.kind.Kind.{Kind}
use Rattle.cedar_tokens.specs.declared.kind.Kind.TheVariants as K
use Rattle.cedar_tokens.specs.Kinds.{is, is_closing, begins}
use Rattle.cedar_grammar.specs.Trees.{Label, Forest, none, leaf, branch}

abbrev pub drop_if : {X : Type 0} → Bool → X → X → X
drop_if true x y = y
drop_if false x y = x

module _ {A : Type 0} (kind : A → Kind) where
  -- the list without each comma whose next token is a closing bracket
  abbrev pub plain : List A → List A
  plain [] = []
  plain (a ∷ ts) = drop_if (is K.Comma (kind a) && begins kind is_closing ts) (a ∷ plain ts) (plain ts)

  -- the next sibling is a closing bracket
  abbrev pub closes_next : Forest Label A → Bool
  closes_next none = false
  closes_next (leaf a f) = is_closing (kind a)
  closes_next (branch l f g) = false

  -- the trees without each comma whose next sibling is a closing bracket
  abbrev pub without_trailing : Forest Label A → Forest Label A
  without_trailing none = none
  without_trailing (leaf a f) = drop_if (is K.Comma (kind a) && closes_next f) (leaf a (without_trailing f)) (without_trailing f)
  without_trailing (branch l f g) = branch l (without_trailing f) (without_trailing g)
