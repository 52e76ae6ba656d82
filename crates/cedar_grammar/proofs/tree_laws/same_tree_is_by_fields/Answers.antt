use Rattle.cedar_grammar.proofs.Equal.{same_tree}
use Rattle.cedar_grammar.proofs.tree_laws.same_tree_is_by_fields.Goals as goal

pub returns : goal.returns
returns c a b = let h = same_tree a b in (h.1, h.0)
