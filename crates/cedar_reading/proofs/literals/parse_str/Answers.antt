use Rattle.cedar_grammar.specs.Trees.{Label, leaf, none}
use Rattle.cedar_grammar.proofs.Readers.Equations.{tree_done}
use Rattle.cedar_reading.proofs.Steps.{str_stands}
use Rattle.cedar_reading.proofs.literals.parse_str.Goals as goal

pub returns-clause-reads : goal.returns-clause-reads
returns-clause-reads c = (
  leaf c.in_ok-string.string none,
  tree_done Label.str _ _ _ _ c.in_ok-string.ensures.reads.0,
  str_stands _ _ c.str_node.ensures c.in_ok-string.ensures.reads.1,
)
