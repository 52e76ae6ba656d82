use Rattle.std.proofs.Common.{◌-◌, length, List}
use Rattle.cedar_grammar.specs.declared.tree.Node.{Node}
use Rattle.cedar_grammar.specs.declared.tree.Policy.{Policy}
use Rattle.cedar_cst.specs.PolicyReaders.{HasRead}
use Rattle.cedar_faults.proofs.expected.leave.Given as goal

-- the reader has answered policies of the text
abbrev pub invariant-policies : goal.invariant-policies
invariant-policies l = (ps : List (Node Policy)) × HasRead l.reader l.fn.text ps

abbrev pub decreases-policies : goal.decreases-policies
decreases-policies l = length l.reader.text - l.reader.at
