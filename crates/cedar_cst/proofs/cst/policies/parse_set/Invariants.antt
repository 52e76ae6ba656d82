use Rattle.std.proofs.Common.{suc, length}
use Rattle.cedar_grammar.specs.Texts.{greatest_depth}
use Rattle.cedar_grammar.specs.Trees.{Label}
use Rattle.cedar_grammar.specs.Reader.Lines.{policy_rule}
use Rattle.cedar_grammar.specs.Erased.{policy_parts}
use Rattle.cedar_cst.specs.ReadingExprs.{at_depth}
use Rattle.cedar_reading.proofs.Manys.{ManyRead}
use Rattle.cedar_cst.proofs.Sets.{starts}
use Rattle.cedar_cst.proofs.cst.policies.parse_set.Given as goal

abbrev pub invariant-policies : goal.invariant-policies
invariant-policies l = ManyRead Label.policy policy_parts starts
    (at_depth (suc greatest_depth) policy_rule) l.fn.tokens l.policies.items l.rest

abbrev pub decreases-policies : goal.decreases-policies
decreases-policies l = length l.rest
