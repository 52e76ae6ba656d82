use Rattle.std.proofs.Common.{◌≤◌, suc, length}
use Rattle.cedar_tokens.specs.Kinds.{begins, is_cond_word}
use Rattle.cedar_grammar.specs.Texts.{greatest_depth}
use Rattle.cedar_grammar.specs.Trees.{Label}
use Rattle.cedar_grammar.specs.Reader.Lines.{cond_rule}
use Rattle.cedar_reading.specs.Reading.{kind}
use Rattle.cedar_cst.specs.ReadingExprs.{at_depth}
use Rattle.cedar_reading.proofs.Manys.{ManyRead}
use Rattle.cedar_cst.proofs.cst.policies.parse_conds.Given as goal
use Rattle.cedar_grammar.specs.Erased.{cond_parts}

abbrev pub invariant-conds : goal.invariant-conds
invariant-conds l = (length l.rest ≤ length l.fn.tokens)
    × ManyRead Label.condition cond_parts (begins kind is_cond_word)
    (at_depth (suc greatest_depth) cond_rule) l.fn.tokens l.conds.items l.rest

abbrev pub decreases-conds : goal.decreases-conds
decreases-conds l = length l.rest
