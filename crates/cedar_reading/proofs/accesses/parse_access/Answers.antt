use Rattle.std.proofs.Common.{sym, ◌∙◌}
use Rattle.cedar_grammar.specs.Trees.{Label}
use Rattle.cedar_grammar.proofs.Readers.Equations.{choice_yes, choice_no}
use Rattle.cedar_grammar.specs.Erased.{access_parts}
use Rattle.cedar_reading.proofs.Steps.{gives_as}
use Rattle.cedar_reading.proofs.accesses.parse_access.Goals as goal

pub returns-then-begins-clause-reads : goal.returns-then-begins-clause-reads
returns-then-begins-clause-reads c = gives_as Label.access access_parts c.parse_field.result _ _
    c.parse_field.ensures.reads (choice_yes _ _ _ _ (sym c.begins.ensures ∙ c.if-begins.true))

pub returns-clause-reads : goal.returns-clause-reads
returns-clause-reads c = gives_as Label.access access_parts c.parse_index.result _ _
    c.parse_index.ensures.reads (choice_no _ _ _ _ (sym c.begins.ensures ∙ c.if-begins.false))
