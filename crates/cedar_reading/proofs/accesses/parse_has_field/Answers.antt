use Rattle.std.proofs.Common.{sym, ◌∙◌}
use Rattle.cedar_tokens.specs.declared.kind.Kind.TheVariants as K
use Rattle.cedar_grammar.specs.Trees.{Label}
use Rattle.cedar_grammar.proofs.Readers.Equations.{choice_yes, choice_no}
use Rattle.cedar_grammar.specs.Reader.Lines.{text_operand, has_field}
use Rattle.cedar_reading.specs.Reading.{flat}
use Rattle.cedar_grammar.specs.Erased.{add_parts}
use Rattle.cedar_reading.proofs.Operands.{gives_after}
use Rattle.cedar_reading.proofs.accesses.parse_has_field.Goals as goal

pub returns-then-begins-clause-reads : goal.returns-then-begins-clause-reads
returns-then-begins-clause-reads c =
    let h = c.in_ok-rest.ensures.reads in
    gives_after K.Has Label.add add_parts c.parse_text_operand.result _ _ _
    (flat text_operand) _ h.0 h.1 c.parse_text_operand.ensures.reads
    (choice_yes _ _ _ _ (sym c.begins.ensures ∙ c.if-begins.true))

pub returns-clause-reads : goal.returns-clause-reads
returns-clause-reads c =
    let h = c.in_ok-rest.ensures.reads in
    gives_after K.Has Label.add add_parts c.parse_fields.result _ _ _ (flat has_field) _ h.0 h.1
    c.parse_fields.ensures.reads (choice_no _ _ _ _ (sym c.begins.ensures ∙ c.if-begins.false))
