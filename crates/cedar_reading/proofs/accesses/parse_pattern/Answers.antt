use Rattle.std.proofs.Common.{refl}
use Rattle.cedar_tokens.specs.declared.kind.Kind.TheVariants as K
use Rattle.cedar_grammar.specs.Trees.{Label}
use Rattle.cedar_grammar.specs.Reader.Lines.{text_operand}
use Rattle.cedar_reading.specs.Reading.{flat}
use Rattle.cedar_grammar.specs.Erased.{add_parts}
use Rattle.cedar_reading.proofs.Operands.{gives_after}
use Rattle.cedar_reading.proofs.accesses.parse_pattern.Goals as goal

pub returns-clause-reads : goal.returns-clause-reads
returns-clause-reads c =
    let h = c.in_ok-rest.ensures.reads in
    gives_after K.Like Label.add add_parts c.parse_text_operand.result _ _ _
    (flat text_operand) _ h.0 h.1 c.parse_text_operand.ensures.reads refl
