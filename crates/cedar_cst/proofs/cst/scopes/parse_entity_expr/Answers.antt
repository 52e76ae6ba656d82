use Rattle.cedar_grammar.specs.Reader.Rules.{entity}
use Rattle.cedar_grammar.specs.Reader.Lines.{operand}
use Rattle.cedar_reading.specs.Reading.{flat}
use Rattle.cedar_reading.proofs.LoneExprs.{lone_gives}
use Rattle.cedar_cst.proofs.cst.scopes.parse_entity_expr.Goals as goal

pub returns-clause-reads : goal.returns-clause-reads
returns-clause-reads c =
    let h = c.in_ok-entity.ensures.reads in
    lone_gives (flat (operand entity)) c.in_ok-entity.entity c.in_ok-lone_or.field-0.value
    c.or_expr.result c.in_ok-entity.rest _ h.0 c.in_ok-lone_or.ensures c.or_expr.ensures h.1 h.2
