use Rattle.cedar_reading.proofs.Entities.{entity_read}
use Rattle.cedar_reading.proofs.names.parse_entity.Goals as goal

pub returns-in-Some-clause-reads : goal.returns-in-Some-clause-reads
returns-in-Some-clause-reads c = entity_read c.in_ok-path.path _ c.in-Some.eid c.entity_node.result
    _ c.in_ok-path.rest c.in_ok-path.ensures.reads c.in-Some.is c.entity_node.ensures
