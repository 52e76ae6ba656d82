use Rattle.std.proofs.Common.{◌<◌, length}
use Rattle.cedar_reading.proofs.Operands.{head, dotted, field_reader, AccessesRead}
use Rattle.cedar_reading.proofs.accesses.parse_fields.Given as goal

abbrev pub invariant-fields : goal.invariant-fields
invariant-fields l = (length l.rest < length l.fn.tokens)
    × AccessesRead head dotted field_reader l.item l.access.items l.fn.tokens l.rest

abbrev pub decreases-fields : goal.decreases-fields
decreases-fields l = length l.rest
