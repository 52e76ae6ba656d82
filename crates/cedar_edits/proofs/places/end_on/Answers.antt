use Rattle.std.proofs.Common.{◌≤◌, ◌+◌, arith, rules}
use Rattle.cedar_edits.proofs.LineStarts.{lines_before-within}
use Rattle.cedar_edits.proofs.Found.{own_place}
use Rattle.cedar_edits.proofs.places.end_on.Goals as goal

pub overflow_add-result : goal.overflow_add-result
overflow_add-result c =
    let below : c.args.line.number + 1 ≤ c.args.at = omega (
      arith,
      c.requires.line.begins.lines,
      lines_before-within c.args.text.now c.args.line.start,
    ) in search rules

pub returns-else-at-text : goal.returns-else-at-text
returns-else-at-text c = own_place c.args.encoding c.args.text.now c.args.at c.position_on.result
    c.requires.named.boundary c.requires.named.outside c.position_on.ensures
