use Rattle.cedar_reading.proofs.Semicolons.{piece_whole}
use Rattle.cedar_policy_formatter.proofs.ranges.cuts.first_piece.Goals as goal

pub returns-clause-piece : goal.returns-clause-piece
returns-clause-piece c = piece_whole _ _ _ _ c.in_ok-end.ensures.end c.range_from.ensures.value
    c.rest_of_line.ensures.line
