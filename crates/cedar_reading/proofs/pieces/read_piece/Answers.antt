use Rattle.cedar_reading.proofs.Semicolons.{piece_whole}
use Rattle.cedar_reading.proofs.Lexing.{piece_lexemes}
use Rattle.cedar_reading.proofs.pieces.read_piece.Goals as goal

pub returns-clause-piece : goal.returns-clause-piece
returns-clause-piece c =
    let s = rw c.in-Some.is at c.in_ok-end.ensures.lexemes in
    piece_whole _ _ _ _ s.ends c.range_from.ensures.value c.rest_of_line.ensures.line

pub returns-clause-lexemes : goal.returns-clause-lexemes
returns-clause-lexemes c =
    let s = rw c.in-Some.is at c.in_ok-end.ensures.lexemes in
    piece_lexemes _ _ _ _ _ s c.range_from.ensures.value c.rest_of_line.ensures.line
