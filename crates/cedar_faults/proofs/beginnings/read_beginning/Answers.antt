use Rattle.std.proofs.Common.{◌∙◌}
use Rattle.std.specs.Prelude.{take}
use Rattle.cedar_reading.specs.Lexemes.{AreLexemes}
use Rattle.cedar_reading.specs.Pieces.{IsFirstPiece}
use Rattle.cedar_faults.specs.Inside.Beginnings.{RefusesInside}
use Rattle.cedar_faults.proofs.Leaving.{piece_accepted, refused_piece}
use Rattle.cedar_faults.proofs.Passing.{from_start}
use Rattle.cedar_faults.proofs.beginnings.read_beginning.Goals as goal

pub returns-in-Some-2 : goal.returns-in-Some-2
returns-in-Some-2 c =
    let text = c.args.text.now in
    let n = c.in-Some.len in
    let p : IsFirstPiece text n = rw c.in-Some.is at c.in_ok-len.ensures.piece in
    let a : AreLexemes (take n text) _ = rw c.in-Some.is at c.in_ok-len.ensures.lexemes in
    let r : RefusesInside (take n text) c.in-Some-2.error =
    rw (c.range.ensures.value ∙ from_start text n) at (rw c.in-Some-2.is at c.in_ok-error.ensures) in
    refused_piece text n p.piece (record { units = a.units; split = a.split; fitting = a.fitting }) c.in-Some-2.error r

pub returns-in-None : goal.returns-in-None
returns-in-None c =
    let text = c.args.text.now in
    let n = c.in-Some.len in
    let p : IsFirstPiece text n = rw c.in-Some.is at c.in_ok-len.ensures.piece in
    let a : AreLexemes (take n text) _ = rw c.in-Some.is at c.in_ok-len.ensures.lexemes in
    record {
      boundary = rw c.in-Some.is at c.in_ok-len.ensures.boundary;
      piece = p.piece;
      accepted = piece_accepted text n p.piece (record { units = a.units; split = a.split; fitting = a.fitting }) (rw (c.range.ensures.value ∙ from_start text n) at (rw c.in-None.is at c.in_ok-error.ensures));
    }
