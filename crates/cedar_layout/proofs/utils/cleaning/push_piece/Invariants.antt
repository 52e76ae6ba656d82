use Rattle.std.proofs.Common.{◌≡◌, ◌++◌, length, take, string_bytes}
use denote.Text.{Utf8}
use denote.Shadow.{shadow}
use Rattle.cedar_layout.specs.Cleaning.{clean_piece, piece_lines, without_blank_lines}
use Rattle.cedar_layout.proofs.utils.cleaning.push_piece.Given as goal

-- what was appended, followed by what is left of the rest, is the piece without its blank lines
abbrev pub invariant-loop-rest : goal.invariant-loop-rest
invariant-loop-rest l = record {
  utf8 : shadow (Utf8 l.rest);
  bytes : string_bytes l.out ++ without_blank_lines (piece_lines l.rest)
      ≡ string_bytes l.fn.out ++ clean_piece l.piece;
  kept : take (length (string_bytes l.fn.out)) (string_bytes l.out) ≡ string_bytes l.fn.out;
}

abbrev pub decreases-loop-rest : goal.decreases-loop-rest
decreases-loop-rest l = length l.rest
