use Rattle.std.proofs.Common.{◌≡◌, ◌++◌, map, take, drop}
use Rattle.cedar_cst.specs.Inside.Parts.{moved_lexeme}
use Rattle.cedar_cst.proofs.cst.reader.move_spans.Given as goal

abbrev pub invariant-loop-lexeme : goal.invariant-loop-lexeme
invariant-loop-lexeme l = l.lexemes
    ≡ map (moved_lexeme l.by) (take l.lexeme-index l.fn.lexemes) ++ drop l.lexeme-index l.fn.lexemes
