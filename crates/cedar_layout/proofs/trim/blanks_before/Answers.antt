use Rattle.std.proofs.Common.{◌-◌, length, subst, sym, arith}
use Rattle.std.specs.Str.{IsUtf8}
use Rattle.std.proofs.lemmas.Str.{IsCharBoundary-from_drop}
use Rattle.cedar_layout.proofs.Cleaning.{drop_rest}
use Rattle.cedar_layout.proofs.trim.blanks_before.Goals as goal

pub returns-clause-boundary : goal.returns-clause-boundary
returns-clause-boundary c =
    let text = c.args.text.now in
    let left = c.trim_start.result.now in
    let dropped = c.trim_start.ensures.value in
    IsCharBoundary-from_drop text (length text - length left) (omega arith)
    (subst IsUtf8 (sym (drop_rest dropped.0 text left dropped.1)) c.trim_start.utf8)
