use Rattle.std.proofs.Common.{length, take, subst, sym, ap, ◌∙◌, arith}
use Rattle.std.specs.Str.{IsUtf8}
use Rattle.std.proofs.lemmas.Str.{IsCharBoundary-from_take}
use Rattle.cedar_layout.proofs.trim.len_without_blanks.Goals as goal

pub returns-clause-boundary : goal.returns-clause-boundary
returns-clause-boundary c =
    let text = c.args.text.now in
    let left = c.trim_end.result.now in
    let taken = c.trim_end.ensures.value in
    IsCharBoundary-from_take text (length left) c.utf8.text (omega (arith, taken.4, taken.5))
    (subst IsUtf8 (taken.1 ∙ ap (λ k. take k text) (sym taken.4)) c.trim_end.utf8)
