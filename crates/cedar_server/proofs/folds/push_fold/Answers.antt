use Rattle.std.proofs.Common.{◌++◌, ◌∷◌, [], ◌∙◌, ap, sym, append-nil}
use Rattle.cedar_tokens.specs.declared.token.Span.{Span}
use Rattle.cedar_server.specs.declared.folds.Fold.{Fold}
use Rattle.cedar_server.proofs.Folding.{one_kept, none_kept}
use Rattle.cedar_server.proofs.folds.push_fold.Goals as goal

pub returns-then-not-spans_lines : goal.returns-then-not-spans_lines
returns-then-not-spans_lines c =
    let old = c.args.folds.now.items in
    let e = sym c.spans_lines.ensures ∙ c.if-not-spans_lines.true in
    sym (ap (λ z. old ++ z) (none_kept c.args.text.now c.args.from c.args.fold e) ∙ append-nil old)

pub returns : goal.returns
returns c =
    let old = c.args.folds.now.items in
    let e = sym c.spans_lines.ensures ∙ c.if-not-spans_lines.false in
    let made : Span → Fold = λ z. record { span = z; kind = c.args.fold.kind } in
    c.in_ok-push.ensures.items ∙ ap (λ z. old ++ made z ∷ []) c.moved.ensures
    ∙ ap (λ z. old ++ z) (sym (one_kept c.args.text.now c.args.from c.args.fold e))
