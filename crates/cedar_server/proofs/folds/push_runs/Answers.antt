use Rattle.std.proofs.Common.{◌+◌, ◌∷◌, ◌∙◌, ap, sym, subst, drop, Some, arith}
use Rattle.std.proofs.lemmas.List.{drop_more, drop_all}
use Rattle.cedar_server.proofs.Folding.{RunsSoFar, comment_so_far, other_so_far, runs_all}
use Rattle.cedar_server.proofs.folds.push_runs.Goals as goal

pub loop-line-preserved-in-Comment : goal.loop-line-preserved-in-Comment
loop-line-preserved-in-Comment c =
    let lines = c.args.lines.now in
    let k = c.loop-line.line-index in
    let left = drop (k + 1) lines in
    subst (λ z. RunsSoFar c.args.text.now lines c.args.folds.now.items c.loop-line.folds.items (Some z) left) (sym c.joined.ensures)
    (comment_so_far c.args.text.now lines (drop k lines) left c.args.folds.now.items c.loop-line.folds.items c.loop-line.run
    c.in-Comment.span (drop_more lines k _ c.loop-line-test.true ∙ ap (λ z. z ∷ left) c.in-Comment.is) c.loop-line.invariant)

pub loop-line-preserved : goal.loop-line-preserved
loop-line-preserved c =
    let lines = c.args.lines.now in
    let k = c.loop-line.line-index in
    other_so_far c.args.text.now lines (drop k lines) (drop (k + 1) lines) c.args.folds.now.items c.loop-line.folds.items
    c.push_run.new.folds.items c.loop-line.run _ (drop_more lines k _ c.loop-line-test.true) c.in_default.not-Comment
    c.in_ok-push_run.ensures c.loop-line.invariant

pub returns : goal.returns
returns c =
    let lines = c.args.lines.now in
    let k = c.loop-line.line-index in
    runs_all c.args.text.now lines (drop k lines) c.args.folds.now.items c.loop-line.folds.items c.push_run-2.new.folds.items
    c.loop-line.run (drop_all k lines (omega (arith, c.loop-line-test.false))) c.in_ok-push_run-2.ensures c.loop-line.invariant
