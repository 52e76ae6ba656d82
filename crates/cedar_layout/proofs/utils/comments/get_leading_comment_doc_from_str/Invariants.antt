use Rattle.std.proofs.Common.{◌≡◌, map, take}
use Rattle.cedar_layout.specs.Comments.{broken_lines}
use Rattle.cedar_layout.specs.Layout.{hard, ◌·◌}
use Rattle.cedar_layout.specs.Value.{docs_of}
use Rattle.cedar_layout.proofs.utils.comments.get_leading_comment_doc_from_str.Given as goal

abbrev pub invariant-loop-line : goal.invariant-loop-line
invariant-loop-line l =
    docs_of l.docs.items ≡ hard · broken_lines (map (λ s. s.now) (take l.line-index l.leading))
