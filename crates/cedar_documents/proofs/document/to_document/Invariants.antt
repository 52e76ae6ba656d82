use Rattle.std.proofs.Common.{◌≡◌, [], drop}
use Rattle.cedar_layout.specs.Layout.{nil}
use Rattle.cedar_print.specs.Marks.{marks_of}
use Rattle.cedar_documents.specs.Inside.Read.{walk, state_of}
use Rattle.cedar_documents.proofs.document.to_document.Given as goal

-- the marks to come are read after those so far
abbrev pub invariant-loop-mark : goal.invariant-loop-mark
invariant-loop-mark l =
    walk (marks_of (drop l.mark-index l.marks)) (state_of l.begun.items l.docs.items)
    ≡ walk (marks_of l.marks) (record { outer = []; here = nil })
