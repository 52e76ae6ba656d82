-- Walks over the marks of a document. No public contract uses it.
use Rattle.std.specs.Prelude.{ℕ, List, [], ◌∷◌, ◌++◌, reverse, sum_by, Option, Some, None}
use Rattle.std.specs.List.{flat_map}
use Rattle.cedar_layout.specs.Layout.{Doc, nil, text_then, line_then, line_or_nil_then, hard_then, nest_then, group_then}
use Rattle.cedar_layout.specs.Nodes.{nodes}
use Rattle.cedar_layout.specs.Value.{doc_of}
use Rattle.cedar_print.specs.declared.walk.Pending.{Pending}
use Rattle.cedar_print.specs.declared.mark.Mark as mark
use Rattle.cedar_print.specs.Marks.{mark_of}
use Rattle.cedar_print.specs.WrittenMarks.{Mark, text, line, line_or_nil, hard, nest, end_nest, begin, end_group}
use Rattle.cedar_print.specs.Inside.Measured.{Facts, before}

-- the marks of a document, in order
abbrev pub marks_in : Doc → List Mark
marks_in nil = []
marks_in (text_then s r) = text s ∷ marks_in r
marks_in (line_then r) = line ∷ marks_in r
marks_in (line_or_nil_then r) = line_or_nil ∷ marks_in r
marks_in (hard_then r) = hard ∷ marks_in r
marks_in (nest_then n d r) = nest n ∷ (marks_in d ++ end_nest ∷ marks_in r)
marks_in (group_then d r) = begin ∷ (marks_in d ++ end_group ∷ marks_in r)

-- a mark, if there is one
abbrev pub marks_in_option : Option mark.Mark → List Mark
marks_in_option None = []
marks_in_option (Some m) = mark_of m ∷ []

-- the marks of what is pending
abbrev pub marks_in_pending : Pending → List Mark
marks_in_pending (Pending.Document d) = marks_in (doc_of d.now)
marks_in_pending (Pending.Mark m) = mark_of m ∷ []

-- the marks that a walk to the last one has still to take
abbrev pub marks_ahead : List Pending → List Mark
marks_ahead ps = flat_map marks_in_pending (reverse ps)

-- the marks that a walk to the first one has still to take
abbrev pub marks_behind : List Pending → List Mark
marks_behind ps = flat_map marks_in_pending ps

abbrev pub nodes_in_pending : Pending → ℕ
nodes_in_pending (Pending.Document d) = nodes d.now
nodes_in_pending (Pending.Mark m) = 0

-- the cases of documents that are still to be taken up
abbrev pub nodes_pending : List Pending → ℕ
nodes_pending ps = sum_by nodes_in_pending ps

-- what is known before marks, where k is known after them
abbrev pub before_all : List Mark → Facts → Facts
before_all [] k = k
before_all (m ∷ ms) k = before m (before_all ms k)
