-- Dropping documents. No public contract uses it.
use Rattle.std.specs.Prelude.{ℕ, ◌+◌, ◌-◌, ◌*◌, List, [], ◌∷◌, map}
use Rattle.cedar_layout.specs.declared.layout.Document.{Document}
use Rattle.cedar_layout.specs.declared.layout.Document.TheOpen.{Document-F, Nil, Text, Line, LineOrNil, Hard, Seq, Nest, Group}
use Rattle.cedar_layout.specs.declared.layout.Document.TheFolds.{fold-Document}
use Rattle.cedar_layout.specs.Nodes.{nodes_of_all}

abbrev pub first_of : List ℕ → ℕ
first_of [] = 0
first_of (n ∷ ns) = n

abbrev pub nested_step : Document-F ℕ → ℕ
nested_step Nil = 0
nested_step (Text s) = 0
nested_step Line = 0
nested_step LineOrNil = 0
nested_step Hard = 0
nested_step (Seq v) = 1 + first_of v.items
nested_step (Nest n b) = 0
nested_step (Group b) = 0

-- how deep sequences nest at the first item of each
abbrev pub nested : Document → ℕ
nested = fold-Document ℕ nested_step

-- the same for the first document
abbrev pub nested_first : List Document → ℕ
nested_first ds = first_of (map nested ds)

-- More than the documents that are still processed: twice their nodes, without the sequences nested at the first item of
-- each, since no list is added before them again.
abbrev pub work : List Document → ℕ
work ds = 2 * nodes_of_all ds - nested_first ds
