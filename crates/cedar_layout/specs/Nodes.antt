-- How many nodes a document has.
use Rattle.std.specs.Prelude.{ℕ, ◌+◌, List, map, sum}
use Rattle.cedar_layout.specs.declared.layout.Document.{Document}
use Rattle.cedar_layout.specs.declared.layout.Document.TheOpen.{Document-F, Nil, Text, Line, LineOrNil, Hard, Seq, Nest, Group}
use Rattle.cedar_layout.specs.declared.layout.Document.TheFolds.{fold-Document}

-- one, plus those of the documents that it contains
abbrev pub nodes_step : Document-F ℕ → ℕ
nodes_step Nil = 1
nodes_step (Text s) = 1
nodes_step Line = 1
nodes_step LineOrNil = 1
nodes_step Hard = 1
nodes_step (Seq v) = 1 + sum v.items
nodes_step (Nest n b) = 1 + b.value
nodes_step (Group b) = 1 + b.value

-- the cases of `Document` in a document
abbrev pub nodes : Document → ℕ
nodes = fold-Document ℕ nodes_step

-- the same of several documents
abbrev pub nodes_of_all : List Document → ℕ
nodes_of_all ds = sum (map nodes ds)
