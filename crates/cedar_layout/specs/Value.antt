-- What a `Document` means.
use Rattle.std.specs.Prelude.{List, [], ◌∷◌, map}
use Rattle.cedar_layout.specs.declared.layout.Document.{Document}
use Rattle.cedar_layout.specs.declared.layout.Document.TheOpen.{Document-F, Nil, Text, Line, LineOrNil, Hard, Seq, Nest, Group}
use Rattle.cedar_layout.specs.declared.layout.Document.TheFolds.{fold-Document}
use Rattle.cedar_layout.specs.Layout.{Doc, nil, ◌·◌, text, line, line_or_nil, hard, nest, group}

-- documents one after the other
abbrev pub joined : List Doc → Doc
joined [] = nil
joined (d ∷ ds) = d · joined ds

-- documents one after the other, with one more between neighbours
abbrev pub interspersed : Doc → List Doc → Doc
interspersed sep [] = nil
interspersed sep (d ∷ []) = d
interspersed sep (d ∷ ds) = d · sep · interspersed sep ds

-- a document, with each document inside it replaced by what it means
abbrev pub doc_step : Document-F Doc → Doc
doc_step Nil = nil
doc_step (Text s) = text s.now
doc_step Line = line
doc_step LineOrNil = line_or_nil
doc_step Hard = hard
doc_step (Seq v) = joined v.items
doc_step (Nest n b) = nest n b.value
doc_step (Group b) = group b.value

abbrev pub doc_of : Document → Doc
doc_of = fold-Document Doc doc_step

-- several documents, one after the other
abbrev pub docs_of : List Document → Doc
docs_of ds = joined (map doc_of ds)

-- one case of a document
abbrev pub doc_layer : Document-F Document → Doc
doc_layer Nil = nil
doc_layer (Text s) = text s.now
doc_layer Line = line
doc_layer LineOrNil = line_or_nil
doc_layer Hard = hard
doc_layer (Seq v) = docs_of v.items
doc_layer (Nest n b) = nest n (doc_of b.value)
doc_layer (Group b) = group (doc_of b.value)
