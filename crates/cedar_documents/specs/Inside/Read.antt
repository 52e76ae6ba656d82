-- The document of marks, read from the first mark to the last. No public contract uses it.
use Rattle.std.specs.Prelude.{ℤ, List, [], ◌∷◌, map, reverse, Option, Some, None}
use Rattle.cedar_layout.specs.declared.layout.Document.{Document}
use Rattle.cedar_layout.specs.Layout.{Doc, nil, ◌·◌}
use Rattle.cedar_layout.specs.Layout as D
use Rattle.cedar_layout.specs.Value.{docs_of}
use Rattle.cedar_print.specs.WrittenMarks.{Mark, text, line, line_or_nil, hard, nest, end_nest, begin, end_group, end_nothing}
use Rattle.cedar_documents.specs.declared.document.Begun.{Begun}

-- what has begun, with the document before it: the columns of a nest, or none
pub record Open : Type 0 where
  pub columns : Option ℤ
  pub before : Doc

-- what has begun, the innermost first, and the document since then
pub record State : Type 0 where
  pub outer : List Open
  pub here : Doc

abbrev pub more : Doc → State → State
more d s = record { outer = s.outer; here = s.here · d }

abbrev pub opened : Option ℤ → State → State
opened n s = record { outer = record { columns = n; before = s.here } ∷ s.outer; here = nil }

-- a nest, if it has columns
abbrev pub nested : Option ℤ → Doc → Doc
nested None d = d
nested (Some n) d = D.nest n d

abbrev pub close : (Option ℤ → Doc → Doc) → List Open → Doc → State
close f [] d = record { outer = []; here = d }
close f (o ∷ os) d = record { outer = os; here = o.before · f o.columns d }

abbrev pub end_as : (Option ℤ → Doc → Doc) → State → State
end_as f s = close f s.outer s.here

-- after a mark
abbrev pub step : Mark → State → State
step (text s) t = more (D.text s) t
step line t = more D.line t
step line_or_nil t = more D.line_or_nil t
step hard t = more D.hard t
step (nest n) t = opened (Some n) t
step begin t = opened None t
step end_nest t = end_as nested t
step end_group t = end_as (λ _ d. D.group d) t
step end_nothing t = end_as (λ _ d. d) t

abbrev pub walk : List Mark → State → State
walk [] s = s
walk (m ∷ ms) s = walk ms (step m s)

abbrev pub open_of : Begun → Open
open_of b = record { columns = b.columns; before = docs_of b.before.items }

abbrev pub state_of : List Begun → List Document → State
state_of bs ds = record { outer = reverse (map open_of bs); here = docs_of ds }
