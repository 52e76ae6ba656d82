-- Marks that begin with those of a document are read as that document.
use Rattle.std.proofs.Common.{◌≡◌, List, [], ◌∷◌, Some, None, refl, sym, ap, ◌∙◌}
use Rattle.cedar_layout.specs.Layout.{Doc, nil, ◌·◌}
use Rattle.cedar_layout.proofs.Values.{dot-nil, dot_assoc}
use Rattle.cedar_print.specs.WrittenMarks.{Mark, end_nest, end_group, end_nothing, AreMarks}
use Rattle.cedar_print.proofs.Beginnings.{BeginWith, nothing_first, in_turn, text_first, line_first, line_or_nil_first, hard_first, nest_first, group_first, no_group_first, begin_with_all}
use Rattle.cedar_documents.specs.Inside.Read.{Open, State, walk}

-- with this document in place of the one since what began last
abbrev at : List Open → Doc → State
at os d = record { outer = os; here = d }

read_first : (ms : List Mark) (d : Doc) (rest : List Mark) → BeginWith ms d rest
    → (os : List Open) (h : Doc) → walk ms (at os h) ≡ walk rest (at os (h · d))
read_first _ _ _ (nothing_first rest) os h = ap (λ x. walk rest (at os x)) (sym (dot-nil h))
read_first _ _ _ (in_turn ms ns rest d e x y) os h =
    read_first ms d ns x os h ∙ read_first ns e rest y os (h · d)
    ∙ ap (λ z. walk rest (at os z)) (dot_assoc h d e)
read_first _ _ _ (text_first s rest) os h = refl
read_first _ _ _ (line_first rest) os h = refl
read_first _ _ _ (line_or_nil_first rest) os h = refl
read_first _ _ _ (hard_first rest) os h = refl
read_first _ _ _ (nest_first n ms d rest x) os h =
    read_first ms d (end_nest ∷ rest) x (record { columns = Some n; before = h } ∷ os) nil
read_first _ _ _ (group_first ms d rest x) os h =
    read_first ms d (end_group ∷ rest) x (record { columns = None; before = h } ∷ os) nil
read_first _ _ _ (no_group_first ms d rest x) os h =
    read_first ms d (end_nothing ∷ rest) x (record { columns = None; before = h } ∷ os) nil

-- the marks of a document are read as that document
pub read_all : (ms : List Mark) (d : Doc) → AreMarks ms d
    → walk ms (record { outer = []; here = nil }) ≡ record { outer = []; here = d }
read_all ms d x = read_first ms d [] (begin_with_all ms d x) [] nil
