-- Marks that begin with those of a document.
use Rattle.std.proofs.Common.{ℕ, ℤ, List, [], ◌∷◌, ◌++◌, sym, subst, append_assoc, append-nil}
use Rattle.cedar_layout.specs.Layout.{Doc, nil, ◌·◌}
use Rattle.cedar_layout.specs.Layout as D
use Rattle.cedar_print.specs.WrittenMarks.{Mark, text, line, line_or_nil, hard, nest, end_nest, begin, end_group, end_nothing, AreMarks, none, both, a_text, a_line, a_line_or_nil, a_hard, a_nest, a_group, no_group}

-- the marks of a document, and then the last ones
pub data BeginWith : List Mark → Doc → List Mark → Type 0 where
  nothing_first : (rest : List Mark) → BeginWith rest nil rest
  in_turn : (ms ns rest : List Mark) (d e : Doc) → BeginWith ms d ns → BeginWith ns e rest
      → BeginWith ms (d · e) rest
  text_first : (s : List ℕ) (rest : List Mark) → BeginWith (text s ∷ rest) (D.text s) rest
  line_first : (rest : List Mark) → BeginWith (line ∷ rest) D.line rest
  line_or_nil_first : (rest : List Mark) → BeginWith (line_or_nil ∷ rest) D.line_or_nil rest
  hard_first : (rest : List Mark) → BeginWith (hard ∷ rest) D.hard rest
  nest_first : (n : ℤ) (ms : List Mark) (d : Doc) (rest : List Mark)
      → BeginWith ms d (end_nest ∷ rest) → BeginWith (nest n ∷ ms) (D.nest n d) rest
  group_first : (ms : List Mark) (d : Doc) (rest : List Mark)
      → BeginWith ms d (end_group ∷ rest) → BeginWith (begin ∷ ms) (D.group d) rest
  no_group_first : (ms : List Mark) (d : Doc) (rest : List Mark)
      → BeginWith ms d (end_nothing ∷ rest) → BeginWith (begin ∷ ms) d rest

begin_with : (ms : List Mark) (d : Doc) → AreMarks ms d → (rest : List Mark)
    → BeginWith (ms ++ rest) d rest
begin_with _ _ none rest = nothing_first rest
begin_with _ _ (both ms ns d e x y) rest = subst (λ xs. BeginWith xs (d · e) rest)
    (sym (append_assoc ms ns rest))
    (in_turn (ms ++ (ns ++ rest)) (ns ++ rest) rest d e
    (begin_with ms d x (ns ++ rest)) (begin_with ns e y rest))
begin_with _ _ (a_text s) rest = text_first s rest
begin_with _ _ a_line rest = line_first rest
begin_with _ _ a_line_or_nil rest = line_or_nil_first rest
begin_with _ _ a_hard rest = hard_first rest
begin_with _ _ (a_nest n ms d x) rest = subst (λ xs. BeginWith (nest n ∷ xs) (D.nest n d) rest)
    (sym (append_assoc ms (end_nest ∷ []) rest))
    (nest_first n (ms ++ end_nest ∷ rest) d rest (begin_with ms d x (end_nest ∷ rest)))
begin_with _ _ (a_group ms d x) rest = subst (λ xs. BeginWith (begin ∷ xs) (D.group d) rest)
    (sym (append_assoc ms (end_group ∷ []) rest))
    (group_first (ms ++ end_group ∷ rest) d rest (begin_with ms d x (end_group ∷ rest)))
begin_with _ _ (no_group ms d x) rest = subst (λ xs. BeginWith (begin ∷ xs) d rest)
    (sym (append_assoc ms (end_nothing ∷ []) rest))
    (no_group_first (ms ++ end_nothing ∷ rest) d rest (begin_with ms d x (end_nothing ∷ rest)))

-- the marks of a document begin with them, and nothing follows
pub begin_with_all : (ms : List Mark) (d : Doc) → AreMarks ms d → BeginWith ms d []
begin_with_all ms d x = subst (λ xs. BeginWith xs d []) (append-nil ms) (begin_with ms d x [])
