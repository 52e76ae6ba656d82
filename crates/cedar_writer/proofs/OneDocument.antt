-- Marks are those of one document: read from the last to the first, an end says what its beginning
-- is.
use Rattle.std.proofs.Common.{◌≡◌, ℤ, Bool, true, false, List, [], ◌∷◌, ◌++◌, refl, ap, sym, ◌∙◌}
use Rattle.cedar_layout.specs.Layout.{Doc, nil, text_then, line_then, line_or_nil_then, hard_then, nest_then, group_then, ◌·◌}
use Rattle.cedar_layout.specs.Layout as D
use Rattle.cedar_layout.proofs.Values.{dot-nil, dot_assoc}
use Rattle.cedar_print.specs.WrittenMarks.{Mark, text, line, line_or_nil, hard, nest, end_nest, begin, end_group, end_nothing, AreMarks, none, both, a_text, a_line, a_line_or_nil, a_hard, a_nest, a_group, no_group}
use Rattle.cedar_writer.specs.Laws.{MarksAreOfOne}

-- what follows in the whole, and in each group or nest that has ended but not begun
data Stack : Type 0 where
  bottom : Doc → Stack
  above : Bool → Doc → Stack → Stack

abbrev before : Doc → Stack → Stack
before d (bottom e) = bottom (d · e)
before d (above b e s) = above b (d · e) s

abbrev wrapped : Bool → Doc → Doc
wrapped true d = D.group d
wrapped false d = d

abbrev close : Stack → Stack
close (bottom d) = bottom d
close (above b d s) = before (wrapped b d) s

abbrev close_nest : ℤ → Stack → Stack
close_nest n (bottom d) = bottom d
close_nest n (above b d s) = before (D.nest n d) s

abbrev step : Mark → Stack → Stack
step (text s) r = before (D.text s) r
step line r = before D.line r
step line_or_nil r = before D.line_or_nil r
step hard r = before D.hard r
step (nest n) r = close_nest n r
step begin r = close r
step end_nest r = above false nil r
step end_group r = above true nil r
step end_nothing r = above false nil r

abbrev steps : List Mark → Stack → Stack
steps [] r = r
steps (m ∷ ms) r = step m (steps ms r)

before_both : (d e : Doc) (r : Stack) → before d (before e r) ≡ before (d · e) r
before_both d e (bottom f) = ap bottom (sym (dot_assoc d e f))
before_both d e (above b f r) = ap (λ z. above b z r) (sym (dot_assoc d e f))

before_nil : (r : Stack) → r ≡ before nil r
before_nil (bottom e) = refl
before_nil (above b e r) = refl

steps_append : (ms ns : List Mark) (r : Stack) → steps (ms ++ ns) r ≡ steps ms (steps ns r)
steps_append [] ns r = refl
steps_append (m ∷ ms) ns r = ap (step m) (steps_append ms ns r)

are_steps : (ms : List Mark) (d : Doc) → AreMarks ms d → (r : Stack) → steps ms r ≡ before d r
are_steps _ _ none r = before_nil r
are_steps _ _ (both ms ns d e x y) r =
    steps_append ms ns r ∙ (ap (steps ms) (are_steps ns e y r)
    ∙ (are_steps ms d x (before e r) ∙ before_both d e r))
are_steps _ _ (a_text s) r = refl
are_steps _ _ a_line r = refl
are_steps _ _ a_line_or_nil r = refl
are_steps _ _ a_hard r = refl
are_steps _ _ (a_nest n ms d x) r =
    ap (close_nest n) (steps_append ms (end_nest ∷ []) r ∙ are_steps ms d x (above false nil r))
    ∙ ap (λ z. before (D.nest n z) r) (dot-nil d)
are_steps _ _ (a_group ms d x) r =
    ap close (steps_append ms (end_group ∷ []) r ∙ are_steps ms d x (above true nil r))
    ∙ ap (λ z. before (D.group z) r) (dot-nil d)
are_steps _ _ (no_group ms d x) r =
    ap close (steps_append ms (end_nothing ∷ []) r ∙ are_steps ms d x (above false nil r))
    ∙ ap (λ z. before z r) (dot-nil d)

same : {d e : Doc} → bottom d ≡ bottom e → d ≡ e
same h = cc

pub marks_are_of_one : MarksAreOfOne
marks_are_of_one ms d e x y = sym (dot-nil d)
    ∙ (same (sym (are_steps ms d x (bottom nil)) ∙ are_steps ms e y (bottom nil)) ∙ dot-nil e)
