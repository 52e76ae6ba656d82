-- The printing pass, from the first mark to the last. No public contract uses it.
use Rattle.std.specs.Prelude.{ℕ, ◌+◌, ◌-◌, false, ◌||◌, nat_le, if◌then◌else◌, List, [], ◌∷◌, ◌++◌, reverse, Option, Some, None}
use Rattle.cedar_layout.specs.Layout.{Piece, flat_space, flat_nothing, broken, indented}
use Rattle.cedar_layout.specs.Layout as layout
use Rattle.cedar_layout.specs.Inside.Computed.{capped}
use Rattle.cedar_print.specs.declared.place.Frame.{Frame}
use Rattle.cedar_print.specs.declared.place.Place.{Place}
use Rattle.cedar_print.specs.WrittenMarks.{Mark, text, line, line_or_nil, hard, nest, end_nest, begin, end_group, end_nothing}
use Rattle.cedar_print.specs.Inside.Measured.{Facts, first_or, others}

-- the state of printing: the nearest frame, and what is known of the next break and the next beginning, come first
pub record State : Type 0 where
  pub here : Frame
  pub outer : List Frame
  pub breaks : List ℕ
  pub begins : List (Option ℕ)
  pub start : ℕ

-- what a mark prints in a frame
abbrev pub pieces_of : Mark → Frame → List Piece
pieces_of (text s) f = layout.written s ∷ []
pieces_of line f = (if f.flat then flat_space else broken f.indent) ∷ []
pieces_of line_or_nil f = (if f.flat then flat_nothing else broken f.indent) ∷ []
pieces_of hard f = broken f.indent ∷ []
pieces_of _ f = []

abbrev pub after_break : State → State
after_break p = record p { breaks = others p.breaks; start = capped (p.here.indent + first_or 0 p.breaks) }

-- after a `Line` or a `LineOrNil`
abbrev pub after_line : State → State
after_line p = record p {
  breaks = others p.breaks;
  start = if p.here.flat then p.start else capped (p.here.indent + first_or 0 p.breaks);
}

-- inside a nest or a group
abbrev pub inside : Frame → State → State
inside f p = record p { here = f; outer = p.here ∷ p.outer }

-- around a nest or a group
abbrev pub outside : State → State
outside p = record p { here = first_or p.here p.outer; outer = others p.outer }

-- after a beginning, where this is known of its end
abbrev pub after_begin : ℕ → Option ℕ → State → State
after_begin w None p = p
after_begin w (Some stop) p = inside (record { flat = p.here.flat || nat_le (p.start - stop) w; indent = p.here.indent }) p

-- the state of printing after a mark
abbrev pub after : ℕ → Mark → State → State
after w (text s) p = p
after w line p = after_line p
after w line_or_nil p = after_line p
after w hard p = after_break p
after w (nest n) p = inside (record { flat = p.here.flat; indent = indented p.here.indent n }) p
after w begin p = after_begin w (first_or None p.begins) (record p { begins = others p.begins })
after w end_nest p = outside p
after w end_group p = outside p
after w end_nothing p = p

-- the pieces that marks print
abbrev pub printed : ℕ → List Mark → State → List Piece
printed w [] p = []
printed w (m ∷ ms) p = pieces_of m p.here ++ printed w ms (after w m p)

abbrev pub state_of : Place → State
state_of p = record {
  here = p.here;
  outer = reverse p.outer.items;
  breaks = reverse p.known.breaks.items;
  begins = reverse p.known.begins.items;
  start = p.start;
}

-- the state of printing at the first mark
abbrev pub at_first : Facts → State
at_first k = record { here = record { flat = false; indent = 0 }; outer = []; breaks = k.breaks; begins = k.begins; start = k.columns }
