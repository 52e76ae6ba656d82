-- What a mark means.
use Rattle.std.specs.Prelude.{List, map}
use Rattle.cedar_print.specs.WrittenMarks as M
use Rattle.cedar_print.specs.declared.mark.Mark.{Mark}
use Rattle.cedar_print.specs.declared.mark.Mark.TheVariants.{Text, Space, Line, LineOrNil, Hard, Nest, EndNest, Begin, EndGroup, EndNothing}

-- the mark that it is
abbrev pub mark_of : Mark → M.Mark
mark_of (Text s) = M.text s.now
mark_of Space = M.space
mark_of Line = M.line
mark_of LineOrNil = M.line_or_nil
mark_of Hard = M.hard
mark_of (Nest n) = M.nest n.columns
mark_of EndNest = M.end_nest
mark_of Begin = M.begin
mark_of EndGroup = M.end_group
mark_of EndNothing = M.end_nothing

abbrev pub marks_of : List Mark → List M.Mark
marks_of ms = map mark_of ms
