-- The leading lines of a token that are still to come.
use Rattle.std.specs.Prelude.{ℕ, List, ◌++◌, map}
use Rattle.cedar_tokens.specs.Tokens.{comments_left}
use Rattle.cedar_reading.specs.declared.lines.Lines.{Lines}
use Rattle.cedar_reading.specs.declared.lines.Texts.{Texts as Three}
use Rattle.cedar_reading.specs.declared.lines.Given.{Given as TheseLines}
use Rattle.cedar_reading.specs.declared.lines.Source.{Source}
use Rattle.cedar_reading.specs.declared.lines.Source.TheVariants.{Texts, Given}

-- the comments of three texts, one after the other
abbrev pub comments_of : Three → List (List ℕ)
comments_of t = comments_left t.first ++ (comments_left t.second ++ comments_left t.last)

-- lines as they are
abbrev pub given_lines : TheseLines → List (List ℕ)
given_lines g = map (λ l. l.now) g.lines.now

abbrev pub left_in : Source → List (List ℕ)
left_in (Texts t) = comments_of t
left_in (Given g) = given_lines g

abbrev pub lines_left : Lines → List (List ℕ)
lines_left l = left_in l.source
