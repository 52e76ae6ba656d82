-- The state of reading that a writer is in.
use Rattle.std.specs.Prelude.{ℕ, Bool, false, List, [], ◌∷◌, Option, Some, None}
use Rattle.cedar_tokens.specs.Listing.{Decorated}
use Rattle.cedar_print.specs.WrittenMarks as M
use Rattle.cedar_writer.specs.Writing.{State, going, refused, lost, choose}
use Rattle.cedar_print.specs.Marks.{mark_of}
use Rattle.cedar_print.specs.declared.mark.Mark.{Mark}
use Rattle.cedar_writer.specs.declared.writer.Stop.{Stop}
use Rattle.cedar_writer.specs.declared.writer.Stop.TheVariants.{Refused, OutOfRoom}

-- none or one
abbrev pub some_mark : Option Mark → List M.Mark
some_mark None = []
some_mark (Some m) = mark_of m ∷ []

-- the tokens without the first
abbrev pub after_first : List Decorated → List Decorated
after_first [] = []
after_first (t ∷ ts) = ts

-- the tokens, where led says whether the first one's leading lines are written
abbrev pub tokens_left : Bool → List Decorated → List Decorated
tokens_left led [] = []
tokens_left led (t ∷ ts) = record { text = t.text; leading = choose led [] t.leading; trailing = t.trailing } ∷ tokens_left false ts

abbrev pub state_of : Bool → Option Stop → List Decorated → List M.Mark → ℕ → State
state_of led None ts ms r = going (tokens_left led ts) ms r
state_of led (Some (Refused deep)) ts ms r = refused deep (tokens_left led ts)
state_of led (Some OutOfRoom) ts ms r = lost
