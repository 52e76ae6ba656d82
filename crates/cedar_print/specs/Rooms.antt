-- Memory that a printer holds for reuse, of which nothing else is to be known, and memory that a text lacks for a layout.
use Rattle.std.specs.Prelude.{◌+◌, ◌<◌, ℕ, List, length, min, vec_capacity}
use Rattle.cedar_layout.specs.Layout.{Doc}
use Rattle.cedar_print.specs.WrittenMarks.{Mark, AreMarks}
use Rattle.cedar_print.specs.Clean.{IsUntrimmedLayoutAt}
use Rattle.cedar_print.specs.declared.measure.Known.{Known}
use Rattle.cedar_print.specs.declared.place.Place.{Place}
use Rattle.cedar_print.specs.declared.printer.Printer.{Printer}

-- how many marks can be measured without more memory
abbrev pub room_to_measure : Known → ℕ
room_to_measure k = min (vec_capacity k.ends) (min (vec_capacity k.breaks) (vec_capacity k.begins))

-- how many marks can be passed without more memory
abbrev pub room_in : Place → ℕ
room_in p = min (room_to_measure p.known) (vec_capacity p.outer)

-- how many marks can be laid out without more memory, but for that of the text
abbrev pub room_of : Printer → ℕ
room_of p = room_in p.place

-- a text of this capacity and length has no room for the layout at the width w of what the marks are of
abbrev pub HasNoRoomFor : ℕ → List Mark → ℕ → ℕ → Type 0
HasNoRoomFor w ms capacity len = (d : Doc) → AreMarks ms d → (u : List ℕ) × IsUntrimmedLayoutAt w d u × (capacity < len + length u)
