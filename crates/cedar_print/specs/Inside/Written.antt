-- What marks write, unit by unit. No public contract uses it.
use Rattle.std.specs.Prelude.{◌≡◌, ℕ, ◌+◌, ◌^◌, ◌<◌, ◌≤◌, false, List, length, [], ◌∷◌, ◌++◌, ⊤, replicate, Option, Some, None}
use Rattle.std.specs.List.{flat_map}
use Rattle.cedar_layout.specs.Layout.{broken}
use Rattle.cedar_print.specs.WrittenMarks.{Mark}
use Rattle.cedar_print.specs.declared.place.Written.{Written}
use Rattle.cedar_print.specs.declared.write.Held.{Held}
use Rattle.cedar_print.specs.Inside.Measured.{facts}
use Rattle.cedar_print.specs.Inside.Printed.{printed, at_first}
use Rattle.cedar_print.specs.Clean.{space, feed, units_of, is_blank, without_blank_lines}

-- the units that marks write at a width
abbrev pub units_at : ℕ → List Mark → List (List ℕ)
units_at w ms = flat_map units_of (printed w ms (at_first (facts ms)))

-- the columns of the marks can be counted
abbrev pub AreCounted : List Mark → Type 0
AreCounted ms = (facts ms).columns + 2 ^ 64 ≤ 2 ^ 128

-- they can, and a text of this capacity and length has no room for the units at the width w, without blank lines
abbrev pub HasNoRoomForUnits : ℕ → List Mark → ℕ → ℕ → Type 0
HasNoRoomForUnits w ms capacity len = AreCounted ms × (capacity < len + length (without_blank_lines false (units_at w ms)))

-- the units that a mark writes
abbrev pub units_in : Option Written → List (List ℕ)
units_in None = []
units_in (Some (Written.Text s)) = s.now ∷ []
units_in (Some Written.Space) = space ∷ []
units_in (Some (Written.Break i)) = units_of (broken i)

-- a text is no blank
abbrev pub IsSolid : Option Written → Type 0
IsSolid (Some (Written.Text s)) = is_blank s.now ≡ false
IsSolid _ = ⊤

-- what is held back: a break, and spaces
abbrev pub units_held : Option Held → List (List ℕ)
units_held None = []
units_held (Some h) = feed ∷ replicate (h.indent + h.spaces) space

-- the bytes of that
abbrev pub bytes_held : Option Held → ℕ
bytes_held None = 0
bytes_held (Some h) = 1 + h.indent + h.spaces

abbrev pub spaces_held : Option Held → ℕ
spaces_held None = 0
spaces_held (Some h) = h.spaces

-- what is written without blank lines after something was held back
abbrev pub clean_after : Option Held → List (List ℕ) → List ℕ
clean_after h us = without_blank_lines false (units_held h ++ us)
