-- What an iterator over the units of a text returns, and what is left to it.
use Rattle.std.specs.Prelude.{◌≡◌, ℕ, List, ◌++◌, length, Option, None, Some}
use Rattle.std.specs.Iterator.{Count, at_most}
use Rattle.cedar_tokens.specs.Units.{IsFirstUnit, BeginsNoUnit}
use Rattle.cedar_tokens.specs.Split.{HasKind}
use Rattle.cedar_tokens.specs.declared.units.Unit.{Unit}
use Rattle.cedar_tokens.specs.declared.units.Units.{Units}

-- the text after the units so far
abbrev pub text_left : Units → List ℕ
text_left s = s.rest.now

-- the bytes of a unit
abbrev pub unit_text : Unit → List ℕ
unit_text u = u.text.now

-- the unit at the start of what is left is returned, with its kind, or none begins there
abbrev pub GivesUnit : Units → Option Unit → Units → Type 0
GivesUnit old None new = BeginsNoUnit (text_left old) × (text_left new ≡ text_left old)
GivesUnit old (Some u) new = IsFirstUnit (text_left old) (unit_text u) × HasKind u.kind (unit_text u) × (text_left old ≡ unit_text u ++ text_left new)

-- no more units than bytes
abbrev pub count_left : Units → Count
count_left s = at_most (length (text_left s))
