-- What an iterator over the parts of a text returns, and what is left to it.
use Rattle.std.specs.Prelude.{◌≡◌, ℕ, List, [], ◌++◌, length, Option, None, Some}
use Rattle.std.specs.Iterator.{Count, at_most}
use Rattle.cedar_server.specs.Parts.{IsPart, HasPartKind}
use Rattle.cedar_server.specs.declared.parts.Part.{Part}
use Rattle.cedar_server.specs.declared.parts.Parts.{Parts}

-- the text after the parts so far
abbrev pub parts_left : Parts → List ℕ
parts_left s = s.rest.now

-- the bytes of a part
abbrev pub part_text : Part → List ℕ
part_text p = p.text.now

-- the part at the start of what is left is returned, with its kind, or nothing is left
abbrev pub GivesPart : Parts → Option Part → Parts → Type 0
GivesPart old None new = (parts_left old ≡ []) × (parts_left new ≡ parts_left old)
GivesPart old (Some p) new = IsPart (parts_left old) (part_text p) × HasPartKind p.kind (part_text p) × (parts_left old ≡ part_text p ++ parts_left new)

-- no more parts than bytes
abbrev pub count_left : Parts → Count
count_left s = at_most (length (parts_left s))
