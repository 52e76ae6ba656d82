-- What is around a place, as the code has it.
use Rattle.std.specs.Prelude.{reverse}
use Rattle.cedar_server.specs.Selections.{Nesting as Open}
use Rattle.cedar_server.specs.declared.selections.Nesting.{Nesting}

-- (the innermost open bracket is the last)
abbrev pub nesting_of : Nesting → Open
nesting_of a = record { opened = reverse a.opened.items; start = a.start }
