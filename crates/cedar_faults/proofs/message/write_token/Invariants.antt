use Rattle.std.proofs.Common.{◌≡◌, ℕ, List, ◌++◌, IsUtf8, chars, codes}
use Rattle.std.specs.Str.Iter.{chars_rest}
use Rattle.std.specs.Fmt.{HasWritten, IsPlainFormatter}
use Rattle.cedar_faults.specs.Messages.{quoted, shown}
use Rattle.cedar_faults.proofs.message.write_token.Given as goal

-- what is written, and what is left of the token, make the whole
abbrev pub invariant-loop-character : goal.invariant-loop-character
invariant-loop-character g l = IsUtf8 (chars_rest l.character-iterator) × (IsPlainFormatter l.fn.f
    → (done : List ℕ) × HasWritten g.W.Write.write_str_gives l.fn.f done l.f
    × (done ++ (shown l.left (chars (chars_rest l.character-iterator)) ++ codes "'") ≡ quoted (shown 30 (chars l.fn.token))))
