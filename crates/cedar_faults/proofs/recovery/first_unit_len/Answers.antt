use Rattle.std.proofs.Common.{[], drop, ◌∷◌, sym, subst, ◌≡◌}
use Rattle.cedar_tokens.specs.Bytes.{quote}
use Rattle.cedar_tokens.specs.Units.{BeginsNoUnit}
use Rattle.cedar_faults.proofs.Lines.{from_quote}
use Rattle.cedar_faults.proofs.recovery.first_unit_len.Goals as goal

pub returns-then-as_bytes-eq34-clause-unit : goal.returns-then-as_bytes-eq34-clause-unit
returns-then-as_bytes-eq34-clause-unit c =
    let line = c.args.line.now in
    let is : line ≡ quote ∷ drop 1 line = from_quote line c.requires.some (rw c.as_bytes.ensures.value at c.if-as_bytes-eq34.true) in
    subst BeginsNoUnit (sym is) (c.requires.none_ends c.if-is_open.true [] (drop 1 line) is)
